-- A call under a share: what its limit changes, and what it does not.
use Prim.Native.Nat.{ℕ, ◌*◌, ◌≤◌, ◌<◌, min}
use native.Mathlib.Omega.{arith}
use mathlib.Core.Path.{◌≡◌, refl, sym, ap, ◌∙◌, subst}
use mathlib.Core.Logic.{◌⊎◌, inl, inr}
use mathlib.Core.Bool.{Bool, true, false, cond}
use mathlib.Core.List.{List, [], ◌++◌}
use mathlib.Core.Option.{Option, none, some}
use lib.ListN.{length}
use lib.Dec.{eqb, leb, ltb}
use borrow.Author.Tests.{eqb-true, le-ltb, ltb-true, ltb-false, ne_eqb}
use Rattle.qbf.specs.Formula.{Formula, Literal, Node, quantifiers}
use Rattle.qbf.specs.Truth.{Verdict, Outcome, bound, decided, decided_nodes, free_variables, mixed, select}
use Rattle.qbf.specs.Plain.{plain_search}
use Rattle.qbf.specs.Open.{is_full, open_search, reading_of}
use Rattle.qbf.specs.Card.{table_of, zero_table}
use Rattle.qbf.specs.Closest.{Found, closest_in}
use Rattle.qbf.specs.Calls.{Answer, Call, Reply, State, answer, card, card_refused, card_reply, ceiling_of, closest, closest_fault, done, forget, found, found_reply, from_card, guarded, keep, keep_card, lines, next_formula, one, query, query_fault, query_reply, refusal, refused, rule, start_node, step, swap, unsettled, well_formed, withdraw}
use Rattle.qbf.specs.Runs.{plain_call, plain_card, plain_closest, plain_query, plain_reading}
use Rattle.qbf.specs.Demands.{Agrees, Stopped, refusal_of}
use Rattle.theory.proofs.AcceptedRule.{some_none}
use Rattle.theory.proofs.Refusals.{closest_eight, eight, under_ceiling}
use Rattle.days.specs.Accounts.{stop_number}
use Rattle.days.specs.Day.{limited, shared_reply, stop_as, stopped_as}
use Rattle.days.specs.Promises.{AsAlone, Shared}

-- ---- the call
module _ (m : ℕ) where
  pub limited_formula : (b : Formula) (c : Call) → next_formula b (limited m c) ≡ next_formula b c
  limited_formula b (rule ls) = refl
  limited_formula b (query k on off) = refl
  limited_formula b (card k size) = refl
  limited_formula b forget = refl
  limited_formula b withdraw = refl
  limited_formula b (keep_card k size) = refl
  limited_formula b (one ls) = refl
  limited_formula b (closest k size on off) = refl

  -- the plain run has no ceiling
  pub limited_plain : (b : Formula) (c : Call) → plain_call b (limited m c) ≡ plain_call b c
  limited_plain b (rule ls) = refl
  limited_plain b (query k on off) = refl
  limited_plain b (card k size) = refl
  limited_plain b forget = refl
  limited_plain b withdraw = refl
  limited_plain b (keep_card k size) = refl
  limited_plain b (one ls) = refl
  limited_plain b (closest k size on off) = refl

  limited_refusal : (n : ℕ) (c : Call) → refusal n (limited m c) ≡ refusal n c
  limited_refusal n (rule ls) = refl
  limited_refusal n (query k on off) = refl
  limited_refusal n (card k size) = refl
  limited_refusal n forget = refl
  limited_refusal n withdraw = refl
  limited_refusal n (keep_card k size) = refl
  limited_refusal n (one ls) = refl
  limited_refusal n (closest k size on off) = refl

  -- the ceiling
  abbrev least : Option ℕ → Option ℕ
  least none = none
  least (some k) = some (min k m)

  pub limited_ceiling : (c : Call) → ceiling_of (limited m c) ≡ least (ceiling_of c)
  limited_ceiling (rule ls) = refl
  limited_ceiling (query k on off) = refl
  limited_ceiling (card k size) = refl
  limited_ceiling forget = refl
  limited_ceiling withdraw = refl
  limited_ceiling (keep_card k size) = refl
  limited_ceiling (one ls) = refl
  limited_ceiling (closest k size on off) = refl

  -- a call whose own ceiling is no larger stays as it is
  pub limited_same : (c : Call) → ((k : ℕ) → ceiling_of c ≡ some k → k ≤ m) → limited m c ≡ c
  limited_same (rule ls) h = refl
  limited_same (query k on off) h = let e : min k m ≡ k = omega (arith, h k refl) in ap (λ (i : ℕ). query i on off) e
  limited_same (card k size) h = let e : min k m ≡ k = omega (arith, h k refl) in ap (λ (i : ℕ). card i size) e
  limited_same forget h = refl
  limited_same withdraw h = refl
  limited_same (keep_card k size) h = let e : min k m ≡ k = omega (arith, h k refl) in ap (λ (i : ℕ). keep_card i size) e
  limited_same (one ls) h = refl
  limited_same (closest k size on off) h = let e : min k m ≡ k = omega (arith, h k refl) in ap (λ (i : ℕ). closest i size on off) e

-- ---- visits
-- a call without a ceiling makes none
pub no_search : (x : State) (c : Call) → ceiling_of c ≡ none → (step x c).out.visits ≡ 0
no_search x c e = by (well_formed x) c e
  where
    by : (g : Bool) (c : Call) → ceiling_of c ≡ none → (guarded g x c).out.visits ≡ 0
    by false c e = refl
    by true (rule ls) e = refl
    by true (query k on off) e = absurd (some_none e)
    by true (card k size) e = absurd (some_none e)
    by true forget e = refl
    by true withdraw e = refl
    by true (keep_card k size) e = absurd (some_none e)
    by true (one ls) e = refl
    by true (closest k size on off) e = absurd (some_none e)

pub visits_limited : (x : State) (m : ℕ) (c : Call) → (step x (limited m c)).out.visits ≤ m
visits_limited x m c = by (ceiling_of c) refl
  where
    by : (o : Option ℕ) → ceiling_of c ≡ o → (step x (limited m c)).out.visits ≤ m
    by none e = omega (arith, no_search x (limited m c) (limited_ceiling m c ∙ ap (least m) e))
    by (some k) e = omega (arith, under_ceiling x (limited m c) (min k m) (limited_ceiling m c ∙ ap (least m) e))

-- ---- the reply
stop_same : (n : ℕ) → stop_as 34 n ≡ n
stop_same n = by (eqb n 34) refl
  where
    by : (x : Bool) → eqb n 34 ≡ x → cond x 34 n ≡ n
    by true e = sym (eqb-true n 34 e)
    by false e = refl

-- 34 stays
stopped_same : (r : Reply) → stopped_as 34 r ≡ r
stopped_same done = refl
stopped_same (refused n) = ap refused (stop_same n)
stopped_same swap = refl
stopped_same keep = refl
stopped_same unsettled = refl
stopped_same (lines ls tb) = refl
stopped_same (card_refused n tb) = ap (λ (k : ℕ). card_refused k tb) (stop_same n)
stopped_same (found ls tb r) = refl

-- a reply that is no stopped search's stays
stop_other : (k n : ℕ) → (n ≡ 34 → ⊥) → stop_as k n ≡ n
stop_other k n h = ap (λ (x : Bool). cond x k n) (ne_eqb n 34 h)

renamed : (r : Reply) → (stopped_as 37 r ≡ r) ⊎ (refusal_of r ≡ some 34)
renamed done = inl refl
renamed (refused n) = by (eqb n 34) refl
  where
    by : (x : Bool) → eqb n 34 ≡ x → (refused (cond (eqb n 34) 37 n) ≡ refused n) ⊎ (◌≡◌ {A = Option ℕ} (some n) (some 34))
    by true e = inr (ap some (eqb-true n 34 e))
    by false e = inl (ap (λ (y : Bool). refused (cond y 37 n)) e)
renamed swap = inl refl
renamed keep = inl refl
renamed unsettled = inl refl
renamed (lines ls tb) = inl refl
renamed (card_refused n tb) = by (eqb n 34) refl
  where
    by : (x : Bool) → eqb n 34 ≡ x → (card_refused (cond (eqb n 34) 37 n) tb ≡ card_refused n tb) ⊎ (◌≡◌ {A = Option ℕ} (some n) (some 34))
    by true e = inr (ap some (eqb-true n 34 e))
    by false e = inl (ap (λ (y : Bool). card_refused (cond y 37 n) tb) e)
renamed (found ls tb r) = inl refl

-- "Apart from that limit a book answers as if alone"
pub reply_alone : (o : Option ℕ) (m : ℕ) (a : Answer) → AsAlone (answer (shared_reply o m a.reply) a.visits) a
reply_alone none m a = record { visits = refl; reply = inl refl }
reply_alone (some own) m a = record { visits = refl; reply = by (ltb m own) }
  where
    pick : (stopped_as 37 a.reply ≡ a.reply) ⊎ (refusal_of a.reply ≡ some 34) → (stopped_as 37 a.reply ≡ a.reply) ⊎ ((refusal_of a.reply ≡ some 34) × (stopped_as 37 a.reply ≡ stopped_as 37 a.reply))
    pick (inl e) = inl e
    pick (inr e) = inr (e, refl)

    by : (x : Bool) → (stopped_as (cond x 37 34) a.reply ≡ a.reply) ⊎ ((refusal_of a.reply ≡ some 34) × (stopped_as (cond x 37 34) a.reply ≡ stopped_as 37 a.reply))
    by true = pick (renamed a.reply)
    by false = inl (stopped_same a.reply)

-- where the own ceiling is no larger than the share the reply is that of the call alone
pub reply_own : (o : Option ℕ) (m : ℕ) → ((k : ℕ) → o ≡ some k → k ≤ m) → (r : Reply) → shared_reply o m r ≡ r
reply_own none m h r = refl
reply_own (some own) m h r = ap (λ (x : Bool). stopped_as (cond x 37 34) r) (le-ltb m own (h own refl)) ∙ stopped_same r

stopped_refusal : (k : ℕ) (c : Call) → stopped_as k (refusal 34 c) ≡ refusal k c
stopped_refusal k (rule ls) = refl
stopped_refusal k (query n on off) = refl
stopped_refusal k (card n size) = refl
stopped_refusal k forget = refl
stopped_refusal k withdraw = refl
stopped_refusal k (keep_card n size) = refl
stopped_refusal k (one ls) = refl
stopped_refusal k (closest n size on off) = refl

-- ---- the plain run is never stopped
module _ (k : ℕ) where
  abbrev Kept : Reply → Type 0
  Kept r = stopped_as k r ≡ r

  outcome_kept : (o : Outcome (Unit {0})) → Kept (query_reply o)
  outcome_kept (decided true x) = refl
  outcome_kept (decided false x) = refl
  outcome_kept (mixed ds) = refl

  card_kept : (f size : ℕ) (ls : List Node) → Kept (card_reply f size ls)
  card_kept f size ls = by (leb (length ls * f) size)
    where
      by : (x : Bool) → Kept (cond x (lines ls (table_of f size ls)) (card_refused 21 (zero_table size)))
      by true = refl
      by false = refl

  closest_kept : (f size : ℕ) (t : Node) (ls : List Node) → Kept (from_card size t (card_reply f size ls))
  closest_kept f size t ls = by (leb (length ls * f) size)
    where
      line : (o : Option Found) → Kept (found_reply size ls (table_of f size ls) o)
      line none = refl
      line (some r) = refl

      by : (x : Bool) → Kept (from_card size t (cond x (lines ls (table_of f size ls)) (card_refused 21 (zero_table size))))
      by true = line (closest_in ls t)
      by false = refl

  module _ (b : Formula) where
    read_kept : (on off : List Literal) (x : Bool) → Kept (plain_reading x b on (reading_of on off b.prefix)).reply
    read_kept on off true = outcome_kept (plain_search b.prefix b.clauses (bound (quantifiers b.prefix)) (start_node on b.prefix)).outcome
    read_kept on off false = outcome_kept (open_search b.prefix b.clauses (reading_of on off b.prefix) (quantifiers b.prefix) []).outcome

    query_kept : (on off : List Literal) (o : Option ℕ) → query_fault b [] (on ++ off) ≡ o → Kept (plain_query o b on off).reply
    query_kept on off (some n) e = ap refused (stop_other k n (λ z. absurd (omega (arith, z, eight b (on ++ off) n e))))
    query_kept on off none e = read_kept on off (is_full (reading_of on off b.prefix))

    made_kept : (size : ℕ) (p : Verdict) → Kept (plain_card p b size).reply
    made_kept size p = card_kept (free_variables b.prefix) size (select p (decided_nodes [] (plain_search b.prefix b.clauses (quantifiers b.prefix) []).outcome))

    near_kept : (size : ℕ) (on off : List Literal) (o : Option ℕ) → closest_fault b on off ≡ o → Kept (plain_closest o b size on).reply
    near_kept size on off (some j) e = ap (λ (i : ℕ). card_refused i (zero_table size)) (stop_other k j (λ z. absurd (omega (arith, z, closest_eight b on off j e))))
    near_kept size on off none e = closest_kept (free_variables b.prefix) size (start_node on b.prefix) (select true (decided_nodes [] (plain_search b.prefix b.clauses (quantifiers b.prefix) []).outcome))

-- only a call with a ceiling is looked at
shared_plain : (m : ℕ) (b : Formula) (c : Call) → shared_reply (ceiling_of c) m (plain_call b c).reply ≡ (plain_call b c).reply
shared_plain m b (rule ls) = refl
shared_plain m b (query n on off) = query_kept (stop_number n m) b on off (query_fault b [] (on ++ off)) refl
shared_plain m b (card n size) = made_kept (stop_number n m) b size true
shared_plain m b forget = refl
shared_plain m b withdraw = refl
shared_plain m b (keep_card n size) = made_kept (stop_number n m) b size false
shared_plain m b (one ls) = refl
shared_plain m b (closest n size on off) = near_kept (stop_number n m) b size on off (closest_fault b on off) refl

-- ---- against the plain run
pub reply_shared : (m : ℕ) (b : Formula) (c : Call) (a : Answer) → Agrees (limited m c) a (plain_call b (limited m c)) → Shared c (answer (shared_reply (ceiling_of c) m a.reply) a.visits) (plain_call b c)
reply_shared m b c a w = by (subst (Agrees (limited m c) a) (limited_plain m b c) w)
  where
    l : Answer
    l = answer (shared_reply (ceiling_of c) m a.reply) a.visits

    stop : (o : Option ℕ) → ceiling_of c ≡ o → Stopped (limited m c) a (plain_call b c) → Shared c (answer (shared_reply o m a.reply) a.visits) (plain_call b c)
    stop none e s = absurd (some_none (sym s.ceiling ∙ limited_ceiling m c ∙ ap (least m) e))
    stop (some own) e s = inr (record { own = own; ceiling = e; reply = which (ltb m own) refl; needed = s.needed })
      where
        made : a.visits ≡ min own m
        made = let q : some a.visits ≡ some (min own m) = sym s.ceiling ∙ limited_ceiling m c ∙ ap (least m) e in cc

        told : (k : ℕ) → stopped_as k a.reply ≡ refusal k c
        told k = ap (stopped_as k) (s.reply ∙ limited_refusal m 34 c) ∙ stopped_refusal k c

        which : (x : Bool) → ltb m own ≡ x → ((stopped_as (cond x 37 34) a.reply ≡ refusal 34 c) × (a.visits ≡ own)) ⊎ ((stopped_as (cond x 37 34) a.reply ≡ refusal 37 c) × (a.visits < own))
        which true z = inr (told 37, omega (arith, made, ltb-true m own z))
        which false z = inl (told 34, omega (arith, made, ltb-false m own z))

    by : Agrees (limited m c) a (plain_call b c) → Shared c l (plain_call b c)
    by (inl g) = inl (record { reply = ap (shared_reply (ceiling_of c) m) g.reply ∙ shared_plain m b c; visits = g.visits })
    by (inr s) = stop (ceiling_of c) refl s
