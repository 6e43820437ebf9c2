-- Demand 1 of one call: what a refused call answers and leaves, from `ServesBy`.
use Prim.Native.Nat.{ℕ, ◌*◌, ◌≤◌, zero-le}
use native.Mathlib.Omega.{arith}
use mathlib.Core.Path.{◌≡◌, refl, sym, ap, subst, ◌∙◌}
use mathlib.Core.Logic.{inl}
use mathlib.Core.Bool.{Bool, true, false, cond}
use mathlib.Core.List.{List, [], ◌++◌}
use mathlib.Core.Option.{Option, none, some}
use lib.ListN.{length}
use lib.Dec.{leb}
use Rattle.qbf.specs.Formula.{Formula, Node, Literal, quantifiers}
use Rattle.qbf.specs.Truth.{Outcome, decided, mixed, outline, bound, select, decided_nodes, free_variables}
use Rattle.qbf.specs.Plain.{PlainResult}
use Rattle.qbf.specs.Open.{Reading, reading_of, is_full, open_search}
use Rattle.qbf.specs.Ceiling.{Attempt, finished, stopped, search_within}
use Rattle.qbf.specs.Card.{Mem, table_of, zero_table}
use Rattle.qbf.specs.Closest.{Found, closest_in}
use Rattle.qbf.specs.Calls.{Call, rule, query, card, forget, withdraw, keep_card, one, closest, card_of, Reply, done, refused, swap, keep, unsettled, lines, card_refused, found, Answer, refusal, rule_fault, one_fault, rule_reply, withdraw_fault, closest_fault, found_reply, from_card, query_fault, query_reply, card_reply_of, attempt_answer, open_answer, learning_reading, learning_query, learning_card, learning_closest, ceiling_of, start_node, guarded, well_formed, State as Read}
use Rattle.qbf.specs.Demands.{AfterSearch, refusal_of}
use Rattle.theory.proofs.AcceptedRule.{some_none}
use Rattle.theory.proofs.Refusals.{refusals}
use Rattle.theory.proofs.Demands.{demand_1, refusal_known, visits_under_ceiling}
use Rattle.serving.specs.Serves.{Said, said, said_reply, number, out_of, next_of, ServesBy}
use Rattle.serving.specs.Demands.{formula_of, zeroed, LeavesIfRefused, UnderCeiling}
use Rattle.serving.proofs.Numbered.{said_refusal, said_visits}

-- ---- a refused reply is the refusal of the call
same_number : {k n : ℕ} → some k ≡ some n → k ≡ n
same_number e = ap number e

refused_as : (c : Call) {k n : ℕ} → k ≡ n → refusal k c ≡ refusal n c
refused_as c e = ap (λ (m : ℕ). refusal m c) e

refusal_number : (c : Call) (k : ℕ) → refusal_of (refusal k c) ≡ some k
refusal_number (rule ls) k = refl
refusal_number (query top on off) k = refl
refusal_number (card top size) k = refl
refusal_number forget k = refl
refusal_number withdraw k = refl
refusal_number (keep_card top size) k = refl
refusal_number (one ls) k = refl
refusal_number (closest top size on off) k = refl

module _ (n : ℕ) where
  -- the reply to c is the refusal with n, if it is refused with n
  abbrev AsRefused : Call → Reply → Type 0
  AsRefused c r = refusal_of r ≡ some n → r ≡ refusal n c

  as_malformed : (c : Call) → AsRefused c (refusal 22 c)
  as_malformed c e = refused_as c (same_number (sym (refusal_number c 22) ∙ e))

  -- a rule, an exactly-one form or a withdrawal, judged without a search
  as_judged : (c : Call) → ((k : ℕ) → refused k ≡ refusal k c) → (o : Option ℕ) → AsRefused c (rule_reply o)
  as_judged c is none e = absurd (some_none (sym e))
  as_judged c is (some k) e = is k ∙ refused_as c (same_number e)

  module _ (y : Read) where
    abbrev b : Formula
    b = y.formula

    -- a search that stopped, or came to its end
    as_attempt : (c : Call) (over : Reply) → AsRefused c over → (top : ℕ) (tell : Outcome (Unit {0}) → Reply) → ((o : Outcome (Unit {0})) → AsRefused c (tell o))
        → (t : Attempt) → AsRefused c (attempt_answer over top tell t).out.reply
    as_attempt c over halt top tell each (finished w) e = each (outline w.outcome) e
    as_attempt c over halt top tell each (stopped st) e = halt e

    -- the query of a reading
    module _ (top : ℕ) (on off : List Literal) where
      abbrev asked : Call
      asked = query top on off

      ruled : (o : Outcome (Unit {0})) → AsRefused asked (query_reply o)
      ruled (decided true u) e = absurd (some_none (sym e))
      ruled (decided false u) e = absurd (some_none (sym e))
      ruled (mixed ds) e = absurd (some_none (sym e))

      as_open : (w : PlainResult) (fit : Bool) → AsRefused asked (open_answer fit y.store top w).out.reply
      as_open w true e = ruled w.outcome e
      as_open w false e = refused_as asked (same_number e)

      as_reading : (os : Reading) (full : Bool) → AsRefused asked (learning_reading full b y.store top on os).out.reply
      as_reading os true e =
          as_attempt asked (refused 34) (λ q. refused_as asked (same_number q)) top query_reply ruled
          (search_within b.limits b.prefix b.clauses top (bound (quantifiers b.prefix)) (start_node on b.prefix) y.store) e
      as_reading os false e = let w = open_search b.prefix b.clauses os (quantifiers b.prefix) [] in as_open w (leb w.visits top) e

      as_query : (o : Option ℕ) → AsRefused asked (learning_query o b y.store top on off).out.reply
      as_query none e = as_reading (reading_of on off b.prefix) (is_full (reading_of on off b.prefix)) e
      as_query (some k) e = refused_as asked (same_number e)

    as_card : (p : Bool) (top size : ℕ) → AsRefused (card_of p top size) (learning_card p b y.store top size).out.reply
    as_card p top size e =
        as_attempt (card_of p top size) (card_refused 34 (zero_table size)) (λ q. zeroed_card 34 p ∙ refused_as (card_of p top size) (same_number q)) top (card_reply_of p b.prefix size) told
        (search_within b.limits b.prefix b.clauses top (quantifiers b.prefix) [] y.store) e
      where
        zeroed_card : (k : ℕ) (p : Bool) → card_refused k (zero_table size) ≡ refusal k (card_of p top size)
        zeroed_card k true = refl
        zeroed_card k false = refl

        told : (o : Outcome (Unit {0})) → AsRefused (card_of p top size) (card_reply_of p b.prefix size o)
        told o q = by (leb (length them * free_variables b.prefix) size) q
          where
            them : List Node
            them = select p (decided_nodes [] o)

            by : (t : Bool) → AsRefused (card_of p top size) (cond t (lines them (table_of (free_variables b.prefix) size them)) (card_refused 21 (zero_table size)))
            by true z = absurd (some_none (sym z))
            by false z = zeroed_card 21 p ∙ refused_as (card_of p top size) (same_number z)

    -- the closest reading, from the reply to its card
    module _ (top size : ℕ) (on off : List Literal) where
      abbrev near : Call
      near = closest top size on off

      as_found : (ls : List Node) (tb : List ℕ) (o : Option Found) → AsRefused near (found_reply size ls tb o)
      as_found ls tb none e = refused_as near (same_number e)
      as_found ls tb (some r) e = absurd (some_none (sym e))

      as_from : (t : Node) (r : Reply) → AsRefused (card top size) r → AsRefused near (from_card size t r)
      as_from t done h e = h e
      as_from t (refused k) h e = h e
      as_from t swap h e = h e
      as_from t keep h e = h e
      as_from t unsettled h e = h e
      as_from t (lines ls tb) h e = as_found ls tb (closest_in ls t) e
      as_from t (card_refused k tb) h e = h e
      as_from t (found ls tb r) h e = h e

      as_closest : (o : Option ℕ) → AsRefused near (learning_closest o b y.store top size on).out.reply
      as_closest none e = as_from (start_node on b.prefix) (learning_card true b y.store top size).out.reply (as_card true top size) e
      as_closest (some k) e = refused_as near (same_number e)

    as_guarded : (g : Bool) (c : Call) → AsRefused c (guarded g y c).out.reply
    as_guarded false c e = as_malformed c e
    as_guarded true (rule ls) e = as_judged (rule ls) (λ k. refl) (rule_fault b ls) e
    as_guarded true (query top on off) e = as_query top on off (query_fault b [] (on ++ off)) e
    as_guarded true (card top size) e = as_card true top size e
    as_guarded true forget e = absurd (some_none (sym e))
    as_guarded true withdraw e = as_judged withdraw (λ k. refl) (withdraw_fault b) e
    as_guarded true (keep_card top size) e = as_card false top size e
    as_guarded true (one ls) e = as_judged (one ls) (λ k. refl) (one_fault b ls) e
    as_guarded true (closest top size on off) e = as_closest top size on off (closest_fault b on off) e

  as_refused : (o : Option Read) (c : Call) → AsRefused c (out_of o c).reply
  as_refused none c e = as_malformed c e
  as_refused (some y) c e = as_guarded y (well_formed y) c e

-- ---- what it says, and what it leaves
pub refusal_said : (c : Call) (n k : ℕ) → said_reply (refusal n c) k ≡ said (some n) 0 0 k (zeroed c)
refusal_said (rule ls) n k = refl
refusal_said (query top on off) n k = refl
refusal_said (card top size) n k = refl
refusal_said forget n k = refl
refusal_said withdraw n k = refl
refusal_said (keep_card top size) n k = refl
refusal_said (one ls) n k = refl
refusal_said (closest top size on off) n k = refl

known : (n : ℕ) (o : Option Read) (c : Call) → refusal_of (out_of o c).reply ≡ some n → Mem n (refusals c)
known n none c e = subst (λ (k : ℕ). Mem k (refusals c)) (same_number (sym (refusal_number c 22) ∙ e)) (first c)
  where
    first : (c : Call) → Mem 22 (refusals c)
    first (rule ls) = inl refl
    first (query top on off) = inl refl
    first (card top size) = inl refl
    first forget = inl refl
    first withdraw = inl refl
    first (keep_card top size) = inl refl
    first (one ls) = inl refl
    first (closest top size on off) = inl refl
known n (some y) c e = refusal_known y c n e

no_visits : (n : ℕ) (o : Option Read) (c : Call) → refusal_of (out_of o c).reply ≡ some n → (AfterSearch n → ⊥) → (out_of o c).visits ≡ 0
no_visits n none c e h = refl
no_visits n (some y) c e h = (demand_1 y c n e).visits h

-- a malformed state is refused before any search
at_ceiling : (n : ℕ) (o : Option Read) (c : Call) → refusal_of (out_of o c).reply ≡ some n → n ≡ 34 → ceiling_of c ≡ some (out_of o c).visits
at_ceiling n none c e h = absurd (omega (arith, same_number (sym (refusal_number c 22) ∙ e), h))
at_ceiling n (some y) c e h = (demand_1 y c n e).stopped h

same_formula : (n : ℕ) (o : Option Read) (c : Call) → refusal_of (out_of o c).reply ≡ some n → formula_of (next_of o c) ≡ formula_of o
same_formula n none c e = refl
same_formula n (some y) c e = ap some (demand_1 y c n e).formula

-- no more visits than the ceiling
pub under_ceiling : {X : Type 0} {read : X → Option Read} (x : X) (c : Call) (a : Said) (x' : X) → ServesBy read x c a x' → UnderCeiling x c a x'
under_ceiling {X} {read} x c a x' s n top = subst (λ (q : Said). q.visits ≤ n) (sym s.answered) (subst (λ (k : ℕ). k ≤ n) (sym (said_visits (out_of (read x) c).reply (out_of (read x) c).visits)) (few (read x)))
  where
    few : (o : Option Read) → (out_of o c).visits ≤ n
    few none = zero-le
    few (some y) = visits_under_ceiling y c n top

pub refused_leaves : {X : Type 0} {read : X → Option Read} (x : X) (c : Call) (a : Said) (x' : X) → ServesBy read x c a x' → LeavesIfRefused read x c a x'
refused_leaves {X} {read} x c a x' s n e =
    record {
      known = known n o c r;
      answer = says ∙ ap (λ (k : ℕ). said (some n) 0 0 k (zeroed c)) (sym (ap (λ (q : Said). q.visits) says));
      visits = λ h. ap (λ (q : Said). q.visits) says ∙ no_visits n o c r h;
      state = s.kept n r;
      stopped = λ h. at_ceiling n o c r h ∙ ap some (sym (ap (λ (q : Said). q.visits) says));
      formula = ap formula_of s.next ∙ same_formula n o c r;
    }
  where
    o : Option Read
    o = read x

    out : Answer
    out = out_of o c

    r : refusal_of out.reply ≡ some n
    r = sym (said_refusal out.reply out.visits) ∙ sym (ap (λ (q : Said). q.refusal) s.answered) ∙ e

    says : a ≡ said (some n) 0 0 out.visits (zeroed c)
    says = s.answered ∙ ap (λ (q : Reply). said_reply q out.visits) (as_refused n o c r) ∙ refusal_said c n out.visits
