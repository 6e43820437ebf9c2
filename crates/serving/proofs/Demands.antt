-- The three demands of the code, over every list of calls: whatever functions serve them, if each meets `ServesBy`.
use Prim.Native.Nat.{ℕ, ◌≤◌, ◌<◌}
use mathlib.Core.Path.{◌≡◌, refl, sym, ap, ◌∙◌, subst}
use mathlib.Core.Logic.{◌⊎◌, inl, inr}
use mathlib.Core.Bool.{Bool, true, false, not, true≢false}
use mathlib.Core.List.{List, [], ◌∷◌, ◌++◌, map}
use mathlib.Core.Option.{Option, none, some}
use lib.Dec.{leb}
use Rattle.qbf.specs.Formula.{Formula, Node, Literal, quantifiers}
use Rattle.qbf.specs.Plain.{PlainResult}
use Rattle.qbf.specs.Open.{Reading, reading_of, is_full, open_search}
use Rattle.qbf.specs.Calls.{Call, rule, query, card, forget, withdraw, keep_card, one, closest, card_of, Reply, done, refused, swap, keep, unsettled, lines, card_refused, found, Answer, next_formula, State as Read, formula_is_ok, well_formed, one_fault, rule_reply, query_fault, start_node, open_answer, learning_reading, learning_query, guarded, step}
use Rattle.qbf.specs.Partition.{keeps_clauses}
use Rattle.qbf.specs.Runs.{after, fresh, learning_run, plain_run}
use Rattle.qbf.specs.Demands.{Agree, Agrees, AllAgree, CardOwed, ClosestReplyOwed, QueryOwed, Stopped, refusal_of}
use Rattle.theory.proofs.AcceptedRule.{some_none}
use Rattle.theory.proofs.Runs.{Reached, fresh_reached, step_ok}
use Rattle.theory.proofs.Cards.{after_reached, card_owed}
use Rattle.theory.proofs.Queries.{query_owed}
use Rattle.theory.proofs.OneCall.{call_adds}
use Rattle.theory.proofs.ClosestCall.{closest_no_store, closest_right}
use Rattle.theory.proofs.Partition.{cards_partition, same_clauses}
use Rattle.theory.proofs.Demands.{demand_3, finished_if_fits}
use Rattle.serving.specs.Serves.{Said, said, said_with, said_reply, said_of, out_of, next_of, ServesBy, ServedBy}
use Rattle.serving.specs.Demands.{zeroed, LeavesIfRefused, UnderCeiling, OneAddsTo, AddsIfOne, Each, CardBy, IfCard, RightIfCard, EachStanding, CardsRight, QueryBy, RightIfQuery, QueriesRight, ClosestBy, RightIfClosest, ClosestsRight, Shows, Together, LaterTogether, CardsTogether, SaidAgrees, SaidStopped, SaidRightly, AllSaid, AnswersPlain, DemandsBy}
use Rattle.serving.proofs.Numbered.{said_refusal}
use Rattle.serving.proofs.Refused.{refused_leaves, refusal_said, under_ceiling}

-- an exactly-one form that is not refused is accepted
one_done : (y : Read) (ls : List Literal) → refusal_of (step y (one ls)).out.reply ≡ none → (step y (one ls)).out.reply ≡ done
one_done y ls e = by (well_formed y) e
  where
    judged : (o : Option ℕ) → refusal_of (rule_reply o) ≡ none → rule_reply o ≡ done
    judged none q = refl
    judged (some k) q = absurd (some_none q)

    by : (g : Bool) → refusal_of (guarded g y (one ls)).out.reply ≡ none → (guarded g y (one ls)).out.reply ≡ done
    by true q = judged (one_fault y.formula ls) q
    by false q = absurd (some_none q)

-- however a state is read
module _ {X : Type 0} (read : X → Option Read) where
  -- ---- DEMAND 1 of the code, on every state, opened or not: each call that is refused has one of the paper's numbers, and answers and
  -- leaves what the paper says.
  pub demand_1_served : (x : X) (cs : List Call) (qs : List Said) (s : ServedBy read x cs qs) → Each read (LeavesIfRefused read) x cs qs s
  demand_1_served x [] [] s = tt
  demand_1_served x [] (a ∷ qs) s = absurd s
  demand_1_served x (c ∷ cs) [] s = absurd s
  demand_1_served x (c ∷ cs) (a ∷ qs) s = (refused_leaves x c a s.0 s.1, demand_1_served s.0 cs qs s.2)

  -- wish 8 of the code, on every state: no call makes more visits than its ceiling
  pub ceilings_served : (x : X) (cs : List Call) (qs : List Said) (s : ServedBy read x cs qs) → Each read UnderCeiling x cs qs s
  ceilings_served x [] [] s = tt
  ceilings_served x [] (a ∷ qs) s = absurd s
  ceilings_served x (c ∷ cs) [] s = absurd s
  ceilings_served x (c ∷ cs) (a ∷ qs) s = (under_ceiling x c a s.0 s.1, ceilings_served s.0 cs qs s.2)

  -- WISH 10 of the code, on every state: an exactly-one form that is not refused adds its rules, and they are true exactly when one of its literals
  -- is true and every other is false
  one_adds_to : (o o' : Option Read) (ls : List Literal) → o' ≡ next_of o (one ls) → refusal_of (out_of o (one ls)).reply ≡ none → OneAddsTo o o' ls
  one_adds_to none o' ls e q = absurd (some_none q)
  one_adds_to (some y) o' ls e q = subst (λ (w : Option Read). OneAddsTo (some y) w ls) (sym e) (call_adds y ls (one_done y ls q))

  form_adds : (x : X) (c : Call) (a : Said) (x' : X) → ServesBy read x c a x' → AddsIfOne read x c a x'
  form_adds x (rule ls) a x' s = tt
  form_adds x (query top on off) a x' s = tt
  form_adds x (card top size) a x' s = tt
  form_adds x forget a x' s = tt
  form_adds x withdraw a x' s = tt
  form_adds x (keep_card top size) a x' s = tt
  form_adds x (one ls) a x' s = λ e.
      let out = out_of (read x) (one ls) in
      one_adds_to (read x) (read x') ls s.next (sym (said_refusal out.reply out.visits) ∙ sym (ap (λ (q : Said). q.refusal) s.answered) ∙ e)
  form_adds x (closest top size on off) a x' s = tt

  pub forms_served : (x : X) (cs : List Call) (qs : List Said) (s : ServedBy read x cs qs) → Each read (AddsIfOne read) x cs qs s
  forms_served x [] [] s = tt
  forms_served x [] (a ∷ qs) s = absurd s
  forms_served x (c ∷ cs) [] s = absurd s
  forms_served x (c ∷ cs) (a ∷ qs) s = (form_adds x c a s.0 s.1, forms_served s.0 cs qs s.2)

  -- ---- the answers are exactly the learning run's, visits included
  pub served_learning : (cs : List Call) (x : X) (y : Read) → read x ≡ some y → (qs : List Said) → ServedBy read x cs qs → qs ≡ map said_of (learning_run y cs)
  served_learning [] x y e [] s = refl
  served_learning [] x y e (a ∷ qs) s = absurd s
  served_learning (c ∷ cs) x y e [] s = absurd s
  served_learning (c ∷ cs) x y e (a ∷ qs) s = λ i. first i ∷ rest s.0 s.2 (s.1.next ∙ ap (λ (o : Option Read). next_of o c) e) (λ z w. served_learning cs s.0 (step y c).state w qs z) i
    where
      first : a ≡ said_of (step y c).out
      first = s.1.answered ∙ ap (λ (o : Option Read). said_of (out_of o c)) e

      rest : (x' : X) → ServedBy read x' cs qs → read x' ≡ some (step y c).state → (ServedBy read x' cs qs → read x' ≡ some (step y c).state → qs ≡ map said_of (learning_run (step y c).state cs))
          → qs ≡ map said_of (learning_run (step y c).state cs)
      rest x' z w ih = ih z w

-- ---- cards
-- the reply to a card, in numbers
card_by : (p : Bool) (b : Formula) (size : ℕ) (r : Reply) (k : ℕ) → CardOwed p b.prefix b.clauses size r → CardBy p b size (said_reply r k) (said_reply r k).refusal
card_by p b size done k h = absurd h
card_by p b size (refused n) k h = absurd h
card_by p b size swap k h = absurd h
card_by p b size keep k h = absurd h
card_by p b size unsettled k h = absurd h
card_by p b size (lines ls tb) k h = record { them = ls; right = h.right; count = refl; bytes = h.table; whole = h.whole }
card_by p b size (card_refused n tb) k (inl h) = inl (record { number = h.number; them = h.them; right = h.right; over = h.over })
card_by p b size (card_refused n tb) k (inr h) = inr h.number
card_by p b size (found ls tb r) k h = absurd h

card_right : (y : Read) → Reached y → (c : Call) → RightIfCard y.formula c (said_of (step y c).out)
card_right y h (rule ls) = tt
card_right y h (query top on off) = tt
card_right y h (card top size) = card_by true y.formula size (step y (card top size)).out.reply (step y (card top size)).out.visits (card_owed y h true top size)
card_right y h forget = tt
card_right y h withdraw = tt
card_right y h (one ls) = tt
card_right y h (closest top size on off) = tt
card_right y h (keep_card top size) = card_by false y.formula size (step y (keep_card top size)).out.reply (step y (keep_card top size)).out.visits (card_owed y h false top size)

-- what holds of each call on a reached state holds of each call of a list, by the clauses that stand there
each_standing : (P : Formula → Call → Said → Type 0) → ((y : Read) → Reached y → (c : Call) → P y.formula c (said_of (step y c).out))
    → (cs : List Call) (y : Read) → Reached y → (b : Formula) → y.formula ≡ b → EachStanding P b cs (map said_of (learning_run y cs))
each_standing P right [] y h b e = tt
each_standing P right (c ∷ cs) y h b e =
    let w = step_ok y h c in (
      subst (λ (f : Formula). P f c (said_of (step y c).out)) e (right y h c),
      each_standing P right cs (step y c).state w.next (next_formula b c) (w.same_formula ∙ ap (λ (f : Formula). next_formula f c) e),
    )

-- ---- queries
-- the reply to a query, in numbers
verdict_says : (b : Formula) (os : Reading) (r : Reply) (k : ℕ) → QueryOwed b.prefix b.clauses os r → ((said_reply r k).refusal ≡ none → is_full os ≡ false → k ≡ (open_search b.prefix b.clauses os (quantifiers b.prefix) []).visits)
    → QueryBy b os (said_reply r k) (said_reply r k).refusal
verdict_says b os done k h w = absurd h
verdict_says b os (refused n) k h w = h
verdict_says b os swap k h w = record { verdict = h; walked = w refl }
verdict_says b os keep k h w = record { verdict = h; walked = w refl }
verdict_says b os unsettled k h w = record { verdict = h; walked = w refl }
verdict_says b os (lines ls tb) k h w = absurd h
verdict_says b os (card_refused n tb) k h w = absurd h
verdict_says b os (found ls tb r) k h w = absurd h

-- the visits of a query with an open variable that is not refused
module _ (y : Read) (top : ℕ) (on off : List Literal) where
  abbrev f : Formula
  f = y.formula

  abbrev os : Reading
  os = reading_of on off f.prefix

  abbrev walk : PlainResult
  walk = open_search f.prefix f.clauses os (quantifiers f.prefix) []

  abbrev Walked : Answer → Type 0
  Walked a = refusal_of a.reply ≡ none → is_full os ≡ false → a.visits ≡ walk.visits

  open_walked : (fit : Bool) → Walked (open_answer fit y.store top walk).out
  open_walked true e z = refl
  open_walked false e z = absurd (some_none e)

  reading_walked : (full : Bool) → is_full os ≡ full → Walked (learning_reading full f y.store top on os).out
  reading_walked true is e z = absurd (true≢false (sym is ∙ z))
  reading_walked false is e z = open_walked (leb walk.visits top) e z

  query_walked : (o : Option ℕ) → Walked (learning_query o f y.store top on off).out
  query_walked none e z = reading_walked (is_full os) refl e z
  query_walked (some k) e z = absurd (some_none e)

  walked : (g : Bool) → Walked (guarded g y (query top on off)).out
  walked true e z = query_walked (query_fault f [] (on ++ off)) e z
  walked false e z = absurd (some_none e)

query_right : (y : Read) → Reached y → (c : Call) → RightIfQuery y.formula c (said_of (step y c).out)
query_right y h (rule ls) = tt
query_right y h (query top on off) =
    let r = (step y (query top on off)).out in
    verdict_says y.formula (reading_of on off y.formula.prefix) r.reply r.visits (query_owed y h top on off) (λ e z. walked y top on off (well_formed y) (sym (said_refusal r.reply r.visits) ∙ e) z)
query_right y h (card top size) = tt
query_right y h forget = tt
query_right y h withdraw = tt
query_right y h (keep_card top size) = tt
query_right y h (one ls) = tt
query_right y h (closest top size on off) = tt

-- ---- the closest reading
module _ (y : Read) (h : Reached y) (top size : ℕ) (on off : List Literal) where
  abbrev formula : Formula
  formula = y.formula

  -- its reply, in numbers
  closest_by : (r : Reply) (k : ℕ) → (step y (closest top size on off)).out.reply ≡ r
      → ClosestReplyOwed formula.prefix formula.clauses (reading_of on off formula.prefix) (start_node on formula.prefix) size r
      → ClosestBy formula size on off (said_reply r k) (said_reply r k).refusal
  closest_by done k is w = absurd w
  closest_by (refused n) k is w = absurd w
  closest_by swap k is w = absurd w
  closest_by keep k is w = absurd w
  closest_by unsettled k is w = absurd w
  closest_by (lines ls tb) k is w = absurd w
  closest_by (card_refused n tb) k is (inl w) = inl w.number
  closest_by (card_refused n tb) k is (inr (inl w)) = inr (inl w.number)
  closest_by (card_refused n tb) k is (inr (inr (inl w))) = inr (inr (inl (record { number = w.number; them = w.them; right = w.right; over = w.over })))
  closest_by (card_refused n tb) k is (inr (inr (inr w))) = inr (inr (inr (record { number = w.number; never = w.never })))
  closest_by (found ls tb r) k is w =
      record {
        whole = w.whole;
        given = w.given;
        card = record { them = ls; right = w.card.right; count = refl; bytes = w.card.table; whole = w.card.whole };
        it = r;
        right = w.right;
        reading = refl;
        number = refl;
        store_free = λ c ok ds same top' size' ks tc q d. sym (closest_no_store y (after (fresh c) ds) h (after_reached (fresh c) (fresh_reached c ok) ds) same top top' size size' on off ls ks tb tc r q is d);
      }

closest_right_said : (y : Read) → Reached y → (c : Call) → RightIfClosest y.formula c (said_of (step y c).out)
closest_right_said y h (rule ls) = tt
closest_right_said y h (query top on off) = tt
closest_right_said y h (card top size) = tt
closest_right_said y h forget = tt
closest_right_said y h withdraw = tt
closest_right_said y h (keep_card top size) = tt
closest_right_said y h (one ls) = tt
closest_right_said y h (closest top size on off) =
    let r = (step y (closest top size on off)).out in
    closest_by y h top size on off r.reply r.visits refl (closest_right y h top size on off)

-- ---- both cards
-- a card that is not refused shows its lines
shows : (p : Bool) (b : Formula) (size : ℕ) (r : Reply) (k : ℕ) → CardOwed p b.prefix b.clauses size r → (said_reply r k).refusal ≡ none
    → (ls : List Node) × (tb : List ℕ) × (r ≡ lines ls tb) × Shows b size (said_reply r k) ls
shows p b size done k h e = absurd h
shows p b size (refused n) k h e = absurd h
shows p b size swap k h e = absurd h
shows p b size keep k h e = absurd h
shows p b size unsettled k h e = absurd h
shows p b size (lines ls tb) k h e = (ls, tb, refl, record { count = refl; bytes = h.table })
shows p b size (card_refused n tb) k h e = absurd (some_none e)
shows p b size (found ls tb r) k h e = absurd h

-- a card of the verdict p made on a reached state
module _ (x : Read) (h : Reached x) (p : Bool) (top size : ℕ) where
  abbrev a : Said
  a = said_of (step x (card_of p top size)).out

  -- and one of the other verdict, made on a reached state with the same formula
  pair : (y : Read) → Reached y → y.formula ≡ x.formula → (top' size' : ℕ) → a.refusal ≡ none → (said_of (step y (card_of (not p) top' size')).out).refusal ≡ none
      → Together x.formula size size' a (said_of (step y (card_of (not p) top' size')).out)
  pair y g same top' size' e e' =
      let one = shows p x.formula size (step x (card_of p top size)).out.reply (step x (card_of p top size)).out.visits (card_owed x h p top size) e in
      let other = shows (not p) y.formula size' (step y (card_of (not p) top' size')).out.reply (step y (card_of (not p) top' size')).out.visits (card_owed y g (not p) top' size') e' in
      record {
        ones = one.0;
        others = other.0;
        shown = one.3;
        shown_later = subst (λ (f : Formula). Shows f size' (said_of (step y (card_of (not p) top' size')).out) other.0) same other.3;
        parted = cards_partition x y h g same p top top' size size' one.0 other.0 one.1 other.1 one.2 other.2;
      }

  abbrev With : Read → Call → Type 0
  With y c = IfCard (λ q size'. q ≡ not p → a.refusal ≡ none → (said_of (step y c).out).refusal ≡ none → Together x.formula size size' a (said_of (step y c).out)) c

  with_card : (y : Read) → Reached y → y.formula ≡ x.formula → (q : Bool) (top' size' : ℕ) → q ≡ not p → a.refusal ≡ none
      → (said_of (step y (card_of q top' size')).out).refusal ≡ none → Together x.formula size size' a (said_of (step y (card_of q top' size')).out)
  with_card y g same q top' size' e =
      subst (λ (z : Bool). a.refusal ≡ none → (said_of (step y (card_of z top' size')).out).refusal ≡ none → Together x.formula size size' a (said_of (step y (card_of z top' size')).out)) (sym e) (pair y g same top' size')

  with_call : (y : Read) → Reached y → y.formula ≡ x.formula → (c : Call) → With y c
  with_call y g same (rule ls) = tt
  with_call y g same (query top on off) = tt
  with_call y g same (card top' size') = with_card y g same true top' size'
  with_call y g same forget = tt
  with_call y g same withdraw = tt
  with_call y g same (one ls) = tt
  with_call y g same (closest top' size' on off) = tt
  with_call y g same (keep_card top' size') = with_card y g same false top' size'

  later_together : (cs : List Call) (y : Read) → Reached y → y.formula ≡ x.formula → LaterTogether x.formula p size a cs (map said_of (learning_run y cs))
  later_together [] y g same = tt
  later_together (c ∷ cs) y g same = (
    with_call y g same c,
    λ quiet. let w = step_ok y g c in
        later_together cs (step y c).state w.next (w.same_formula ∙ same_clauses y.formula c (subst (λ (f : Formula). keeps_clauses f c ≡ true) (sym same) quiet) ∙ same),
  )

cards_together : (cs : List Call) (y : Read) → Reached y → (b : Formula) → y.formula ≡ b → CardsTogether b cs (map said_of (learning_run y cs))
cards_together [] y h b e = tt
cards_together (c ∷ cs) y h b e =
    let w = step_ok y h c in (
      subst (λ (f : Formula). IfCard (λ p size. LaterTogether f p size (said_of (step y c).out) cs (map said_of (learning_run (step y c).state cs))) c) e (first c),
      cards_together cs (step y c).state w.next (next_formula b c) (w.same_formula ∙ ap (λ (f : Formula). next_formula f c) e),
    )
  where
    first : (c : Call) → IfCard (λ p size. LaterTogether y.formula p size (said_of (step y c).out) cs (map said_of (learning_run (step y c).state cs))) c
    first (rule ls) = tt
    first (query top on off) = tt
    first (card top size) = later_together y h true top size cs (step y (card top size)).state (step_ok y h (card top size)).next (step_ok y h (card top size)).same_formula
    first forget = tt
    first withdraw = tt
    first (one ls) = tt
    first (closest top size on off) = tt
    first (keep_card top size) = later_together y h false top size cs (step y (keep_card top size)).state (step_ok y h (keep_card top size)).next (step_ok y h (keep_card top size)).same_formula

-- ---- the plain run
-- an answer in numbers but for its visits does not depend on them
same_but_visits : (r : Reply) (j k : ℕ) → said_reply r j
    ≡ said_with (said_reply r k).refusal (said_reply r k).verdict (said_reply r k).lines j (said_reply r k).table (said_reply r k).reading (said_reply r k).differs
same_but_visits done j k = refl
same_but_visits (refused n) j k = refl
same_but_visits swap j k = refl
same_but_visits keep j k = refl
same_but_visits unsettled j k = refl
same_but_visits (lines ls tb) j k = refl
same_but_visits (card_refused n tb) j k = refl
same_but_visits (found ls tb r) j k = refl

-- an answer of the learning run, in numbers, against the plain run's
said_agrees : (l p : Answer) → Agree l p → SaidAgrees (said_of l) p
said_agrees l p h =
    record {
      refusal = ap (λ (a : Said). a.refusal) whole;
      verdict = ap (λ (a : Said). a.verdict) whole;
      lines = ap (λ (a : Said). a.lines) whole;
      table = ap (λ (a : Said). a.table) whole;
      reading = ap (λ (a : Said). a.reading) whole;
      differs = ap (λ (a : Said). a.differs) whole;
      visits = subst (λ (n : ℕ). n ≤ p.visits) (sym (ap (λ (a : Said). a.visits) whole)) h.visits;
    }
  where
    whole : said_of l ≡ said_with (said_of p).refusal (said_of p).verdict (said_of p).lines l.visits (said_of p).table (said_of p).reading (said_of p).differs
    whole = ap (λ (r : Reply). said_reply r l.visits) h.reply ∙ same_but_visits p.reply l.visits p.visits

-- one that was stopped
said_stopped : (c : Call) (l p : Answer) → Stopped c l p → SaidStopped c (said_of l) p
said_stopped c l p h =
    record {
      answer = whole ∙ ap (λ (k : ℕ). said (some 34) 0 0 k (zeroed c)) (sym k_is);
      ceiling = h.ceiling ∙ ap some (sym k_is);
      needed = subst (λ (k : ℕ). k < p.visits) (sym k_is) h.needed;
    }
  where
    whole : said_of l ≡ said (some 34) 0 0 l.visits (zeroed c)
    whole = ap (λ (r : Reply). said_reply r l.visits) h.reply ∙ refusal_said c 34 l.visits

    k_is : (said_of l).visits ≡ l.visits
    k_is = ap (λ (a : Said). a.visits) whole

said_rightly : (c : Call) (l p : Answer) → Agrees c l p → SaidRightly c (said_of l) p
said_rightly c l p h = record { either = by h; finished = λ n top few. said_agrees l p (finished_if_fits c n top l p h few) }
  where
    by : Agrees c l p → SaidAgrees (said_of l) p ⊎ SaidStopped c (said_of l) p
    by (inl a) = inl (said_agrees l p a)
    by (inr a) = inr (said_stopped c l p a)

all_said : (cs : List Call) (ls ps : List Answer) → AllAgree cs ls ps → AllSaid cs (map said_of ls) ps
all_said [] [] [] h = tt
all_said [] [] (p ∷ ps) h = absurd h
all_said [] (l ∷ ls) ps h = absurd h
all_said (c ∷ cs) [] ps h = absurd h
all_said (c ∷ cs) (l ∷ ls) [] h = absurd h
all_said (c ∷ cs) (l ∷ ls) (p ∷ ps) h = (said_rightly c l p h.0, all_said cs ls ps h.1)

-- ---- on a state that reads as a freshly opened formula, and any list of calls on it, each on the state that the last one returned
module _ {X : Type 0} (read : X → Option Read) (b : Formula) (ok : formula_is_ok b ≡ true) (x : X) (e : read x ≡ some (fresh b)) (cs : List Call) (qs : List Said) (s : ServedBy read x cs qs) where
  learnt : qs ≡ map said_of (learning_run (fresh b) cs)
  learnt = served_learning read cs x (fresh b) e qs s

  -- DEMAND 2 of the code. Each card that is not refused has the count and the bytes of the right lines; the only refusals are 21, where the
  -- right lines are more than the table holds, and 34.
  pub demand_2_served : CardsRight b cs qs
  demand_2_served = subst (CardsRight b cs) (sym learnt) (each_standing RightIfCard card_right cs (fresh b) (fresh_reached b ok) b refl)

  -- WISH 5 of the code. Each query that is not refused is swap, keep or unsettled as all, none or some of the completions of its reading are true,
  -- and with an open variable its visits are the plain search's; the only refusals are 8 and 34.
  pub queries_served : QueriesRight b cs qs
  queries_served = subst (QueriesRight b cs) (sym learnt) (each_standing RightIfQuery query_right cs (fresh b) (fresh_reached b ok) b refl)

  -- WISH 9 of the code. Each closest reading that is not refused is on the card, differs in the fewest variables, is the first among equals, and is
  -- the same whatever the store holds; the card's lines are right. The only refusals are 8, 34, 21 and, where no reading is on the card, 35.
  pub closests_served : ClosestsRight b cs qs
  closests_served = subst (ClosestsRight b cs) (sym learnt) (each_standing RightIfClosest closest_right_said cs (fresh b) (fresh_reached b ok) b refl)

  -- DEMAND 3 of the code. Refusal numbers, swap, keep or unsettled, the count of lines, every byte of the table and the closest reading with its
  -- number are the plain run's, in no more visits, but for a stopped call, and one stops only where the plain search makes more visits than its ceiling; and all answers, with their
  -- visits, are exactly the learning search's.
  pub demand_3_served : AnswersPlain b cs qs
  demand_3_served =
      record { plain = subst (λ (l : List Said). AllSaid cs l (plain_run b cs)) (sym learnt) (all_said cs (learning_run (fresh b) cs) (plain_run b cs) (demand_3 b ok cs)); learning = learnt }

  -- WISH 7 of the code. Two cards, one of each verdict and in either order, that are not refused, with no accepted rule and no withdrawn one
  -- between them: each reading lies on exactly one line of one of them, and the readings covered add up to 2 ^ f.
  pub together_served : CardsTogether b cs qs
  together_served = subst (CardsTogether b cs) (sym learnt) (cards_together cs (fresh b) (fresh_reached b ok) b refl)

  -- all three, the ceilings, the queries, the exactly-one forms, the closest readings, and both cards
  pub demands_served_by : DemandsBy read b x cs qs s
  demands_served_by =
      record {
        demand_1 = demand_1_served read x cs qs s;
        ceilings = ceilings_served read x cs qs s;
        forms = forms_served read x cs qs s;
        demand_2 = demand_2_served;
        queries = queries_served;
        closests = closests_served;
        demand_3 = demand_3_served;
        together = together_served;
      }
