-- Demand 1, of the definitions: a refused call leaves the state as the paper says, and its number is one of the paper's for that call.
use Prim.Native.Nat.{ℕ, ◌+◌, ◌*◌, ◌-◌, ◌≤◌, zero-le}
use native.Mathlib.Nat.{le_refl}
use native.Mathlib.Omega.{arith}
use mathlib.Core.Path.{◌≡◌, refl, sym, ap, ◌∙◌, subst}
use mathlib.Core.Logic.{◌⊎◌, inl, inr}
use mathlib.Core.Bool.{Bool, true, false, cond, not, ◌||◌}
use mathlib.Core.List.{List, [], ◌∷◌, ◌++◌}
use mathlib.Core.Option.{Option, none, some}
use lib.ListN.{length}
use lib.Dec.{eqb, leb, ltb}
use borrow.Author.Tests.{leb-true, ltb-true}
use Rattle.qbf.specs.Formula.{Formula, Limits, Literal, Node, Prefix, all, any, number_of, place, place_of, positive, quantifiers}
use Rattle.qbf.specs.Truth.{Outcome, bound, decided, decided_nodes, free_variables, mixed, outline, select}
use Rattle.qbf.specs.Plain.{PlainResult}
use Rattle.qbf.specs.Open.{Reading, is_full, open_search, reading_of}
use Rattle.qbf.specs.Learning.{LearningResult, Store}
use Rattle.qbf.specs.Ceiling.{Attempt, finished, search_within, stopped}
use Rattle.qbf.specs.Card.{Mem, table_of, zero_table}
use Rattle.qbf.specs.Calls.{Call, Called, Reply, State, Stepped, ◌or_else◌, answer, attempt_answer, card, card_refused, closest, closest_fault, found_reply, from_card, learning_closest, card_reply_of, ceiling_of, card_of, done, forget, found, given, guarded, keep, keep_card, learning_answer, learning_card, learning_query, learning_reading, lines, literal_fault, one, one_fault, query, query_fault, query_reply, open_answer, refused, rule, rule_fault, rule_reply, start_node, step, store_after_rule, store_after_withdraw, swap, unsettled, well_formed, with_one, with_rule, withdraw, without_last}
use Rattle.qbf.specs.One.{one_count}
use Rattle.qbf.specs.Closest.{Found, closest_in}
use Rattle.qbf.specs.Demands.{Leaves, refusal_of}
use Rattle.theory.proofs.Basics.{and_left, and_right, dichotomy}
use Rattle.theory.proofs.Ceiling.{Any, attempt_visits, search_within_any}
use Rattle.theory.proofs.Starting.{learning}

-- ---- the numbers
-- the refusals of a call, in the paper's order
abbrev pub refusals : Call → List ℕ
refusals (rule ls) = 22 ∷ 20 ∷ 7 ∷ 3 ∷ 5 ∷ 6 ∷ []
refusals (query n on off) = 22 ∷ 8 ∷ 34 ∷ []
refusals (card n size) = 22 ∷ 34 ∷ 21 ∷ []
refusals (keep_card n size) = 22 ∷ 34 ∷ 21 ∷ []
refusals forget = 22 ∷ []
refusals withdraw = 22 ∷ 32 ∷ []
refusals (one ls) = 22 ∷ 7 ∷ 20 ∷ 3 ∷ 5 ∷ 6 ∷ []
refusals (closest n size on off) = 22 ∷ 8 ∷ 34 ∷ 21 ∷ 35 ∷ []

-- a fault, where there is one, is among the numbers
abbrev pub Among : List ℕ → Option ℕ → Type 0
Among ns none = Unit {0}
Among ns (some n) = Mem n ns

module _ (ns : List ℕ) where
  among_given : (x : Bool) (n : ℕ) (o : Option ℕ) → Mem n ns → Among ns o → Among ns (given x n or_else o)
  among_given true n o m h = m
  among_given false n o m h = h

  among_more : (n : ℕ) (o : Option ℕ) → Among ns o → Among (n ∷ ns) o
  among_more n none h = tt
  among_more n (some k) h = inr h

literal_faults : (L : Limits) (D : Prefix) (seen : List ℕ) (ls : List Literal) → Among (3 ∷ 5 ∷ 6 ∷ []) (literal_fault L D seen ls)
literal_faults L D seen [] = tt
literal_faults L D seen (l ∷ ls) =
    among_given ns (eqb (number_of l) 0 || ltb L.numbers (number_of l)) 3 (given (eqb (place_of D (number_of l)) 0) 5 or_else given (any (eqb (number_of l)) seen) 6 or_else more) (inl refl)
    (among_given ns (eqb (place_of D (number_of l)) 0) 5 (given (any (eqb (number_of l)) seen) 6 or_else more) (inr (inl refl))
    (among_given ns (any (eqb (number_of l)) seen) 6 more (inr (inr (inl refl))) (literal_faults L D (number_of l ∷ seen) ls)))
  where
    ns : List ℕ
    ns = 3 ∷ 5 ∷ 6 ∷ []

    more : Option ℕ
    more = literal_fault L D (number_of l ∷ seen) ls

rule_faults : (b : Formula) (ls : List Literal) → Among (20 ∷ 7 ∷ 3 ∷ 5 ∷ 6 ∷ []) (rule_fault b ls)
rule_faults b ls =
    among_given ns (leb b.limits.clauses (length b.clauses)) 20 (given (eqb (length ls) 0 || ltb b.limits.literals (length ls)) 7 or_else fault) (inl refl)
    (among_given ns (eqb (length ls) 0 || ltb b.limits.literals (length ls)) 7 fault (inr (inl refl))
    (among_more (7 ∷ 3 ∷ 5 ∷ 6 ∷ []) 20 fault (among_more (3 ∷ 5 ∷ 6 ∷ []) 7 fault (literal_faults b.limits b.prefix [] ls))))
  where
    ns : List ℕ
    ns = 20 ∷ 7 ∷ 3 ∷ 5 ∷ 6 ∷ []

    fault : Option ℕ
    fault = literal_fault b.limits b.prefix [] ls

one_faults : (b : Formula) (ls : List Literal) → Among (7 ∷ 20 ∷ 3 ∷ 5 ∷ 6 ∷ []) (one_fault b ls)
one_faults b ls =
    among_given ns (ltb (length ls) 2 || ltb b.limits.literals (length ls)) 7 (given (ltb b.limits.clauses (length b.clauses + one_count (length ls))) 20 or_else fault) (inl refl)
    (among_given ns (ltb b.limits.clauses (length b.clauses + one_count (length ls))) 20 fault (inr (inl refl))
    (among_more (20 ∷ 3 ∷ 5 ∷ 6 ∷ []) 7 fault (among_more (3 ∷ 5 ∷ 6 ∷ []) 20 fault (literal_faults b.limits b.prefix [] ls))))
  where
    ns : List ℕ
    ns = 7 ∷ 20 ∷ 3 ∷ 5 ∷ 6 ∷ []

    fault : Option ℕ
    fault = literal_fault b.limits b.prefix [] ls

query_faults : (b : Formula) (seen : List ℕ) (ls : List Literal) → Among (8 ∷ []) (query_fault b seen ls)
query_faults b seen [] = tt
query_faults b seen (l ∷ ls) =
    among_given (8 ∷ []) (not (positive l) || eqb (place b.prefix l) 0 || ltb (free_variables b.prefix) (place b.prefix l) || any (eqb (number_of l)) seen) 8 (query_fault b (number_of l ∷ seen) ls) (inl refl)
    (query_faults b (number_of l ∷ seen) ls)

closest_faults : (b : Formula) (on off : List Literal) → Among (8 ∷ []) (closest_fault b on off)
closest_faults b on off = by (query_fault b [] (on ++ off)) (not (is_full (reading_of on off b.prefix))) (query_faults b [] (on ++ off))
  where
    by : (o : Option ℕ) (x : Bool) → Among (8 ∷ []) o → Among (8 ∷ []) (o or_else given x 8)
    by (some n) x m = m
    by none true m = inl refl
    by none false m = tt

pub closest_eight : (b : Formula) (on off : List Literal) (n : ℕ) → closest_fault b on off ≡ some n → n ≡ 8
closest_eight b on off n e = by (subst (Among (8 ∷ [])) e (closest_faults b on off))
  where
    by : Mem n (8 ∷ []) → n ≡ 8
    by (inl p) = p
    by (inr m) = absurd m

-- a query's only fault
pub eight : (b : Formula) (ls : List Literal) (n : ℕ) → query_fault b [] ls ≡ some n → n ≡ 8
eight b ls n e = by (subst (Among (8 ∷ [])) e (query_faults b [] ls))
  where
    by : Mem n (8 ∷ []) → n ≡ 8
    by (inl p) = p
    by (inr m) = absurd m

-- ---- the state after a refusal
-- what a call owes if it refuses with n
pub record Refuses (n : ℕ) (x : State) (c : Call) (r : Stepped) : Type 0 where
  pub leaves : Leaves n x c r
  pub known : Mem n (refusals c)

abbrev Refusing : State → Call → Stepped → Type 0
Refusing x c r = (n : ℕ) → refusal_of r.out.reply ≡ some n → Refuses n x c r

module _ (x : State) (c : Call) (r : Stepped) where
  accepted : refusal_of r.out.reply ≡ none → Refusing x c r
  accepted h n e = absurd (let z : ◌≡◌ {A = ℕ} 0 1 = cc in omega arith)

  -- the state as it was, and no visit
  unchanged : (k : ℕ) → Mem k (refusals c) → (k ≡ 34 → ⊥) → refusal_of r.out.reply ≡ some k → r.state ≡ x → r.out.visits ≡ 0 → Refusing x c r
  unchanged k m other h p q n e =
      let same : n ≡ k = cc in
      record {
        leaves = record { formula = ap (λ (y : State). y.formula) p; state = λ _. p; visits = λ _. q; stopped = λ z. absurd (other (sym same ∙ z)) };
        known = subst (λ (i : ℕ). Mem i (refusals c)) (sym same) m;
      }

  -- a full table, with its visits
  overfull : Mem 21 (refusals c) → refusal_of r.out.reply ≡ some 21 → r.state.formula ≡ x.formula → Refusing x c r
  overfull m h p n e =
      let q : n ≡ 21 = cc in
      record {
        leaves = record { formula = p; state = λ d. absurd (d (inl q)); visits = λ d. absurd (d (inl q)); stopped = λ z. absurd (omega (arith, q, z)) };
        known = subst (λ (i : ℕ). Mem i (refusals c)) (sym q) m;
      }

  -- a search that stopped, at its ceiling
  ended : Mem 34 (refusals c) → refusal_of r.out.reply ≡ some 34 → r.state.formula ≡ x.formula → ceiling_of c ≡ some r.out.visits → Refusing x c r
  ended m h p top n e =
      let q : n ≡ 34 = cc in
      record {
        leaves = record { formula = p; state = λ d. absurd (d (inr (inl q))); visits = λ d. absurd (d (inr (inl q))); stopped = λ z. top };
        known = subst (λ (i : ℕ). Mem i (refusals c)) (sym q) m;
      }

  -- a card with no line, with its visits
  lineless : Mem 35 (refusals c) → refusal_of r.out.reply ≡ some 35 → r.state.formula ≡ x.formula → Refusing x c r
  lineless m h p n e =
      let q : n ≡ 35 = cc in
      record {
        leaves = record { formula = p; state = λ d. absurd (d (inr (inr q))); visits = λ d. absurd (d (inr (inr q))); stopped = λ z. absurd (omega (arith, q, z)) };
        known = subst (λ (i : ℕ). Mem i (refusals c)) (sym q) m;
      }

-- numbers below 30 are of no search
early : (ns : List ℕ) → all (λ k. ltb k 30) ns ≡ true → (k : ℕ) → Mem k ns → k ≡ 34 → ⊥
early [] e k m z = m
early (n ∷ ns) e k (inl p) z = omega (arith, p, z, ltb-true n 30 (and_left (ltb n 30) (all (λ j. ltb j 30) ns) e))
early (n ∷ ns) e k (inr m) z = early ns (and_right (ltb n 30) (all (λ j. ltb j 30) ns) e) k m z

malformed : (x : State) (c : Call) → Refusing x c (guarded false x c)
malformed x (rule ls) = unchanged x (rule ls) (guarded false x (rule ls)) 22 (inl refl) (λ z. omega (arith, z)) refl refl refl
malformed x (query n on off) = unchanged x (query n on off) (guarded false x (query n on off)) 22 (inl refl) (λ z. omega (arith, z)) refl refl refl
malformed x (card n size) = unchanged x (card n size) (guarded false x (card n size)) 22 (inl refl) (λ z. omega (arith, z)) refl refl refl
malformed x (keep_card n size) = unchanged x (keep_card n size) (guarded false x (keep_card n size)) 22 (inl refl) (λ z. omega (arith, z)) refl refl refl
malformed x forget = unchanged x forget (guarded false x forget) 22 (inl refl) (λ z. omega (arith, z)) refl refl refl
malformed x withdraw = unchanged x withdraw (guarded false x withdraw) 22 (inl refl) (λ z. omega (arith, z)) refl refl refl
malformed x (one ls) = unchanged x (one ls) (guarded false x (one ls)) 22 (inl refl) (λ z. omega (arith, z)) refl refl refl
malformed x (closest n size on off) = unchanged x (closest n size on off) (guarded false x (closest n size on off)) 22 (inl refl) (λ z. omega (arith, z)) refl refl refl

module _ (x : State) where
  rule_refuses : (ls : List Literal) → Refusing x (rule ls) (guarded true x (rule ls))
  rule_refuses ls = by (rule_fault x.formula ls) (rule_faults x.formula ls)
    where
      after : Option ℕ → Stepped
      after o = record { state = record { formula = with_rule o x.formula ls; store = store_after_rule o x.store }; out = answer (rule_reply o) 0 }

      by : (o : Option ℕ) → Among (20 ∷ 7 ∷ 3 ∷ 5 ∷ 6 ∷ []) o → Refusing x (rule ls) (after o)
      by none m = accepted x (rule ls) (after none) refl
      by (some k) m = unchanged x (rule ls) (after (some k)) k (inr m) (early (20 ∷ 7 ∷ 3 ∷ 5 ∷ 6 ∷ []) refl k m) refl refl refl

  one_refuses : (ls : List Literal) → Refusing x (one ls) (guarded true x (one ls))
  one_refuses ls = by (one_fault x.formula ls) (one_faults x.formula ls)
    where
      after : Option ℕ → Stepped
      after o = record { state = record { formula = with_one o x.formula ls; store = store_after_rule o x.store }; out = answer (rule_reply o) 0 }

      by : (o : Option ℕ) → Among (7 ∷ 20 ∷ 3 ∷ 5 ∷ 6 ∷ []) o → Refusing x (one ls) (after o)
      by none m = accepted x (one ls) (after none) refl
      by (some k) m = unchanged x (one ls) (after (some k)) k (inr m) (early (7 ∷ 20 ∷ 3 ∷ 5 ∷ 6 ∷ []) refl k m) refl refl refl

  -- the state after a search, which came to its end or stopped
  abbrev searched_by : Called → Stepped
  searched_by a = record { state = record { formula = x.formula; store = a.store }; out = a.out }

  attempt_refuses : (c : Call) (n : ℕ) → ceiling_of c ≡ some n → Mem 34 (refusals c) → (over : Reply) → refusal_of over ≡ some 34 → (tell : Outcome (Unit {0}) → Reply)
      → ((w : LearningResult) → Refusing x c (searched_by (learning_answer tell w))) → (t : Attempt) → Refusing x c (searched_by (attempt_answer over n tell t))
  attempt_refuses c n top m over is tell whole (finished w) = whole w
  attempt_refuses c n top m over is tell whole (stopped st) = ended x c (searched_by (attempt_answer over n tell (stopped st))) m is refl top

  query_refuses : (n : ℕ) (on off : List Literal) → Refusing x (query n on off) (guarded true x (query n on off))
  query_refuses n on off = by (query_fault x.formula [] (on ++ off)) (query_faults x.formula [] (on ++ off))
    where
      c : Call
      c = query n on off

      told : (o : Outcome (Unit {0})) → refusal_of (query_reply o) ≡ none
      told (decided true y) = refl
      told (decided false y) = refl
      told (mixed ds) = refl

      open_refuses : (w : PlainResult) (y : Bool) → Refusing x c (searched_by (open_answer y x.store n w))
      open_refuses w true = accepted x c (searched_by (open_answer true x.store n w)) (told w.outcome)
      open_refuses w false = ended x c (searched_by (open_answer false x.store n w)) (inr (inr (inl refl))) refl refl refl

      reading_refuses : (os : Reading) (y : Bool) → Refusing x c (searched_by (learning_reading y x.formula x.store n on os))
      reading_refuses os true =
          attempt_refuses c n refl (inr (inr (inl refl))) (refused 34) refl query_reply (λ w. accepted x c (searched_by (learning_answer query_reply w)) (told (outline w.outcome)))
          (search_within x.formula.limits x.formula.prefix x.formula.clauses n (bound (quantifiers x.formula.prefix)) (start_node on x.formula.prefix) x.store)
      reading_refuses os false = let w = open_search x.formula.prefix x.formula.clauses os (quantifiers x.formula.prefix) [] in open_refuses w (leb w.visits n)

      by : (o : Option ℕ) → Among (8 ∷ []) o → Refusing x c (searched_by (learning_query o x.formula x.store n on off))
      by none m = reading_refuses (reading_of on off x.formula.prefix) (is_full (reading_of on off x.formula.prefix))
      by (some k) (inl p) = unchanged x c (searched_by (learning_query (some k) x.formula x.store n on off)) k (inr (inl p)) (λ z. omega (arith, p, z)) refl refl refl
      by (some k) (inr m) = absurd m

  card_refuses : (p : Bool) (n size : ℕ) → Refusing x (card_of p n size) (searched_by (learning_card p x.formula x.store n size))
  card_refuses p n size =
      attempt_refuses (card_of p n size) n (top p) (member p 34 (inl refl)) (card_refused 34 (zero_table size)) refl (card_reply_of p D size) whole
      (search_within x.formula.limits D x.formula.clauses n (quantifiers D) [] x.store)
    where
      D : Prefix
      D = x.formula.prefix

      top : (q : Bool) → ceiling_of (card_of q n size) ≡ some n
      top true = refl
      top false = refl

      member : (q : Bool) (k : ℕ) → Mem k (34 ∷ 21 ∷ []) → Mem k (refusals (card_of q n size))
      member true k m = inr m
      member false k m = inr m

      whole : (w : LearningResult) → Refusing x (card_of p n size) (searched_by (learning_answer (card_reply_of p D size) w))
      whole w = by (dichotomy (leb (length ls * free_variables D) size))
        where
          r : Stepped
          r = searched_by (learning_answer (card_reply_of p D size) w)

          ls : List Node
          ls = select p (decided_nodes [] (outline w.outcome))

          replies : Bool → Reply
          replies b = cond b (lines ls (table_of (free_variables D) size ls)) (card_refused 21 (zero_table size))

          by : (leb (length ls * free_variables D) size ≡ true) ⊎ (leb (length ls * free_variables D) size ≡ false) → Refusing x (card_of p n size) r
          by (inl e) = accepted x (card_of p n size) r (ap (λ (b : Bool). refusal_of (replies b)) e)
          by (inr e) = overfull x (card_of p n size) r (member p 21 (inr (inl refl))) (ap (λ (b : Bool). refusal_of (replies b)) e) refl

  -- what the card owes if it refuses, the closest reading owes
  closest_refuses : (n size : ℕ) (on off : List Literal) → Refusing x (closest n size on off) (guarded true x (closest n size on off))
  closest_refuses n size on off = by (closest_fault x.formula on off) (closest_faults x.formula on off)
    where
      c : Call
      c = closest n size on off

      t : Node
      t = start_node on x.formula.prefix

      after : Store → Reply → ℕ → Stepped
      after z r v = searched_by (record { store = z; out = answer r v })

      more : (k : ℕ) → Mem k (refusals (card n size)) → Mem k (refusals c)
      more k (inl p) = inl p
      more k (inr (inl p)) = inr (inr (inl p))
      more k (inr (inr (inl p))) = inr (inr (inr (inl p)))
      more k (inr (inr (inr m))) = absurd m

      carry : (z : Store) (r q : Reply) (v k : ℕ) → Refuses k x (card n size) (after z r v) → Refuses k x c (after z q v)
      carry z r q v k w =
          record {
            leaves = record { formula = w.leaves.formula; state = w.leaves.state; visits = w.leaves.visits; stopped = w.leaves.stopped };
            known = more k w.known;
          }

      line : (z : Store) (v : ℕ) (ls : List Node) (tb : List ℕ) (o : Option Found) → Refusing x c (after z (found_reply size ls tb o) v)
      line z v ls tb none = lineless x c (after z (found_reply size ls tb none) v) (inr (inr (inr (inr (inl refl))))) refl refl
      line z v ls tb (some r) = accepted x c (after z (found_reply size ls tb (some r)) v) refl

      from : (z : Store) (r : Reply) (v : ℕ) → Refusing x (card n size) (after z r v) → Refusing x c (after z (from_card size t r) v)
      from z done v h = accepted x c (after z done v) refl
      from z (refused k) v h = λ j e. carry z (refused k) (refused k) v j (h j e)
      from z swap v h = accepted x c (after z swap v) refl
      from z keep v h = accepted x c (after z keep v) refl
      from z unsettled v h = accepted x c (after z unsettled v) refl
      from z (lines ls tb) v h = line z v ls tb (closest_in ls t)
      from z (card_refused k tb) v h = λ j e. carry z (card_refused k tb) (card_refused k tb) v j (h j e)
      from z (found ls tb r) v h = accepted x c (after z (found ls tb r) v) refl

      made : Called
      made = learning_card true x.formula x.store n size

      by : (o : Option ℕ) → Among (8 ∷ []) o → Refusing x c (searched_by (learning_closest o x.formula x.store n size on))
      by none m = from made.store made.out.reply made.out.visits (card_refuses true n size)
      by (some k) (inl p) = unchanged x c (searched_by (learning_closest (some k) x.formula x.store n size on)) k (inr (inl p)) (λ z. omega (arith, p, z)) refl refl refl
      by (some k) (inr m) = absurd m

  withdraw_refuses : Refusing x withdraw (guarded true x withdraw)
  withdraw_refuses = by (eqb (length x.formula.clauses) 0)
    where
      after : Option ℕ → Stepped
      after o = record { state = record { formula = without_last o x.formula; store = store_after_withdraw o (length x.formula.clauses - 1) x.store }; out = answer (rule_reply o) 0 }

      by : (b : Bool) → Refusing x withdraw (after (given b 32))
      by true = unchanged x withdraw (after (some 32)) 32 (inr (inl refl)) (λ z. omega (arith, z)) refl refl refl
      by false = accepted x withdraw (after none) refl

  refuses : (g : Bool) (c : Call) → Refusing x c (guarded g x c)
  refuses false c = malformed x c
  refuses true (rule ls) = rule_refuses ls
  refuses true (query n on off) = query_refuses n on off
  refuses true (card n size) = card_refuses true n size
  refuses true (keep_card n size) = card_refuses false n size
  refuses true forget = accepted x forget (guarded true x forget) refl
  refuses true withdraw = withdraw_refuses
  refuses true (one ls) = one_refuses ls
  refuses true (closest n size on off) = closest_refuses n size on off

-- DEMAND 1, of any state and call
pub refused_leaves : (x : State) (c : Call) (n : ℕ) → refusal_of (step x c).out.reply ≡ some n → Leaves n x c (step x c)
refused_leaves x c n e = (refuses x (well_formed x) c n e).leaves

pub refused_known : (x : State) (c : Call) (n : ℕ) → refusal_of (step x c).out.reply ≡ some n → Mem n (refusals c)
refused_known x c n e = (refuses x (well_formed x) c n e).known

-- "A refusal .. zeroes the card table."
pub refused_table : (x : State) (p : Bool) (top size n : ℕ) (tb : List ℕ) → (step x (card_of p top size)).out.reply ≡ card_refused n tb → tb ≡ zero_table size
refused_table x p top size n tb e = by p (well_formed x) e
  where
    D : Prefix
    D = x.formula.prefix

    told : (p : Bool) (t : Attempt) → (attempt_answer (card_refused 34 (zero_table size)) top (card_reply_of p D size) t).out.reply ≡ card_refused n tb → tb ≡ zero_table size
    told p (stopped st) q = cc
    told p (finished w) q = go (leb (length ls * free_variables D) size) q
      where
        ls : List Node
        ls = select p (decided_nodes [] (outline w.outcome))

        go : (b : Bool) → cond b (lines ls (table_of (free_variables D) size ls)) (card_refused 21 (zero_table size)) ≡ card_refused n tb → tb ≡ zero_table size
        go true q = cc
        go false q = cc

    search : Attempt
    search = search_within x.formula.limits D x.formula.clauses top (quantifiers D) [] x.store

    by : (p g : Bool) → (guarded g x (card_of p top size)).out.reply ≡ card_refused n tb → tb ≡ zero_table size
    by true false q = cc
    by false false q = cc
    by true true q = told true search q
    by false true q = told false search q

-- and that of a closest reading
pub closest_table : (x : State) (top size : ℕ) (on off : List Literal) (n : ℕ) (tb : List ℕ) → (step x (closest top size on off)).out.reply ≡ card_refused n tb → tb ≡ zero_table size
closest_table x top size on off n tb e = by (well_formed x) e
  where
    D : Prefix
    D = x.formula.prefix

    line : (ls : List Node) (tc : List ℕ) (o : Option Found) → found_reply size ls tc o ≡ card_refused n tb → tb ≡ zero_table size
    line ls tc none q = cc
    line ls tc (some r) q = cc

    told : (t : Node) (a : Attempt) → from_card size t (attempt_answer (card_refused 34 (zero_table size)) top (card_reply_of true D size) a).out.reply ≡ card_refused n tb → tb ≡ zero_table size
    told t (stopped st) q = cc
    told t (finished w) q = go (leb (length ls * free_variables D) size) q
      where
        ls : List Node
        ls = select true (decided_nodes [] (outline w.outcome))

        go : (b : Bool) → from_card size t (cond b (lines ls (table_of (free_variables D) size ls)) (card_refused 21 (zero_table size))) ≡ card_refused n tb → tb ≡ zero_table size
        go true q = line ls (table_of (free_variables D) size ls) (closest_in ls t) q
        go false q = cc

    asked : (o : Option ℕ) → (learning_closest o x.formula x.store top size on).out.reply ≡ card_refused n tb → tb ≡ zero_table size
    asked none q = told (start_node on D) (search_within x.formula.limits D x.formula.clauses top (quantifiers D) [] x.store) q
    asked (some k) q = cc

    by : (g : Bool) → (guarded g x (closest top size on off)).out.reply ≡ card_refused n tb → tb ≡ zero_table size
    by false q = cc
    by true q = asked (closest_fault x.formula on off) q

-- ---- visits: no call makes more than its ceiling allows, on any state
pub under_ceiling : (x : State) (c : Call) (n : ℕ) → ceiling_of c ≡ some n → (step x c).out.visits ≤ n
under_ceiling x c n top = by (well_formed x) c top
  where
    b : Formula
    b = x.formula

    same : (k : ℕ) → ◌≡◌ {A = Option ℕ} (some k) (some n) → k ≡ n
    same k e = cc

    opened : (k : ℕ) (w : PlainResult) (y : Bool) → leb w.visits k ≡ y → (open_answer y x.store k w).out.visits ≤ k
    opened k w true e = leb-true w.visits k e
    opened k w false e = le_refl k

    reads : (k : ℕ) (on : List Literal) (os : Reading) (y : Bool) → (learning_reading y b x.store k on os).out.visits ≤ k
    reads k on os true =
        attempt_visits Any k (learning b x.store (bound (quantifiers b.prefix)) (start_node on b.prefix)) (refused 34) query_reply
        (search_within b.limits b.prefix b.clauses k (bound (quantifiers b.prefix)) (start_node on b.prefix) x.store)
        (search_within_any b.limits b.prefix b.clauses k (bound (quantifiers b.prefix)) (start_node on b.prefix) x.store)
    reads k on os false = let w = open_search b.prefix b.clauses os (quantifiers b.prefix) [] in opened k w (leb w.visits k) refl

    asked : (o : Option ℕ) (k : ℕ) (on off : List Literal) → (learning_query o b x.store k on off).out.visits ≤ k
    asked (some j) k on off = zero-le
    asked none k on off = reads k on (reading_of on off b.prefix) (is_full (reading_of on off b.prefix))

    made : (p : Bool) (k size : ℕ) → (learning_card p b x.store k size).out.visits ≤ k
    made p k size =
        attempt_visits Any k (learning b x.store (quantifiers b.prefix) []) (card_refused 34 (zero_table size)) (card_reply_of p b.prefix size)
        (search_within b.limits b.prefix b.clauses k (quantifiers b.prefix) [] x.store) (search_within_any b.limits b.prefix b.clauses k (quantifiers b.prefix) [] x.store)

    neared : (o : Option ℕ) (k size : ℕ) (on : List Literal) → (learning_closest o b x.store k size on).out.visits ≤ k
    neared (some j) k size on = zero-le
    neared none k size on = made true k size

    by : (g : Bool) (c : Call) → ceiling_of c ≡ some n → (guarded g x c).out.visits ≤ n
    by false c e = zero-le
    by true (rule ls) e = zero-le
    by true (query k on off) e = subst (λ (i : ℕ). (guarded true x (query k on off)).out.visits ≤ i) (same k e) (asked (query_fault b [] (on ++ off)) k on off)
    by true (card k size) e = subst (λ (i : ℕ). (guarded true x (card k size)).out.visits ≤ i) (same k e) (made true k size)
    by true (keep_card k size) e = subst (λ (i : ℕ). (guarded true x (keep_card k size)).out.visits ≤ i) (same k e) (made false k size)
    by true forget e = zero-le
    by true withdraw e = zero-le
    by true (one ls) e = zero-le
    by true (closest k size on off) e = subst (λ (i : ℕ). (guarded true x (closest k size on off)).out.visits ≤ i) (same k e) (neared (closest_fault b on off) k size on)
