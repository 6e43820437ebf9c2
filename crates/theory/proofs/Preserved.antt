-- A call leaves a well-formed state well formed, whether calls have reached that state or not.
use Prim.Native.Nat.{ℕ, ◌-◌, ◌≤◌}
use native.Mathlib.Nat.{le_refl}
use native.Mathlib.Omega.{arith}
use mathlib.Core.Path.{◌≡◌, refl, sym, subst}
use mathlib.Core.Bool.{Bool, true, false}
use mathlib.Core.List.{List, [], ◌∷◌, ◌++◌}
use mathlib.Core.Option.{Option, none, some}
use lib.ListN.{length, take, length-append}
use lib.Seq.{length-take-le}
use lib.Dec.{eqb, leb}
use Rattle.qbf.specs.Formula.{Clause, Formula, Limits, Literal, Node, Prefix, Quantifier, ◌▹◌, quantifiers}
use Rattle.qbf.specs.Truth.{Outcome, bound}
use Rattle.qbf.specs.Learning.{Store, below, empty_store, learning_search, visit}
use Rattle.qbf.specs.Plain.{PlainResult}
use Rattle.qbf.specs.Open.{Reading, is_full, open_search, reading_of}
use Rattle.qbf.specs.Ceiling.{search_within}
use Rattle.qbf.specs.Card.{Mem, zero_table}
use Rattle.qbf.specs.Calls.{Call, Reply, State, attempt_answer, card, card_refused, closest, closest_fault, learning_closest, card_reply_of, clause_of, forget, guarded, keep_card, learning_card, learning_query, learning_reading, next_formula, one, one_fault, one_rules, open_answer, query, query_fault, query_reply, refused, rule, rule_fault, start_node, step, store_after_rule, store_after_withdraw, well_formed, with_one, with_rule, withdraw, withdraw_fault, without_last}
use Rattle.theory.proofs.Rest.{Rest, rest_up}
use Rattle.theory.proofs.Game.{Rising}
use Rattle.theory.proofs.Shape.{Formed}
use Rattle.theory.proofs.Stores.{ShapedStore, recorded_empty, recorded_learn, recorded_weaker, recorded_withdraw, stored_empty, stored_rule, stored_withdraw}
use Rattle.theory.proofs.Induction.{BranchCases, SearchCases, below_by, visit_by}
use Rattle.theory.proofs.Leaves.{shaped_leaves}
use Rattle.theory.proofs.ShapedSearch.{ShapedOutcome, shaped_branches, shaped_search}
use Rattle.theory.proofs.NextFormula.{next_formula_lem}
use Rattle.theory.proofs.WellFormed.{FitStore, Fits, FormulaFacts, StateFacts, capacity, clauses_rising, facts_state, state_facts}
use Rattle.theory.proofs.Ceiling.{attempt_store, search_within_lem}
use Rattle.theory.proofs.Starting.{start_rest}

-- the store is shaped, and its records fit the clauses that stand
pub record ShapedFor (b : Formula) (st : Store) : Type 0 where
  pub shaped : ShapedStore b.limits b.prefix st
  pub fit : FitStore (length b.clauses) st

-- ---- a search
module _ (L : Limits) (one : 1 ≤ L.constraints) (D : Prefix) (R : List Clause) (ok : (r : Clause) → Mem r R → Rising D 0 r) where
  abbrev Kept : Store → Type 0
  Kept st = ShapedStore L D st × FitStore (length R) st

  fit_branches : (κ : Quantifier) (ks : List Quantifier) (s : Node) → Rest D s (κ ∷ ks) → BranchCases L D R κ s Kept (λ c o. ShapedOutcome D (s ▹ c) o) (ShapedOutcome D s)
  fit_branches κ ks s rest =
      let c = shaped_branches L one D R ok κ ks s rest in
      record {
        up = c.up;
        joined = c.joined;
        learned = λ b E st g h. (c.learned b E st g h.0, recorded_learn (Fits (length R)) L (length R) b E st (λ _. le_refl (length R)) h.1);
        mixing = c.mixing;
      }

  fit_cases : SearchCases L D R (λ ks s. Rest D s ks) Kept (λ ks s o. ShapedOutcome D s o)
  fit_cases =
      let c = shaped_search L one D R ok in
      record { side = c.side; leaves = λ ks s st rest h. c.leaves ks s st rest h.0; branches = fit_branches; ends = c.ends; raised = c.raised }

  fit_visit : (eligible : ℕ → ℕ → Bool) (ks : List Quantifier) (s : Node) (st : Store) → Rest D s ks → Kept st → Kept (visit D R eligible (below L D R ks) s st).store
  fit_visit eligible ks s st rest h =
      (visit_by D R s Kept (ShapedOutcome D s) eligible (below L D R ks) st (shaped_leaves D R ok L s st h.0 eligible) h
      (λ nd ns. below_by L D R (λ qs t. Rest D t qs) Kept (λ qs t o. ShapedOutcome D t o) fit_cases ks s st rest h nd ns)).store_ok

  -- under a ceiling
  pub fit_attempt : (n : ℕ) (over : Reply) (tell : Outcome (Unit {0}) → Reply) (ks : List Quantifier) (s : Node) (st : Store) → Rest D s ks → Kept st → Kept (attempt_answer over n tell (search_within L D R n ks s st)).store
  fit_attempt n over tell ks s st rest h =
      attempt_store Kept n (learning_search L D R ks s st) over tell (search_within L D R n ks s st)
      (search_within_lem L D R Kept (λ qs t. Rest D t qs) (λ κ qs t c k. rest_up D t c κ qs k) (fit_visit eqb) n ks s st rest h) (fit_visit leb ks s st rest h)

-- ---- the calls
module _ (b : Formula) (f : FormulaFacts b) (st : Store) (h : ShapedFor b st) where
  -- clauses more, at the end
  added_store : (Q : List Clause) → ShapedFor (record { limits = b.limits; prefix = b.prefix; clauses = b.clauses ++ Q }) (store_after_rule none st)
  added_store Q =
      record {
        shaped = stored_rule (Formed b.prefix) b.limits (Formed b.prefix) (λ E w. w) st h.shaped;
        fit = recorded_weaker (Fits (length b.clauses)) (Fits (length (b.clauses ++ Q))) (λ k E w. omega (arith, w, length-append b.clauses Q)) st.records st.clauses h.fit;
      }

  rule_store : (o : Option ℕ) (ls : List Literal) → ShapedFor (with_rule o b ls) (store_after_rule o st)
  rule_store none ls = added_store (clause_of b.prefix ls ∷ [])
  rule_store (some n) ls = h

  one_store : (o : Option ℕ) (ls : List Literal) → ShapedFor (with_one o b ls) (store_after_rule o st)
  one_store none ls = added_store (one_rules b.prefix ls)
  one_store (some n) ls = h

  withdraw_store : (o : Option ℕ) → ShapedFor (without_last o b) (store_after_withdraw o (length b.clauses - 1) st)
  withdraw_store none =
      record {
        shaped = stored_withdraw (Formed b.prefix) b.limits (Formed b.prefix) n (λ v E w. w) st h.shaped;
        fit = recorded_withdraw (Fits (length b.clauses)) (Fits (length (take n b.clauses))) n (λ k E w le. omega (arith, le, length-take-le n b.clauses (omega arith))) st h.fit;
      }
    where
      n : ℕ
      n = length b.clauses - 1
  withdraw_store (some k) = h

  search_store : (n : ℕ) (over : Reply) (tell : Outcome (Unit {0}) → Reply) (ks : List Quantifier) (s : Node) → Rest b.prefix s ks
      → ShapedFor b (attempt_answer over n tell (search_within b.limits b.prefix b.clauses n ks s st)).store
  search_store n over tell ks s rest =
      let w = fit_attempt b.limits (capacity b f) b.prefix b.clauses (clauses_rising b f) n over tell ks s st rest (h.shaped, h.fit) in
      record { shaped = w.0; fit = w.1 }

  reading_store : (x : Bool) (n : ℕ) (on : List Literal) (os : Reading) → ShapedFor b (learning_reading x b st n on os).store
  reading_store true n on os = search_store n (refused 34) query_reply (bound (quantifiers b.prefix)) (start_node on b.prefix) (start_rest on b.prefix)
  reading_store false n on os = by (leb w.visits n)
    where
      w : PlainResult
      w = open_search b.prefix b.clauses os (quantifiers b.prefix) []

      by : (y : Bool) → ShapedFor b (open_answer y st n w).store
      by true = h
      by false = h

  query_store : (n : ℕ) (o : Option ℕ) (on off : List Literal) → ShapedFor b (learning_query o b st n on off).store
  query_store n none on off = reading_store (is_full (reading_of on off b.prefix)) n on (reading_of on off b.prefix)
  query_store n (some k) on off = h

  card_store : (p : Bool) (n size : ℕ) → ShapedFor b (learning_card p b st n size).store
  card_store p n size = search_store n (card_refused 34 (zero_table size)) (card_reply_of p b.prefix size) (quantifiers b.prefix) [] refl

  closest_store : (o : Option ℕ) (n size : ℕ) (on : List Literal) → ShapedFor b (learning_closest o b st n size on).store
  closest_store none n size on = card_store true n size
  closest_store (some k) n size on = h

empty_store_lem : (b : Formula) → ShapedFor b empty_store
empty_store_lem b = record { shaped = stored_empty (Formed b.prefix) b.limits; fit = recorded_empty (Fits (length b.clauses)) }

pub call_facts : (x : State) → StateFacts x → (c : Call) → StateFacts (guarded true x c).state
call_facts x h c = let w = by c in record { formula_ok = next_formula_lem b f c; store_ok = w.shaped; records_ok = w.fit }
  where
    b : Formula
    b = x.formula

    f : FormulaFacts b
    f = h.formula_ok

    g : ShapedFor b x.store
    g = record { shaped = h.store_ok; fit = h.records_ok }

    by : (c : Call) → ShapedFor (next_formula b c) (guarded true x c).state.store
    by (rule ls) = rule_store b f x.store g (rule_fault b ls) ls
    by (query n on off) = query_store b f x.store g n (query_fault b [] (on ++ off)) on off
    by (card n size) = card_store b f x.store g true n size
    by (keep_card n size) = card_store b f x.store g false n size
    by forget = empty_store_lem b
    by withdraw = withdraw_store b f x.store g (withdraw_fault b)
    by (one ls) = one_store b f x.store g (one_fault b ls) ls
    by (closest n size on off) = closest_store b f x.store g (closest_fault b on off) n size on

-- THE THEOREM: a well-formed state stays well formed
pub step_formed : (x : State) → well_formed x ≡ true → (c : Call) → well_formed (step x c).state ≡ true
step_formed x e c = subst (λ (g : Bool). well_formed (guarded g x c).state ≡ true) (sym e) (facts_state (guarded true x c).state (call_facts x (state_facts x e) c))
