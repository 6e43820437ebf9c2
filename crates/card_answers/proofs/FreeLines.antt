-- The decided nodes of a search on any well-formed state lie within the free variables, and there is one of them where none is free.
use Prim.Native.Nat.{ℕ, suc, ◌+◌, ◌≤◌}
use native.Mathlib.Omega.{arith}
use mathlib.Core.Path.{◌≡◌, refl, sym, ap, subst}
use mathlib.Core.Logic.{◌⊎◌, inl, inr}
use mathlib.Core.Bool.{Bool, true, false, cond, beq}
use mathlib.Core.List.{List, [], ◌∷◌, ◌++◌}
use lib.ListN.{length}
use lib.Dec.{eqb, leb}
use Rattle.qbf.specs.Formula.{Clause, Formula, Limits, Node, Prefix, Quantifier, ◌▹◌, exists, forall, free, quantifiers}
use Rattle.qbf.specs.Truth.{DecidedNode, Outcome, decided, mixed, decided_nodes, select, outline, free_count, free_variables}
use Rattle.qbf.specs.Learning.{Constraint, LearningResult, Store, below, learning_search, raise, visit}
use Rattle.qbf.specs.Card.{Mem}
use Rattle.qbf.specs.Calls.{State, well_formed}
use Rattle.theory.proofs.Basics.{length-▹}
use Rattle.theory.proofs.Rest.{Rest, rest_up}
use Rattle.theory.proofs.Game.{Rising}
use Rattle.theory.proofs.Verdict.{NoFree}
use Rattle.theory.proofs.Search.{FreeFirst}
use Rattle.theory.proofs.Stores.{ShapedStore, mem_append}
use Rattle.theory.proofs.Induction.{Gives, BranchCases, LeafCases, visit_by, branch_by}
use Rattle.theory.proofs.Leaves.{shaped_leaves}
use Rattle.theory.proofs.ShapedSearch.{ShapedOutcome, shaped_branches, shaped_visit, raise_shaped}
use Rattle.theory.proofs.Unmixed.{Unmixed, unmixed_visit}
use Rattle.theory.proofs.Topmost.{mark, select_mem}
use Rattle.theory.proofs.WellFormed.{StateFacts, state_facts, clauses_rising, capacity, free_before}

-- the decided nodes below a node s lie within the free variables that are left
abbrev Near : List Quantifier → Node → Outcome Constraint → Type 0
Near ks s (decided v E) = Unit {0}
Near ks s (mixed ds) = (d : DecidedNode) → Mem d ds → length d.node ≤ length s + free_count ks

-- those of a side
near_side : (ks : List Quantifier) (s : Node) (c : Bool) (o : Outcome Constraint) → Near ks (s ▹ c) o → (d : DecidedNode) → Mem d (decided_nodes (s ▹ c) o) → length d.node ≤ suc (length s) + free_count ks
near_side ks s c (decided v E) h d (inl e) = omega (arith, length-▹ s c, ap (λ (x : DecidedNode). length x.node) e)
near_side ks s c (decided v E) h d (inr m) = absurd m
near_side ks s c (mixed ds) h d m = omega (arith, h d m, length-▹ s c)

near_free : (ks : List Quantifier) (s : Node) (o q : Outcome Constraint) → Near ks (s ▹ false) o → Near ks (s ▹ true) q
    → Near (free ∷ ks) s (mixed (decided_nodes (s ▹ false) o ++ decided_nodes (s ▹ true) q))
near_free ks s o q a g d m = by (mem_append (decided_nodes (s ▹ false) o) (decided_nodes (s ▹ true) q) d m)
  where
    by : Mem d (decided_nodes (s ▹ false) o) ⊎ Mem d (decided_nodes (s ▹ true) q) → length d.node ≤ length s + suc (free_count ks)
    by (inl n) = omega (arith, near_side ks s false o a d n)
    by (inr n) = omega (arith, near_side ks s true q g d n)

-- where no free variable is left nothing is Mixed
near_none : (ks : List Quantifier) (s : Node) (o : Outcome Constraint) → NoFree ks → Unmixed ks o → Near ks s o
near_none ks s (decided v E) n u = tt
near_none ks s (mixed ds) n u = absurd (u n)

module _ (L : Limits) (one : 1 ≤ L.constraints) (D : Prefix) (R : List Clause) (ok : (r : Clause) → Mem r R → Rising D 0 r) where
  -- shaped, and within the free variables
  abbrev Lined : List Quantifier → Node → Outcome Constraint → Type 0
  Lined ks s o = ShapedOutcome D s o × Near ks s o

  leaves : (ks : List Quantifier) (s : Node) (st : Store) (eligible : ℕ → ℕ → Bool) → ShapedStore L D st → LeafCases D R s eligible st (λ v E. Lined ks s (decided v E))
  leaves ks s st eligible h =
      let c = shaped_leaves D R ok L s st h eligible in
      record { dead_clause = λ r m e. (c.dead_clause r m e, tt); all_satisfied = λ e. (c.all_satisfied e, tt); matched = λ v E m e. (c.matched v E m e, tt) }

  branches : (ks : List Quantifier) (s : Node) → Rest D s (free ∷ ks) → BranchCases L D R free s (ShapedStore L D) (λ c o. Lined ks (s ▹ c) o) (Lined (free ∷ ks) s)
  branches ks s rest =
      let c = shaped_branches L one D R ok free ks s rest in
      record {
        up = λ d b E o g. (c.up d b E o g.0, tt);
        joined = λ b E F d m n a g. (c.joined b E F d m n a.0 g.0, tt);
        learned = λ b E st g h. c.learned b E st g.0 h;
        mixing = λ o q w a g. (c.mixing o q w a.0 g.0, near_free ks s o q a.1 g.1);
      }

  unfree : (eligible : ℕ → ℕ → Bool) (ks : List Quantifier) (s : Node) (st : Store) → NoFree ks → Rest D s ks → ShapedStore L D st → Gives (ShapedStore L D) (Lined ks s) (visit D R eligible (below L D R ks) s st)
  unfree eligible ks s st n rest h =
      let g = shaped_visit L one D R ok eligible ks s st rest h in
      record { store_ok = g.store_ok; answer_ok = (g.answer_ok, near_none ks s (visit D R eligible (below L D R ks) s st).outcome n (unmixed_visit L one D R ok eligible ks s st rest h)) }

  raised : (ks : List Quantifier) (s : Node) (r : LearningResult) → Gives (ShapedStore L D) (Lined ks s) r → Gives (ShapedStore L D) (Lined ks s) (raise D r)
  raised ks s r g = subst (Gives (ShapedStore L D) (Lined ks s)) (sym (raise_shaped D s r g.answer_ok.0)) g

  lined_visit : (eligible : ℕ → ℕ → Bool) (ks : List Quantifier) (s : Node) (st : Store) → Rest D s ks → FreeFirst ks → ShapedStore L D st → Gives (ShapedStore L D) (Lined ks s) (visit D R eligible (below L D R ks) s st)
  lined_visit eligible [] s st rest f h = unfree eligible [] s st tt rest h
  lined_visit eligible (exists ∷ ks) s st rest f h = unfree eligible (exists ∷ ks) s st f.0 rest h
  lined_visit eligible (forall ∷ ks) s st rest f h = unfree eligible (forall ∷ ks) s st f.0 rest h
  lined_visit eligible (free ∷ ks) s st rest f h =
      visit_by D R s (ShapedStore L D) (Lined (free ∷ ks) s) eligible (below L D R (free ∷ ks)) st (leaves (free ∷ ks) s st eligible h) h
      (λ nd ns. branch_by L D R free s (ShapedStore L D) (λ c o. Lined ks (s ▹ c) o) (Lined (free ∷ ks) s) (branches ks s rest) (λ t st'. raise D (visit D R eqb (below L D R ks) t st'))
      (λ c st' h'. raised ks (s ▹ c) (visit D R eqb (below L D R ks) (s ▹ c) st') (lined_visit eqb ks (s ▹ c) st' (rest_up D s c free ks rest) f.1 h')) st h)

-- ---- the lines of a card
none_free : (ks : List Quantifier) → FreeFirst ks → free_count ks ≡ 0 → NoFree ks
none_free [] f e = tt
none_free (free ∷ ks) f e = absurd (omega (arith, e))
none_free (exists ∷ ks) f e = f.0
none_free (forall ∷ ks) f e = f.0

module _ (y : State) where
  abbrev b : Formula
  b = y.formula

  abbrev found : Outcome Constraint
  found = (learning_search b.limits b.prefix b.clauses (quantifiers b.prefix) [] y.store).outcome

  -- those with the verdict p
  abbrev pub card_lines : Bool → List Node
  card_lines p = select p (decided_nodes [] (outline found))

  module _ (w : well_formed y ≡ true) where
    facts : StateFacts y
    facts = state_facts y w

    lined : Lined b.limits (capacity b facts.formula_ok) b.prefix b.clauses (clauses_rising b facts.formula_ok) (quantifiers b.prefix) [] found
    lined =
        (lined_visit b.limits (capacity b facts.formula_ok) b.prefix b.clauses (clauses_rising b facts.formula_ok) leb (quantifiers b.prefix) [] y.store refl (free_before b facts.formula_ok) facts.store_ok).answer_ok

    -- each line has at most as many places as there are free variables
    pub lines_within : (p : Bool) (s : Node) → Mem s (card_lines p) → length s ≤ free_variables b.prefix
    lines_within p s m = by found lined.1 (select_mem p (decided_nodes [] (outline found)) s m)
      where
        by : (o : Outcome Constraint) → Near (quantifiers b.prefix) [] o → Mem (mark s p) (decided_nodes [] (outline o)) → length s ≤ free_variables b.prefix
        by (decided v E) h (inl e) = omega (arith, ap (λ (d : DecidedNode). length d.node) e)
        by (decided v E) h (inr n) = absurd n
        by (mixed ds) h n = omega (arith, h (mark s p) n)

    -- with no free variable there is at most one
    pub one_line : (p : Bool) → free_variables b.prefix ≡ 0 → length (card_lines p) ≤ 1
    one_line p e =
        by found (unmixed_visit b.limits (capacity b facts.formula_ok) b.prefix b.clauses (clauses_rising b facts.formula_ok) leb (quantifiers b.prefix) [] y.store refl facts.store_ok)
      where
        by : (o : Outcome Constraint) → Unmixed (quantifiers b.prefix) o → length (select p (decided_nodes [] (outline o))) ≤ 1
        by (decided v E) u = own (beq p v)
          where
            one : Bool → List Node
            one x = cond x ([] ∷ []) []

            own : (x : Bool) → length (one x) ≤ 1
            own true = omega arith
            own false = omega arith
        by (mixed ds) u = absurd (u (none_free (quantifiers b.prefix) (free_before b facts.formula_ok) e))
