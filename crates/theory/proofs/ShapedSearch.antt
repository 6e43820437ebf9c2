-- The learning search keeps stores and outcomes shaped, on any shaped store: no truth is asked. So "goes up reduced" changes nothing.
use Prim.Native.Nat.{ℕ, ◌≤◌}
use mathlib.Core.Path.{◌≡◌, refl}
use mathlib.Core.Bool.{Bool, true, false}
use mathlib.Core.List.{List, [], ◌∷◌}
use lib.ListN.{length}
use lib.Dec.{eqb, leb}
use Rattle.qbf.specs.Formula.{Clause, Limits, Node, Prefix, Quantifier, ◌▹◌}
use Rattle.qbf.specs.Truth.{Outcome, decided, mixed}
use Rattle.qbf.specs.Learning.{Constraint, LearningResult, Store, below, branch, going_up, learning_search, raise, visit}
use Rattle.qbf.specs.Card.{Mem}
use Rattle.theory.proofs.Rest.{Rest, rest_up, rest_kind}
use Rattle.theory.proofs.Game.{Rising}
use Rattle.theory.proofs.Shape.{Formed, Shaped, goes_up_same, shaped_empty, shaped_up, ends_above, shaped_resolvent}
use Rattle.theory.proofs.Stores.{ShapedStore, stored_learn}
use Rattle.theory.proofs.Induction.{Gives, BranchCases, SearchCases, visit_by, branch_by, branching_by, raise_same}
use Rattle.theory.proofs.Leaves.{shaped_leaves}
use Rattle.theory.proofs.Laws.{branch_same}

abbrev pub ShapedOutcome : Prefix → Node → Outcome Constraint → Type 0
ShapedOutcome D s (decided v E) = Shaped D v E s
ShapedOutcome D s (mixed ls) = Unit {0}

-- the result of a search from a node
abbrev pub ShapedResult : Limits → Prefix → Node → LearningResult → Type 0
ShapedResult L D s r = Gives (ShapedStore L D) (ShapedOutcome D s) r

raised : (D : Prefix) (s : Node) (o : Outcome Constraint) → ShapedOutcome D s o → going_up D o ≡ o
raised D s (decided v E) g = goes_up_same D v E g.formed
raised D s (mixed ls) h = refl

-- a shaped result is reduced already
pub raise_shaped : (D : Prefix) (s : Node) (r : LearningResult) → ShapedOutcome D s r.outcome → raise D r ≡ r
raise_shaped D s r h = raise_same D r (raised D s r.outcome h)

module _ (L : Limits) (one : 1 ≤ L.constraints) (D : Prefix) (R : List Clause) (ok : (r : Clause) → Mem r R → Rising D 0 r) where
  pub shaped_branches : (κ : Quantifier) (ks : List Quantifier) (s : Node) → Rest D s (κ ∷ ks) → BranchCases L D R κ s (ShapedStore L D) (λ c o. ShapedOutcome D (s ▹ c) o) (ShapedOutcome D s)
  shaped_branches κ ks s rest =
      record {
        up = λ c b E o g. shaped_up D b s E c g (ends_above D b s κ (rest_kind D s κ ks rest) E c g o);
        joined = λ b E F d m n a g. shaped_resolvent D b s E F a g;
        learned = λ b E st g h. stored_learn (Formed D) L one (length R) b E st g.formed h;
        mixing = λ o q w a g. tt;
      }

  pub shaped_search : SearchCases L D R (λ ks s. Rest D s ks) (ShapedStore L D) (λ ks s o. ShapedOutcome D s o)
  shaped_search =
      record {
        side = λ κ ks s b rest. rest_up D s b κ ks rest;
        leaves = λ ks s st rest h. shaped_leaves D R ok L s st h eqb;
        branches = shaped_branches;
        ends = λ s rest nd ns. shaped_empty D false s;
        raised = λ ks s o h. raised D s o h;
      }

  -- a branch over shaped sides
  pub shaped_branch : (κ : Quantifier) (ks : List Quantifier) (s : Node) → Rest D s (κ ∷ ks) → (f : Node → Store → LearningResult)
      → ((c : Bool) (st : Store) → ShapedStore L D st → ShapedResult L D (s ▹ c) (f (s ▹ c) st)) → (st : Store) → ShapedStore L D st → ShapedResult L D s (branch L D R κ f s st)
  shaped_branch κ ks s rest f sides st h = branch_by L D R κ s (ShapedStore L D) (λ c o. ShapedOutcome D (s ▹ c) o) (ShapedOutcome D s) (shaped_branches κ ks s rest) f sides st h

  pub shaped_below : (ks : List Quantifier) (s : Node) (st : Store) → Rest D s ks → ShapedStore L D st → ShapedResult L D s (below L D R ks s st)
  shaped_below [] s st rest h = record { store_ok = h; answer_ok = shaped_empty D false s }
  shaped_below (κ ∷ ks) s st rest h = branching_by L D R (λ qs t. Rest D t qs) (ShapedStore L D) (λ qs t o. ShapedOutcome D t o) shaped_search κ ks s st rest h

  pub shaped_visit : (eligible : ℕ → ℕ → Bool) (ks : List Quantifier) (s : Node) (st : Store) → Rest D s ks → ShapedStore L D st → ShapedResult L D s (visit D R eligible (below L D R ks) s st)
  shaped_visit eligible ks s st rest h =
      visit_by D R s (ShapedStore L D) (ShapedOutcome D s) eligible (below L D R ks) st (shaped_leaves D R ok L s st h eligible) h (λ nd ns. shaped_below ks s st rest h)

  pub shaped_found : (ks : List Quantifier) (s : Node) (st : Store) → Rest D s ks → ShapedStore L D st → ShapedResult L D s (learning_search L D R ks s st)
  shaped_found ks s st rest h = shaped_visit leb ks s st rest h

  -- what a visit goes on to, without the reducing of what goes up
  pub raise_nothing : (κ : Quantifier) (ks : List Quantifier) (s : Node) (st : Store) → Rest D s (κ ∷ ks) → ShapedStore L D st
      → below L D R (κ ∷ ks) s st ≡ branch L D R κ (visit D R eqb (below L D R ks)) s st
  raise_nothing κ ks s st rest h =
      branch_same L D R κ (λ t st'. raise D (f t st')) f s st (same false st h) (same true (f (s ▹ false) st).store (shaped_visit eqb ks (s ▹ false) st (rest_up D s false κ ks rest) h).store_ok)
    where
      f : Node → Store → LearningResult
      f = visit D R eqb (below L D R ks)

      same : (c : Bool) (st' : Store) → ShapedStore L D st' → raise D (f (s ▹ c) st') ≡ f (s ▹ c) st'
      same c st' h' = raise_shaped D (s ▹ c) (f (s ▹ c) st') (shaped_visit eqb ks (s ▹ c) st' (rest_up D s c κ ks rest) h').answer_ok
