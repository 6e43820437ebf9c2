-- Laws by which the code is proved: the lines of a list in two parts, a branch by its off side's outcome and by its sides.
use Prim.Native.Nat.{suc, ◌+◌}
use mathlib.Core.Path.{◌≡◌, refl, ap, ◌∙◌}
use mathlib.Core.Bool.{Bool, true, false, cond, beq}
use mathlib.Core.List.{List, [], ◌∷◌, ◌++◌}
use lib.ListN.{length}
use Rattle.qbf.specs.Formula.{Clause, Limits, Node, Prefix, Quantifier, ◌▹◌}
use Rattle.qbf.specs.Truth.{DecidedNode, Outcome, decided, decided_nodes, mixed, select}
use Rattle.qbf.specs.Plain.{decides}
use Rattle.qbf.specs.Learning.{Constraint, LearningResult, Next, Store, after_both, after_off, branch, dropped, goes_up, onward, proceed, up, up_or_onward}

-- where a node stops at one side is where reduction drops a literal
pub decides_dropped : (v : Bool) (κ : Quantifier) → decides v κ ≡ dropped v κ
decides_dropped true κ = refl
decides_dropped false κ = refl

pub select_append : (p : Bool) (xs ys : List DecidedNode) → select p (xs ++ ys) ≡ select p xs ++ select p ys
select_append p [] ys = refl
select_append p (d ∷ xs) ys = by (beq p d.verdict) (select_append p xs ys)
  where
    by : (x : Bool) → select p (xs ++ ys) ≡ select p xs ++ select p ys
        → cond x (d.node ∷ select p (xs ++ ys)) (select p (xs ++ ys)) ≡ cond x (d.node ∷ select p xs) (select p xs) ++ select p ys
    by true h = ap {B = List Node} (λ l. d.node ∷ l) h
    by false h = h

module _ (L : Limits) (D : Prefix) (R : List Clause) (κ : Quantifier) (f : Node → Store → LearningResult) (s : Node) (st : Store) where
  abbrev off : LearningResult
  off = f (s ▹ false) st

  abbrev on : LearningResult
  on = f (s ▹ true) off.store

  pub branch_up : (b : Bool) (e : Constraint) → off.outcome ≡ decided b e → goes_up D κ (suc (length s)) b e ≡ true
      → branch L D R κ f s st ≡ record { outcome = decided b e; store = off.store; visits = suc off.visits }
  branch_up b e p q =
      ap (λ (o : Outcome Constraint). proceed (after_off L D R κ s o off.store off.visits) (f (s ▹ true)) off.store) p
      ∙ ap (λ (x : Bool). proceed (up_or_onward L D R x κ s b e off.store off.visits) (f (s ▹ true)) off.store) q

  pub branch_on : (b : Bool) (e : Constraint) → off.outcome ≡ decided b e → goes_up D κ (suc (length s)) b e ≡ false
      → branch L D R κ f s st ≡ after_both L D R κ s b e on.outcome on.store (suc (off.visits + on.visits))
  branch_on b e p q =
      ap (λ (o : Outcome Constraint). proceed (after_off L D R κ s o off.store off.visits) (f (s ▹ true)) off.store) p
      ∙ ap (λ (x : Bool). proceed (up_or_onward L D R x κ s b e off.store off.visits) (f (s ▹ true)) off.store) q

  pub branch_mixed : (ls : List DecidedNode) → off.outcome ≡ mixed ls
      → branch L D R κ f s st ≡ record { outcome = mixed (ls ++ decided_nodes (s ▹ true) on.outcome); store = on.store; visits = suc (off.visits + on.visits) }
  branch_mixed ls p = ap (λ (o : Outcome Constraint). proceed (after_off L D R κ s o off.store off.visits) (f (s ▹ true)) off.store) p

proceed_same : (o : Next) (g g' : Store → LearningResult) (st : Store) → g st ≡ g' st → proceed o g st ≡ proceed o g' st
proceed_same (up r) g g' st e = refl
proceed_same (onward k) g g' st e = ap k e

-- a branch asks its sides at two arguments only
pub branch_same : (L : Limits) (D : Prefix) (R : List Clause) (κ : Quantifier) (f g : Node → Store → LearningResult) (s : Node) (st : Store)
    → f (s ▹ false) st ≡ g (s ▹ false) st → f (s ▹ true) (g (s ▹ false) st).store ≡ g (s ▹ true) (g (s ▹ false) st).store → branch L D R κ f s st ≡ branch L D R κ g s st
branch_same L D R κ f g s st p q =
    ap (λ (r : LearningResult). proceed (after_off L D R κ s r.outcome r.store r.visits) (f (s ▹ true)) r.store) p
    ∙ proceed_same (after_off L D R κ s (g (s ▹ false) st).outcome (g (s ▹ false) st).store (g (s ▹ false) st).visits) (f (s ▹ true)) (g (s ▹ true)) (g (s ▹ false) st).store q
