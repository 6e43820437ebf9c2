-- What the finder of step 1 owes at every node, also one that no search reaches: the dead clause that reaches least far, the earliest
-- added among equals.
use Rattle.std.specs.Prelude.{◌≤◌, ◌<◌, ◌≡◌, true, false, List, ◌∷◌, ◌++◌}
use Rattle.std.proofs.Math.Option.{Option, none, some}
use Rattle.qbf.specs.Formula.{Prefix, Clause, Node, dead}
use Rattle.qbf.specs.Learning.{reach}
use Rattle.qbf.specs.Card.{Mem}

-- "the dead rule whose reduced form has the lowest last place, the earliest added among equals": a dead clause before it reaches
-- further, and one after it at least as far
pub record IsLowest (D : Prefix) (s : Node) (R : List Clause) (c : Clause) : Type 0 where
  pub earlier : List Clause
  pub later : List Clause
  pub parts : R ≡ earlier ++ (c ∷ later)
  pub is_dead : dead D s c ≡ true
  pub above : (d : Clause) → Mem d earlier → dead D s d ≡ true → reach D c < reach D d
  pub beside : (d : Clause) → Mem d later → dead D s d ≡ true → reach D c ≤ reach D d

abbrev pub FinderOwed : Prefix → Node → List Clause → Option Clause → Type 0
FinderOwed D s R none = (d : Clause) → Mem d R → dead D s d ≡ false
FinderOwed D s R (some c) = IsLowest D s R c
