-- Before the turn of a place the rows and marks of the places before it are there.
use mathlib.Core.Path.{◌≡◌}
use mathlib.Core.List.{List}
use Prim.Native.Nat.{suc, ◌-◌, ◌≤◌}
use lib.ListN.{length}
use Rattle.qbf.specs.Formula.{Prefix, Clause, Node}
use Rattle.tables.specs.Sets.{Descended}
use Rattle.loading_start.specs.Started.{StartShown}
use Rattle.loading_start.proofs.start_rows.Given as goal

abbrev pub invariant-loop-at : goal.invariant-loop-at
invariant-loop-at l = (l.at ≤ suc l.start.at)
    × ((D : Prefix) (R : List Clause) (s : Node) → StartShown D R s l.start.words l.start.at l.sets l.statuses → length R ≡ l.count → Descended D s R l.start.words l.trail.sat l.trail.marks (l.at - 1))
