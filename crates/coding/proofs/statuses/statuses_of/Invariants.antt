-- `coding::statuses::statuses_of` meets its contract. The loop keeps the statuses at the node of the first places.
use Prim.Native.Nat.{◌≤◌}
use mathlib.Core.Path.{◌≡◌}
use mathlib.Core.Bool.{true}
use mathlib.Core.List.{[]}
use lib.ListN.{length, take}
use Rattle.qbf.specs.Formula.{highest, Prefix, Node}
use Rattle.qbf.specs.Calls.{numbers_are_ok}
use Rattle.tables.specs.Views.{Numbers, Values}
use Rattle.tables.specs.Codes.{Statuses}
use Rattle.tables.specs.Shelves.{code_count}
use Rattle.coding.proofs.statuses.statuses_of.Given as goal

abbrev pub invariant-loop-i : goal.invariant-loop-i
invariant-loop-i l = (l.i ≤ l.at)
    × (l.at ≤ highest.numbers)
    × (length l.statuses ≡ code_count)
    × ((D : Prefix) (s : Node) → Numbers D l.numbers → Values D s l.values → numbers_are_ok highest [] D ≡ true → length s ≡ l.at → length s ≤ length D → Statuses (take l.i s) l.statuses)
