-- `coding::quantifiers::quantifiers_of` meets its contract. The loop keeps the quantifiers of the first places.
use Prim.Native.Nat.{◌≤◌}
use mathlib.Core.Path.{◌≡◌}
use mathlib.Core.Bool.{true}
use mathlib.Core.List.{[]}
use lib.ListN.{length, get_or}
use Rattle.qbf.specs.Formula.{highest, Prefix}
use Rattle.qbf.specs.Calls.{numbers_are_ok}
use Rattle.tables.specs.Views.{Numbers, Kinds}
use Rattle.tables.specs.Shelves.{code_count}
use Rattle.coding.proofs.Placewise.{Filled}
use Rattle.coding.proofs.quantifiers.quantifiers_of.Given as goal

abbrev pub invariant-loop-i : goal.invariant-loop-i
invariant-loop-i l = (l.i ≤ l.count)
    × (l.count ≡ get_or l.numbers 0 0)
    × (get_or l.numbers 0 0 ≤ highest.numbers)
    × (length l.table ≡ code_count)
    × ((D : Prefix) → Numbers D l.numbers → Kinds D l.kinds → numbers_are_ok highest [] D ≡ true → Filled D l.i l.table)
