-- `coding::code::encode` meets its contract. The loop keeps the codes of the first literals.
use Prim.Native.Nat.{ℕ, ◌≤◌, ◌<◌}
use mathlib.Core.Path.{◌≡◌}
use lib.ListN.{length, get_or, take}
use Rattle.qbf.specs.Formula.{highest, Prefix}
use Rattle.tables.specs.Views.{Places}
use Rattle.tables.specs.Codes.{codes}
use Rattle.tables.specs.Shelves.{code_count}
use Rattle.coding.proofs.code.encode.Given as goal

abbrev pub invariant-loop-i : goal.invariant-loop-i
invariant-loop-i l = (l.i ≤ length l.lits)
    × (length l.lits ≤ length l.initial.cells)
    × (length l.cells ≡ length l.initial.cells)
    × ((j : ℕ) → j < l.i → get_or l.cells j 0 < code_count)
    × ((D : Prefix) → Places D l.places → length D ≤ highest.numbers → take l.i l.cells ≡ codes D (take l.i l.lits))
