-- `cover::write_line` meets its contract. The bytes passed are those of their places, and the others are as they were.
use mathlib.Core.Path.{◌≡◌}
use mathlib.Core.List.{◌++◌}
use lib.ListN.{length, drop}
use Rattle.cover.specs.Cover.{first_bytes}
use Rattle.cover.proofs.write_line.Given as goal

abbrev pub invariant-loop-i : goal.invariant-loop-i
invariant-loop-i l = (length l.byte-items ≡ length l.initial.byte-items) × (l.byte-items ≡ first_bytes l.statuses l.i ++ drop l.i l.initial.byte-items)
