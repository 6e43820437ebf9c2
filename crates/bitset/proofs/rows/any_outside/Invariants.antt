-- What is outside in the words before is gathered.
use mathlib.Core.Path.{◌≡◌}
use lib.Bits.{bit_or}
use lib.ListN.{length}
use Rattle.bitset.proofs.Gathered.{gathered}
use Rattle.bitset.proofs.Outside.{rests}
use Rattle.bitset.proofs.rows.any_outside.Given as goal

abbrev pub invariant-loop-x : goal.invariant-loop-x
invariant-loop-x l = l.w ≡ gathered bit_or 0 (rests l.a l.b) (length l.yielded)
