-- What is outside in the words of the blocks before is gathered, and it is nothing.
use Prim.Native.Nat.{◌*◌}
use mathlib.Core.Path.{◌≡◌}
use lib.Bits.{bit_or}
use Rattle.bitset.proofs.Gathered.{gathered}
use Rattle.bitset.proofs.Outside.{rests}
use Rattle.inner.proofs.union.any_outside_blocks.Given as goal

abbrev pub invariant-loop-i : goal.invariant-loop-i
invariant-loop-i l = (l.w ≡ gathered bit_or 0 (rests l.a l.b) (l.i * 4)) × (l.w ≡ 0)
