-- The blocks before are written: what their words have in common and what is new in them.
use Prim.Native.Nat.{◌*◌}
use mathlib.Core.Path.{◌≡◌}
use lib.ListN.{length}
use Rattle.bitset.proofs.Uniting.{Uniting}
use Rattle.inner.proofs.union.unite_blocks.Given as goal

abbrev pub invariant-loop-i : goal.invariant-loop-i
invariant-loop-i l = (length l.t ≡ length l.initial.t) × Uniting l.initial.t l.from l.to l.by (l.i * 4) l.t l.common l.new
