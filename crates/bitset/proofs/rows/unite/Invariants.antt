-- The words before are written: what they have in common and what is new in them.
use mathlib.Core.Path.{◌≡◌}
use lib.ListN.{length}
use Rattle.bitset.proofs.Uniting.{Uniting}
use Rattle.bitset.proofs.rows.unite.Given as goal

abbrev pub invariant-loop-k : goal.invariant-loop-k
invariant-loop-k l = (length l.t ≡ length l.initial.t) × Uniting l.initial.t l.from l.to l.by l.k l.t l.common l.new
