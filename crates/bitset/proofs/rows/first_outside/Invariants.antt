-- No number of the words before is outside; the words from here on are left.
use Prim.Native.Nat.{ℕ, ◌*◌, ◌<◌}
use mathlib.Core.Path.{◌≡◌}
use mathlib.Core.Bool.{false}
use lib.ListN.{drop}
use Rattle.bitset.specs.Rows.{width, outside}
use Rattle.bitset.proofs.rows.first_outside.Given as goal

abbrev pub invariant-loop-k : goal.invariant-loop-k
invariant-loop-k l = (l.k-iterator.iter.a.rest.now ≡ drop l.k-iterator.count l.a)
    × (l.k-iterator.iter.b.rest.now ≡ drop l.k-iterator.count l.b)
    × ((i : ℕ) → i < l.k-iterator.count * width → outside l.a 0 l.b 0 i ≡ false)
