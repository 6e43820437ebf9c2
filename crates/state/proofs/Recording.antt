-- The test of the records of the learned clauses.
use Prim.Native.Nat.{ℕ, zero, suc, ◌+◌}
use Rattle.std.proofs.Common.{arith}
use mathlib.Core.Path.{◌≡◌, refl, ap, ◌∙◌}
use mathlib.Core.Bool.{Bool, ◌&&◌}
use mathlib.Core.List.{List}
use lib.Dec.{leb}
use Rattle.std.specs.List.{range_with_len}
use Rattle.qbf.specs.Formula.{all}
use Rattle.state.specs.Reading.{listing, at_most, record_at}

-- a test of the numbers of a range is one of the elements that they list
listed : {A : Type 0} (t : A → Bool) (f : ℕ → A) (i k : ℕ) → all (λ j. t (f j)) (range_with_len i k) ≡ all t (listing f i k)
listed t f i zero = refl
listed t f i (suc k) =
    let e : i + 1 ≡ suc i = omega arith in ap (λ q. t (f i) && q) (ap (λ j. all (λ m. t (f m)) (range_with_len j k)) e ∙ listed t f (suc i) k)

pub records_most : (n : ℕ) (sizes : List ℕ) (k : ℕ) → all (λ j. leb (record_at sizes j) n) (range_with_len 0 k) ≡ at_most n (listing (record_at sizes) 0 k)
records_most n sizes k = listed (λ r. leb r n) (record_at sizes) 0 k
