-- The bytes of the line that `write_line` leaves in a free row.
use Prim.Native.Nat.{ℕ, zero, suc, ◌-◌, ◌<◌}
use native.Mathlib.Omega.{arith}
use mathlib.Core.Path.{◌≡◌, refl, sym, ap, ◌∙◌}
use mathlib.Core.Bool.{Bool}
use mathlib.Core.List.{List, [], ◌∷◌, ◌++◌, map}
use lib.ListN.{length, drop}
use Rattle.qbf.specs.Formula.{Node, ◌▹◌}
use Rattle.qbf.specs.Card.{byte_of, line_bytes, zero_table}
use Rattle.theory.proofs.Basics.{length-▹}
use Rattle.tables.specs.Codes.{Statuses}
use Rattle.cover.specs.Cover.{first_bytes}
use Rattle.cover.proofs.Places.{first_bytes_lem}

drop_zeros : (m n : ℕ) → drop m (zero_table n) ≡ zero_table (n - m)
drop_zeros zero n = let same : n ≡ n - 0 = omega arith in ap zero_table same
drop_zeros (suc m) zero = let none : 0 ≡ 0 - suc m = omega arith in ap zero_table none
drop_zeros (suc m) (suc n) = let same : n - m ≡ suc n - suc m = omega arith in drop_zeros m n ∙ ap zero_table same

bytes-▹ : (s : Node) (b : Bool) (xs : List ℕ) → map byte_of (s ▹ b) ++ xs ≡ map byte_of s ++ (byte_of b ∷ xs)
bytes-▹ [] b xs = refl
bytes-▹ (c ∷ s) b xs = ap (λ (l : List ℕ). byte_of c ∷ l) (bytes-▹ s b xs)

module _ (s : Node) (b : Bool) (t : List ℕ) (shown : Statuses s t) where
  pub line_written : (f k v : ℕ) (part row : List ℕ) → length s ≡ k → k < f → v ≡ byte_of b → part ≡ zero_table f
      → row ≡ first_bytes t k ++ (v ∷ drop (suc k) part)
      → row ≡ line_bytes f (s ▹ b)
  line_written f k v part row z h q free r =
      let left : f - suc k ≡ f - length (s ▹ b) = omega (arith, length-▹ s b) in
      r
      ∙ ap (λ (xs : List ℕ). xs ++ (v ∷ drop (suc k) part)) (first_bytes_lem s t shown k z)
      ∙ ap (λ (x : ℕ). map byte_of s ++ (x ∷ drop (suc k) part)) q
      ∙ ap (λ (l : List ℕ). map byte_of s ++ (byte_of b ∷ drop (suc k) l)) free
      ∙ ap (λ (l : List ℕ). map byte_of s ++ (byte_of b ∷ l)) (drop_zeros (suc k) f ∙ ap zero_table left)
      ∙ sym (bytes-▹ s b (zero_table (f - length (s ▹ b))))
