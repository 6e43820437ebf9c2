-- One row written from its front: what the loop of `write_line` keeps.
use Prim.Native.Nat.{ℕ, zero, suc, ◌+◌, ◌≤◌, ◌<◌}
use native.Mathlib.Numerals.{add-one}
use native.Mathlib.Omega.{arith}
use mathlib.Core.Path.{◌≡◌, refl, sym, ap, ◌∙◌}
use mathlib.Core.Bool.{true}
use mathlib.Core.List.{List, [], ◌∷◌, ◌++◌, append_assoc, append-nil}
use lib.ListN.{length, get_or, set, take, drop, drop_of_length-le, length-append}
use lib.Seq.{set_at, drop-cons, length-take-le}
use Rattle.tables.specs.Codes.{code_at}
use Rattle.cover.specs.Cover.{first_bytes}

-- one more byte in front of what stands
extended : (row xs : List ℕ) (i v : ℕ) → length xs ≡ i → i < length row → set (xs ++ drop i row) i v ≡ (xs ++ (v ∷ [])) ++ drop (i + 1) row
extended row xs i v e h =
    ap (λ (ys : List ℕ). set (xs ++ ys) i v) (drop-cons row i 0 h)
    ∙ set_at xs (get_or row i 0) (drop (suc i) row) v i e
    ∙ sym (append_assoc xs (v ∷ []) (drop (i + 1) row) ∙ ap (λ (n : ℕ). xs ++ v ∷ drop n row) (add-one i))

-- ---- values
module _ (t : List ℕ) where
  first_length : (k : ℕ) → length (first_bytes t k) ≡ k
  unfolding first_bytes
  first_length zero = refl
  first_length (suc k) = omega (arith, length-append (first_bytes t k) (get_or t (code_at (suc k) true) 0 ∷ []), first_length k)

  pub values_none : (row : List ℕ) → row ≡ first_bytes t 0 ++ drop 0 row
  unfolding first_bytes
  values_none row = refl

  next : (k v : ℕ) → v ≡ get_or t (code_at (k + 1) true) 0 → first_bytes t k ++ (v ∷ []) ≡ first_bytes t (k + 1)
  unfolding first_bytes
  next k v e =
      ap (λ (x : ℕ). first_bytes t k ++ (x ∷ [])) (e ∙ ap (λ (n : ℕ). get_or t (code_at n true) 0) (add-one k)) ∙ ap (first_bytes t) (sym (add-one k))

  pub values_more : (row now : List ℕ) (i v : ℕ) → i < length row → v ≡ get_or t (code_at (i + 1) true) 0 → now ≡ first_bytes t i ++ drop i row → set now i v ≡ first_bytes t (i + 1) ++ drop (i + 1) row
  values_more row now i v h w e =
      ap (λ (l : List ℕ). set l i v) e
      ∙ extended row (first_bytes t i) i v (first_length i) h
      ∙ ap (λ (xs : List ℕ). xs ++ drop (i + 1) row) (next i v w)

  -- all that are written, before the others
  pub values_whole : (row now : List ℕ) (i k : ℕ) → i ≡ k → k ≤ length row → now ≡ first_bytes t i ++ drop i (take k row) → now ++ drop k row ≡ first_bytes t k ++ drop k row
  values_whole row now i k z h e =
      ap (λ (xs : List ℕ). xs ++ drop k row)
      (e
      ∙ ap (λ (n : ℕ). first_bytes t n ++ drop n (take k row)) z
      ∙ ap (λ (ys : List ℕ). first_bytes t k ++ ys) (drop_of_length-le (take k row) (omega (arith, length-take-le k row h)))
      ∙ append-nil (first_bytes t k))

  pub values_last : (row now : List ℕ) (i k v : ℕ) → i ≡ k → k < length row → now ≡ first_bytes t i ++ drop i row → set now k v ≡ first_bytes t k ++ (v ∷ drop (suc k) row)
  values_last row now i k v z h e =
      ap (λ (l : List ℕ). set l k v) (e ∙ ap (λ (n : ℕ). first_bytes t n ++ drop n row) z)
      ∙ ap (λ (ys : List ℕ). set (first_bytes t k ++ ys) k v) (drop-cons row k 0 h)
      ∙ set_at (first_bytes t k) (get_or row k 0) (drop (suc k) row) v k (first_length k)
