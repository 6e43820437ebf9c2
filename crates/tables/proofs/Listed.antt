-- What a function gives for the first numbers, as a list.
use Prim.Native.Nat.{ℕ, zero, suc, ◌<◌}
use native.Mathlib.Omega.{arith}
use native.Mathlib.Nat.{le_refl, eq-or-lt_of_le}
use mathlib.Core.Path.{◌≡◌, refl, sym, ap, ◌∙◌}
use mathlib.Core.Logic.{◌⊎◌, inl, inr}
use mathlib.Core.List.{List, [], ◌∷◌, ◌++◌, map, map-append}
use lib.ListN.{length, get_or, drop, length-append, get_or-append}
use lib.Seq.{get_or_at, drop-cons}
use Rattle.tables.specs.Views.{row, rows}
use Rattle.tables.specs.Matrices.{listed}

module _ {A : Type 0} (f : ℕ → A) where
  pub listed_length : (n : ℕ) → length (listed f n) ≡ n
  unfolding listed
  listed_length zero = refl
  listed_length (suc n) = omega (arith, length-append (listed f n) (f n ∷ []), listed_length n)

  -- the element at an index
  pub listed_at : (d : A) (n k : ℕ) → k < n → get_or (listed f n) k d ≡ f k
  unfolding listed
  listed_at d zero k h = absurd (omega arith)
  listed_at d (suc n) k h = by (eq-or-lt_of_le {n = k} {m = n} (omega arith)) (listed_at d n k)
    where
      by : (k ≡ n) ⊎ (k < n) → (k < n → get_or (listed f n) k d ≡ f k) → get_or (listed f n ++ (f n ∷ [])) k d ≡ f k
      by (inl e) ih = get_or_at (listed f n) (f n) [] d k (listed_length n ∙ sym e) ∙ ap f (sym e)
      by (inr a) ih = get_or-append (listed f n) (f n ∷ []) d k (omega (arith, listed_length n)) ∙ ih a

  -- the list from an index on
  pub listed_drop : (n k : ℕ) → k < n → drop k (listed f n) ≡ f k ∷ drop (suc k) (listed f n)
  listed_drop n k h =
      drop-cons (listed f n) k (f k) (omega (arith, listed_length n))
      ∙ ap (λ (x : A). x ∷ drop (suc k) (listed f n)) (listed_at (f k) n k h)

  -- two functions that agree on the first n numbers
  pub listed_same : (g : ℕ → A) (n : ℕ) → ((k : ℕ) → k < n → f k ≡ g k) → listed f n ≡ listed g n
  unfolding listed
  listed_same g zero h = refl
  listed_same g (suc n) h =
      ap (λ (xs : List A). xs ++ (f n ∷ [])) (listed_same g n (λ k m. h k (omega arith)))
      ∙ ap (λ (x : A). listed g n ++ (x ∷ [])) (h n (le_refl (suc n)))

  -- the image of the list
  pub listed_map : {B : Type 0} (g : A → B) (n : ℕ) → map g (listed f n) ≡ listed (λ k. g (f k)) n
  unfolding listed
  listed_map g zero = refl
  listed_map {B} g (suc n) = map-append g (listed f n) (f n ∷ []) ∙ ap (λ (xs : List B). xs ++ (g (f n) ∷ [])) (listed_map g n)

-- the rows of a flat table are such a list
pub rows_listed : {A : Type 0} (w : ℕ) (flat : List A) (sizes : List ℕ) (n : ℕ) → rows w flat sizes n ≡ listed (row w flat sizes) n
unfolding rows listed
rows_listed w flat sizes zero = refl
rows_listed {A} w flat sizes (suc n) = ap (λ (xs : List (List A)). xs ++ (row w flat sizes n ∷ [])) (rows_listed w flat sizes n)
