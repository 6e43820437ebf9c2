-- Lists at their ends, and the images of their parts.
use Prim.Native.Nat.{ℕ, zero, suc, ◌+◌, ◌-◌, ◌≤◌, ◌<◌}
use native.Mathlib.Omega.{arith}
use native.Mathlib.Nat.{le_of_suc-le-suc, not-suc-le-zero}
use native.Mathlib.Numerals.{add-one}
use mathlib.Core.Path.{◌≡◌, refl, sym, ap, ◌∙◌}
use mathlib.Core.List.{List, [], ◌∷◌, ◌++◌, map}
use lib.ListN.{length, get_or, take, drop, drop_of_length-le}
use lib.Seq.{take-suc, drop-cons}

module _ {A : Type 0} where
  -- the first n, with the last of them apart
  pub take_last : (l : List A) (n : ℕ) (d : A) → 0 < n → n ≤ length l → take n l ≡ take (n - 1) l ++ (get_or l (n - 1) d ∷ [])
  take_last l n d h k = ap (λ (m : ℕ). take m l) (let e : n ≡ suc (n - 1) = omega arith in e) ∙ take-suc l (n - 1) d (omega arith)

  -- what is left from n on, with the first of it apart
  pub drop_more : (l : List A) (n : ℕ) (d : A) → n < length l → drop n l ≡ get_or l n d ∷ drop (n + 1) l
  drop_more l n d h = drop-cons l n d h ∙ ap (λ (m : ℕ). get_or l n d ∷ drop m l) (sym (add-one n))

  -- nothing is left at the end
  pub drop_end : (l : List A) (n : ℕ) → length l ≤ n → drop n l ≡ []
  drop_end l n h = drop_of_length-le l h

module _ {A B : Type 0} (f : A → B) where
  -- the first n of an image
  pub take_image : (n : ℕ) (l : List A) → take n (map f l) ≡ map f (take n l)
  take_image zero l = refl
  take_image (suc n) [] = refl
  take_image (suc n) (x ∷ l) = ap (λ (m : List B). f x ∷ m) (take_image n l)

  -- an element of an image
  pub get_d_image : (l : List A) (i : ℕ) (d : A) (z : B) → i < length l → get_or (map f l) i z ≡ f (get_or l i d)
  get_d_image [] i d z h = absurd (not-suc-le-zero h)
  get_d_image (x ∷ l) zero d z h = refl
  get_d_image (x ∷ l) (suc i) d z h = get_d_image l i d z (le_of_suc-le-suc h)
