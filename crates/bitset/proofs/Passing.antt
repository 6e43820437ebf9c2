-- Two rows passed word by word, side by side.
use Prim.Native.Nat.{ℕ, ◌+◌, ◌≤◌, ◌<◌}
use native.Mathlib.Omega.{arith}
use native.Mathlib.Numerals.{add-one}
use mathlib.Core.Path.{◌≡◌, sym, ap, ◌∙◌}
use mathlib.Core.Logic.{◌⊎◌, ⊎_elim}
use mathlib.Core.List.{List, ◌∷◌}
use lib.ListN.{length, get_or, drop}
use lib.Seq.{drop-cons}
use Rattle.std.proofs.lemmas.List.{length-drop}

-- the first word of what is left after n words
module _ (xs : List ℕ) (n x : ℕ) (rest : List ℕ) (left : x ∷ rest ≡ drop n xs) where
  pub there : n < length xs
  there = omega (arith, ap length left, length-drop n xs)

  apart : x ∷ rest ≡ get_or xs n 0 ∷ drop (n + 1) xs
  apart = left ∙ drop-cons xs n 0 there ∙ ap (λ (m : ℕ). get_or xs n 0 ∷ drop m xs) (sym (add-one n))

  pub word_is : x ≡ get_or xs n 0
  word_is = ap (λ (l : List ℕ). get_or l 0 0) apart

  pub rest_is : rest ≡ drop (n + 1) xs
  rest_is = ap (drop 1) apart

-- nothing is left after n words of one of them, and the first is no longer than the second
pub all_passed : (xs ys : List ℕ) (n : ℕ) {p q : List ℕ} → length xs ≤ length ys → p ≡ drop n xs → q ≡ drop n ys → (length p ≡ 0) ⊎ (length q ≡ 0) → length xs ≤ n
all_passed xs ys n short left right =
    ⊎_elim
    (λ e. omega (arith, e, ap length left, length-drop n xs))
    (λ e. omega (arith, e, short, ap length right, length-drop n ys))
