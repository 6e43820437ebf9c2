-- Lists by what a test says at each index: every one, some, the first.
use Prim.Native.Nat.{ℕ, zero, suc, ◌≤◌, ◌<◌, suc-le-suc, zero-le}
use native.Mathlib.Nat.{le_of_suc-le-suc, not-suc-le-zero}
use mathlib.Core.Path.{◌≡◌, refl, ap, ◌∙◌}
use mathlib.Core.Bool.{Bool, true, false, cond, ◌&&◌, ◌||◌}
use mathlib.Core.List.{List, [], ◌∷◌}
use mathlib.Core.Option.{none, some}
use lib.Dec.{ltb, leb-zero, leb-suc-suc}
use lib.ListN.{length, get_or}
use Rattle.qbf.specs.Formula.{any, all}
use Rattle.qbf.specs.Learning.{first}
use Rattle.tables.specs.Views.{index_of}

-- ---- a test at each index
module _ {A : Type 0} (f : A → Bool) (d : A) where
  pub all_each : (xs : List A) → ((j : ℕ) → j < length xs → f (get_or xs j d) ≡ true) → all f xs ≡ true
  all_each [] h = refl
  all_each (x ∷ xs) h = rw (h 0 (suc-le-suc zero-le)) (all_each xs (λ j l. h (suc j) (suc-le-suc l)))

  pub all_fails : (xs : List A) (i : ℕ) → i < length xs → f (get_or xs i d) ≡ false → all f xs ≡ false
  all_fails [] i l e = absurd (not-suc-le-zero l)
  all_fails (x ∷ xs) zero l e = rw e
  all_fails (x ∷ xs) (suc i) l e = and_false (f x) (all_fails xs i (le_of_suc-le-suc l) e)
    where
      and_false : (b : Bool) {c : Bool} → c ≡ false → (b && c) ≡ false
      and_false true e = e
      and_false false e = refl

  pub any_none : (xs : List A) → ((j : ℕ) → j < length xs → f (get_or xs j d) ≡ false) → any f xs ≡ false
  any_none [] h = refl
  any_none (x ∷ xs) h = rw (h 0 (suc-le-suc zero-le)) (any_none xs (λ j l. h (suc j) (suc-le-suc l)))

  pub any_at : (xs : List A) (i : ℕ) → i < length xs → f (get_or xs i d) ≡ true → any f xs ≡ true
  any_at [] i l e = absurd (not-suc-le-zero l)
  any_at (x ∷ xs) zero l e = rw e
  any_at (x ∷ xs) (suc i) l e = or_true (f x) (any_at xs i (le_of_suc-le-suc l) e)
    where
      or_true : (b : Bool) {c : Bool} → c ≡ true → (b || c) ≡ true
      or_true true e = refl
      or_true false e = e

  -- none before i
  pub index_at : (xs : List A) (i : ℕ) → i < length xs → ((j : ℕ) → j < i → f (get_or xs j d) ≡ false) → f (get_or xs i d) ≡ true → index_of f xs ≡ i
  index_at [] i l h e = absurd (not-suc-le-zero l)
  index_at (x ∷ xs) zero l h e = rw e
  index_at (x ∷ xs) (suc i) l h e =
      rw (h 0 (suc-le-suc zero-le)) (ap suc (index_at xs i (le_of_suc-le-suc l) (λ j m. h (suc j) (suc-le-suc m)) e))

  pub index_none : (xs : List A) → ((j : ℕ) → j < length xs → f (get_or xs j d) ≡ false) → index_of f xs ≡ length xs
  index_none [] h = refl
  index_none (x ∷ xs) h = rw (h 0 (suc-le-suc zero-le)) (ap suc (index_none xs (λ j l. h (suc j) (suc-le-suc l))))

  -- ---- by the index of the first
  pub any_index : (xs : List A) → ltb (index_of f xs) (length xs) ≡ any f xs
  any_index [] = refl
  any_index (x ∷ xs) = step (f x) (any_index xs)
    where
      step : (b : Bool) → ltb (index_of f xs) (length xs) ≡ any f xs → ltb (cond b 0 (suc (index_of f xs))) (suc (length xs)) ≡ (b || any f xs)
      step true e = leb-suc-suc 0 (length xs) ∙ leb-zero (length xs)
      step false e = leb-suc-suc (suc (index_of f xs)) (length xs) ∙ e

  pub first_at : (xs : List A) → index_of f xs < length xs → first f xs ≡ some (get_or xs (index_of f xs) d)
  first_at [] l = absurd (not-suc-le-zero l)
  first_at (x ∷ xs) l = step (f x) (first_at xs) l
    where
      step : (b : Bool)
          → (index_of f xs < length xs → first f xs ≡ some (get_or xs (index_of f xs) d))
          → cond b 0 (suc (index_of f xs)) < suc (length xs)
          → cond b (some x) (first f xs) ≡ some (get_or (x ∷ xs) (cond b 0 (suc (index_of f xs))) d)
      step true ih m = refl
      step false ih m = ih (le_of_suc-le-suc m)

  pub first_none : (xs : List A) → length xs ≤ index_of f xs → first f xs ≡ none
  first_none [] l = refl
  first_none (x ∷ xs) l = step (f x) (first_none xs) l
    where
      step : (b : Bool) → (length xs ≤ index_of f xs → first f xs ≡ none) → suc (length xs) ≤ cond b 0 (suc (index_of f xs)) → cond b (some x) (first f xs) ≡ none
      step true ih m = absurd (not-suc-le-zero m)
      step false ih m = ih (le_of_suc-le-suc m)

-- ---- two tests that agree
module _ {A : Type 0} (f g : A → Bool) (same : (x : A) → f x ≡ g x) where
  pub all_same : (xs : List A) → all f xs ≡ all g xs
  all_same [] = refl
  all_same (x ∷ xs) = rw (same x, all_same xs)

  pub index_same : (xs : List A) → index_of f xs ≡ index_of g xs
  index_same [] = refl
  index_same (x ∷ xs) = rw (same x, index_same xs)
