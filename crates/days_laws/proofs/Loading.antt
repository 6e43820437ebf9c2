-- A day as it is loaded.
use Prim.Native.Nat.{ℕ, zero, suc, ◌-◌, ◌<◌}
use native.Mathlib.Nat.{le_of_suc-le-suc, not-suc-le-zero}
use mathlib.Core.Path.{◌≡◌, refl, ap, ◌∙◌}
use mathlib.Core.Bool.{Bool, false, cond}
use mathlib.Core.List.{List, [], ◌∷◌}
use mathlib.Core.Option.{Option, none}
use lib.ListN.{get_or, length}
use Rattle.qbf.specs.Formula.{Formula}
use Rattle.days.specs.Accounts.{books}
use Rattle.days.specs.Day.{book_at, filled, fresh_in, loaded, outside}
use Rattle.days.specs.Promises.{Sound}
use Rattle.days_laws.proofs.Accounts.{opened_stands}
use Rattle.days_laws.proofs.Days.{below_eight}

filled_length : (n : ℕ) (bs : List (Option Formula)) → length (filled n bs) ≡ n
filled_length zero bs = refl
filled_length (suc n) [] = ap suc (filled_length n [])
filled_length (suc n) (b ∷ bs) = ap suc (filled_length n bs)

filled_at : (n : ℕ) (bs : List (Option Formula)) (j : ℕ) → j < n → get_or (filled n bs) j none ≡ fresh_in (get_or bs j none)
filled_at zero bs j h = absurd (not-suc-le-zero h)
filled_at (suc n) [] zero h = refl
filled_at (suc n) [] (suc j) h = filled_at n [] j (le_of_suc-le-suc h)
filled_at (suc n) (b ∷ bs) zero h = refl
filled_at (suc n) (b ∷ bs) (suc j) h = filled_at n bs j (le_of_suc-le-suc h)

module _ (T : ℕ) (bs : List (Option Formula)) where
  pub loaded_sound : Sound (loaded T bs)
  loaded_sound = record { stands = opened_stands T; accounts = refl; eight = filled_length books bs }

  -- each place has the book of its text, freshly opened, or none
  pub loaded_book : (i : ℕ) → outside i ≡ false → book_at (loaded T bs) i ≡ fresh_in (get_or bs (i - 1) none)
  loaded_book i h = ap (λ (o : Bool). cond o none (get_or (filled books bs) (i - 1) none)) h ∙ filled_at books bs (i - 1) (below_eight i h)
