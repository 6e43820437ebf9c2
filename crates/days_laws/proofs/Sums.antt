-- The sums of the accounts, with one place changed.
use Prim.Native.Nat.{ℕ, zero, suc, ◌+◌, ◌≤◌, ◌<◌}
use native.Mathlib.Nat.{le_of_suc-le-suc, not-suc-le-zero}
use native.Mathlib.Omega.{arith}
use mathlib.Core.Path.{◌≡◌}
use mathlib.Core.List.{List, [], ◌∷◌}
use lib.ListN.{length, get_or, set}
use Rattle.days.specs.Accounts.{owed, used, owing}

pub used_set : (us : List ℕ) (i x : ℕ) → i < length us → used (set us i x) + get_or us i 0 ≡ used us + x
used_set [] i x h = absurd (not-suc-le-zero h)
used_set (u ∷ us) zero x h = omega arith
used_set (u ∷ us) (suc i) x h = omega (arith, used_set us i x (le_of_suc-le-suc h))

pub owing_set : (T : ℕ) (us : List ℕ) (i x : ℕ) → i < length us → owing T (set us i x) + owed T (get_or us i 0) ≡ owing T us + owed T x
owing_set T [] i x h = absurd (not-suc-le-zero h)
owing_set T (u ∷ us) zero x h = omega arith
owing_set T (u ∷ us) (suc i) x h = omega (arith, owing_set T us i x (le_of_suc-le-suc h))

-- what is owed to one place, and used there, is in the sums
pub owing_one : (T : ℕ) (us : List ℕ) (i : ℕ) → i < length us → owed T (get_or us i 0) ≤ owing T us
owing_one T [] i h = absurd (not-suc-le-zero h)
owing_one T (u ∷ us) zero h = omega arith
owing_one T (u ∷ us) (suc i) h = omega (arith, owing_one T us i (le_of_suc-le-suc h))

pub used_one : (us : List ℕ) (i : ℕ) → i < length us → get_or us i 0 ≤ used us
used_one [] i h = absurd (not-suc-le-zero h)
used_one (u ∷ us) zero h = omega arith
used_one (u ∷ us) (suc i) h = omega (arith, used_one us i (le_of_suc-le-suc h))
