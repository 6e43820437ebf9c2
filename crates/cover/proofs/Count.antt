-- How many lines fit: the only products and quotients.
use Prim.Native.Nat.{ℕ, zero, suc, ◌+◌, ◌*◌, ◌-◌, ◌/◌, ◌≤◌, ◌<◌}
use native.Mathlib.Nat.{le-div_iff_mul-le, div-lt_iff_lt-mul, le_of_suc-le-suc}
use native.Mathlib.Omega.{arith}
use mathlib.Core.Path.{◌≡◌, refl, sym, ap, ◌∙◌}
use mathlib.Core.Bool.{Bool, true, false, not}
use lib.Dec.{leb, leb→le, le→leb, nleb→lt}
use Rattle.theory.proofs.Basics.{T→≡, ≡→T}

count_fits : (f size n : ℕ) → 0 < f → n ≤ size / f → n * f ≤ size
count_fits f size n p h = (le-div_iff_mul-le p).0 h

pub fits_count : (f size n : ℕ) → 0 < f → n * f ≤ size → n ≤ size / f
fits_count f size n p h = (le-div_iff_mul-le p).1 h

-- the row after n lines
pub row_fits : (f size n : ℕ) → 0 < f → n < size / f → n * f + f ≤ size
row_fits f size n p h = omega (arith, count_fits f size (suc n) p h)

pub no_row : (f size n : ℕ) → size < n * f + f → size / f ≤ n
no_row zero size n h = absurd (omega arith)
no_row (suc f) size n h = le_of_suc-le-suc ((div-lt_iff_lt-mul {k = suc f} {x = size} {y = suc n} (omega arith)).1 (omega arith))

-- the row of the last of n lines
pred_row : (n f : ℕ) → 1 ≤ n → n * f ≡ (n - 1) * f + f
pred_row zero f h = absurd (omega arith)
pred_row (suc n) f h = let same : suc n - 1 ≡ n = omega arith in omega (arith, ap (λ (m : ℕ). m * f) same)

pub last_fits : (r : Bool) (f size n : ℕ) → r ≡ true → r ≡ leb (n * f) size → 1 ≤ n → (n - 1) * f + f ≤ size
last_fits r f size n t e h = omega (arith, pred_row n f h, leb→le (n * f) size (≡→T (leb (n * f) size) (sym e ∙ t)))

pub last_none : (r : Bool) (f size n : ℕ) → r ≡ false → r ≡ leb (n * f) size → 1 ≤ n → size < (n - 1) * f + f
last_none r f size n t e h = omega (arith, pred_row n f h, nleb→lt (n * f) size (≡→T (not (leb (n * f) size)) (ap not (sym e ∙ t))))

-- ---- the test of `fits`
same_test : (a b c d : ℕ) → (a ≤ b → c ≤ d) → (c ≤ d → a ≤ b) → leb a b ≡ leb c d
same_test a b c d p q = by (leb a b) (leb c d) refl refl
  where
    by : (x y : Bool) → leb a b ≡ x → leb c d ≡ y → x ≡ y
    by true true e g = refl
    by false false e g = refl
    by true false e g = sym (T→≡ (leb c d) (le→leb c d (p (leb→le a b (≡→T (leb a b) e))))) ∙ g
    by false true e g = sym e ∙ T→≡ (leb a b) (le→leb a b (q (leb→le c d (≡→T (leb c d) g))))

pub fits_empty : (size n : ℕ) → leb (n * 0) size ≡ true
fits_empty size n = T→≡ (leb (n * 0) size) (le→leb (n * 0) size (omega arith))

pub fits_test : (size f n : ℕ) → 0 < f → leb n (size / f) ≡ leb (n * f) size
fits_test size f n p = same_test n (size / f) (n * f) size (count_fits f size n p) (fits_count f size n p)
