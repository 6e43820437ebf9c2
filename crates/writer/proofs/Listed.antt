-- The lines of a card: the first row, and the rows behind it.
use Prim.Native.Nat.{ℕ, suc, ◌+◌, ◌*◌, ◌-◌, ◌<◌, ◌≤◌}
use mathlib.Core.Path.{◌≡◌, ap, subst, ◌∙◌}
use mathlib.Core.List.{List, [], ◌++◌}
use native.Mathlib.Omega.{arith}
use native.Mathlib.Nat.{suc-mul}
use lib.ListN.{take, drop}
use Rattle.writer.specs.Rows.{row_text, rows_text}

pub rows_step : (f : ℕ) (numbers table : List ℕ) (n k : ℕ) {row rest : List ℕ} → k < n → row ≡ take f table → rest ≡ drop f table
    → rows_text f numbers table (n - k) ≡ row_text numbers row ++ rows_text f numbers rest (n - (k + 1))
unfolding rows_text
rows_step f numbers table n k h p q = rw (p, q) (ap (rows_text f numbers table) left)
  where
    left : n - k ≡ suc (n - (k + 1))
    left = omega (arith, h)

pub rows_end : (f : ℕ) (numbers table : List ℕ) (n k : ℕ) → n ≤ k → rows_text f numbers table (n - k) ≡ []
unfolding rows_text
rows_end f numbers table n k h = ap (rows_text f numbers table) none
  where
    none : n - k ≡ 0
    none = omega (arith, h)

-- the rows that are left have their bytes
pub rows_bytes_all : (f n : ℕ) {m : ℕ} → n * f ≤ m → (n - 0) * f ≤ m
rows_bytes_all f n {m} h = subst (λ (k : ℕ). k * f ≤ m) e h
  where
    e : n ≡ n - 0
    e = omega arith

pub rows_bytes : (f n k : ℕ) → k < n → (n - k) * f ≡ (n - (k + 1)) * f + f
rows_bytes f n k h = ap (λ (m : ℕ). m * f) left ∙ suc-mul (n - (k + 1)) f
  where
    left : n - k ≡ suc (n - (k + 1))
    left = omega (arith, h)

pub rows_all : (f : ℕ) (numbers table : List ℕ) (n : ℕ) → rows_text f numbers table n ≡ rows_text f numbers table (n - 0)
rows_all f numbers table n = ap (rows_text f numbers table) e
  where
    e : n ≡ n - 0
    e = omega arith
