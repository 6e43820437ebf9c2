-- Laws of the rows that stand in a lent table, by its cells; a test of every row.
use Prim.Native.Nat.{ℕ, suc, ◌+◌, ◌*◌, ◌-◌, ◌≤◌, ◌<◌}
use native.Mathlib.Numerals.{add-one}
use native.Mathlib.Omega.{arith}
use mathlib.Core.Path.{◌≡◌, sym, ap, ap₂, ◌∙◌}
use mathlib.Core.Bool.{Bool, true, false}
use mathlib.Core.List.{List, [], ◌∷◌}
use lib.IntN.{ℤ}
use lib.ListN.{length, get_or, take, drop, length-take, length-drop, drop_of_length-le}
use lib.Seq.{get_or-take, get_or-drop, drop-cons}
use Rattle.qbf.specs.Formula.{any}
use Rattle.tables.specs.Views.{row, rows_of, Standing}
use Rattle.tables.proofs.Laws.{rows_length, rows_at}
use Rattle.tables.proofs.Lists.{any_none, any_at}

module _ {w : ℕ} {flat : List ℤ} {sizes : List ℕ} (t : Standing w flat sizes) (k : ℕ) (low : k < get_or sizes 0 0) where
  -- the size of row k, as the code reads it
  pub size_is : get_or sizes (k + 1) 0 ≡ get_or sizes (suc k) 0
  size_is = ap (λ (j : ℕ). get_or sizes j 0) (add-one k)

  pub row_fits : k * w + get_or sizes (k + 1) 0 ≤ length flat
  row_fits = omega (arith, t.inside k low, size_is)

  -- as the code cuts it
  pub row_part : {n : ℕ} → n ≡ get_or sizes (k + 1) 0 → take (k * w + n - k * w) (drop (k * w) flat) ≡ row w flat sizes k
  row_part {n} e =
      let z : k * w + n - k * w ≡ get_or sizes (suc k) 0 = omega (arith, e, size_is) in
      rw z

  pub row_length : length (row w flat sizes k) ≡ get_or sizes (suc k) 0
  row_length = simp (length-take, length-drop) (omega (arith, t.inside k low))

  pub row_at : (i : ℕ) (d : ℤ) → i < get_or sizes (suc k) 0 → get_or (row w flat sizes k) i d ≡ get_or flat (k * w + i) d
  row_at i d h = get_or-take (get_or sizes (suc k) 0) (drop (k * w) flat) i d h ∙ get_or-drop (k * w) flat i d

-- ---- a test of each row
module _ (f : List ℤ → Bool) (w : ℕ) (flat : List ℤ) (sizes : List ℕ) where
  long : length (rows_of w flat sizes) ≡ get_or sizes 0 0
  long = rows_length w flat sizes (get_or sizes 0 0)

  at : {b : Bool} (k : ℕ) → k < get_or sizes 0 0 → f (row w flat sizes k) ≡ b → f (get_or (rows_of w flat sizes) k []) ≡ b
  at k h e = ap f (rows_at w flat sizes (get_or sizes 0 0) k h) ∙ e

  each : {b : Bool} → ((j : ℕ) → j < get_or sizes 0 0 → f (row w flat sizes j) ≡ b) → (j : ℕ) → j < length (rows_of w flat sizes) → f (get_or (rows_of w flat sizes) j []) ≡ b
  each h j m = let l : j < get_or sizes 0 0 = omega (arith, long) in at j l (h j l)

  pub rows_none : ((j : ℕ) → j < get_or sizes 0 0 → f (row w flat sizes j) ≡ false) → any f (rows_of w flat sizes) ≡ false
  rows_none h = any_none f [] (rows_of w flat sizes) (each h)

  pub rows_some : (k : ℕ) → k < get_or sizes 0 0 → f (row w flat sizes k) ≡ true → any f (rows_of w flat sizes) ≡ true
  rows_some k h e = any_at f [] (rows_of w flat sizes) k (omega (arith, long)) (at k h e)

-- ---- the rows one after the other
module _ (w : ℕ) (flat : List ℤ) (sizes : List ℕ) (k : ℕ) where
  pub no_more : get_or sizes 0 0 ≤ k → drop k (rows_of w flat sizes) ≡ []
  no_more h = drop_of_length-le (rows_of w flat sizes) (omega (arith, h, rows_length w flat sizes (get_or sizes 0 0)))

  module _ (h : k < get_or sizes 0 0) where
    pub next_row : drop k (rows_of w flat sizes) ≡ row w flat sizes k ∷ drop (k + 1) (rows_of w flat sizes)
    next_row =
        drop-cons (rows_of w flat sizes) k [] (omega (arith, h, rows_length w flat sizes (get_or sizes 0 0)))
        ∙ ap₂ (λ (x : List ℤ) (n : ℕ). x ∷ drop n (rows_of w flat sizes)) (rows_at w flat sizes (get_or sizes 0 0) k h) (sym (add-one k))

    pub fewer : length (drop (k + 1) (rows_of w flat sizes)) + 1 ≡ length (drop k (rows_of w flat sizes))
    fewer = omega (arith, ap length next_row)
