-- The rows of a ring of slots: how many, which stands where, without the newest ones, and without the oldest.
use Prim.Native.Nat.{ℕ, zero, suc, ◌+◌, ◌%◌, ◌≤◌, ◌<◌}
use native.Mathlib.Omega.{arith}
use native.Mathlib.Nat.{le_refl}
use mathlib.Core.Path.{◌≡◌, refl, sym, ap, ◌∙◌}
use mathlib.Core.Logic.{◌⊎◌, inl, inr}
use mathlib.Core.List.{List, [], ◌∷◌, ◌++◌}
use lib.ListN.{length, get_or, length-append, get_or-append}
use lib.Seq.{get_or_at}
use Rattle.theory.proofs.Basics.{le_or_lt}
use Rattle.tables.specs.Shelves.{row_at, ring_rows}

module _ (stride slots : ℕ) (cells : List ℕ) (base : ℕ) where
  abbrev rows : ℕ → List (List ℕ)
  rows n = ring_rows stride slots cells base n

  -- the row of the number after base + i
  abbrev pub ring_row : ℕ → List ℕ
  ring_row i = row_at stride cells ((base + i) % slots)

  -- no row, and one row more
  pub ring_zero : rows 0 ≡ []
  unfolding ring_rows
  ring_zero = refl

  pub ring_suc : (n : ℕ) → rows (suc n) ≡ rows n ++ (ring_row n ∷ [])
  unfolding ring_rows
  ring_suc n = refl

  -- as many as asked for
  pub ring_length : (n : ℕ) → length (rows n) ≡ n
  ring_length zero = ap length ring_zero
  ring_length (suc n) = ap length (ring_suc n) ∙ length-append (rows n) (ring_row n ∷ []) ∙ omega (arith, ring_length n)

  -- row i
  pub ring_at : (n i : ℕ) → i < n → get_or (rows n) i [] ≡ ring_row i
  ring_at zero i h = absurd (omega arith)
  ring_at (suc n) i h = pick (le_or_lt n i) (ring_at n i)
    where
      pick : (n ≤ i) ⊎ (i < n) → (i < n → get_or (rows n) i [] ≡ ring_row i) → get_or (rows (suc n)) i [] ≡ ring_row i
      pick (inl k) r =
          let z : n ≡ i = omega arith in
          ap (λ (l : List (List ℕ)). get_or l i []) (ring_suc n)
          ∙ get_or_at (rows n) (ring_row n) [] [] i (ring_length n ∙ z)
          ∙ ap ring_row z
      pick (inr k) r =
          ap (λ (l : List (List ℕ)). get_or l i []) (ring_suc n)
          ∙ get_or-append (rows n) (ring_row n ∷ []) [] i (omega (arith, ring_length n))
          ∙ r k

-- the same rows in another table
pub ring_same : (stride slots : ℕ) (cells cells' : List ℕ) (base n : ℕ)
    → ((i : ℕ) → i < n → ring_row stride slots cells' base i ≡ ring_row stride slots cells base i)
    → ring_rows stride slots cells' base n ≡ ring_rows stride slots cells base n
ring_same stride slots cells cells' base zero h = ring_zero stride slots cells' base ∙ sym (ring_zero stride slots cells base)
ring_same stride slots cells cells' base (suc n) h =
    ring_suc stride slots cells' base n
    ∙ ap (λ (x : List ℕ). ring_rows stride slots cells' base n ++ (x ∷ [])) (h n (le_refl (suc n)))
    ∙ ap (λ (xs : List (List ℕ)). xs ++ (ring_row stride slots cells base n ∷ []))
    (ring_same stride slots cells cells' base n (λ i lt. h i (omega arith)))
    ∙ sym (ring_suc stride slots cells base n)

-- the oldest row, and the others
pub ring_cons : (stride slots : ℕ) (cells : List ℕ) (base n : ℕ)
    → ring_rows stride slots cells base (suc n) ≡ ring_row stride slots cells base 0 ∷ ring_rows stride slots cells (suc base) n
ring_cons stride slots cells base zero =
    ring_suc stride slots cells base 0
    ∙ ap (λ (xs : List (List ℕ)). xs ++ (ring_row stride slots cells base 0 ∷ [])) (ring_zero stride slots cells base)
    ∙ ap (λ (xs : List (List ℕ)). ring_row stride slots cells base 0 ∷ xs) (sym (ring_zero stride slots cells (suc base)))
ring_cons stride slots cells base (suc n) =
    let z : base + suc n ≡ suc base + n = omega arith in
    ring_suc stride slots cells base (suc n)
    ∙ ap (λ (xs : List (List ℕ)). xs ++ (ring_row stride slots cells base (suc n) ∷ [])) (ring_cons stride slots cells base n)
    ∙ ap
    (λ (k : ℕ). ring_row stride slots cells base 0 ∷ (ring_rows stride slots cells (suc base) n ++ (row_at stride cells (k % slots) ∷ [])))
    z
    ∙ ap (λ (xs : List (List ℕ)). ring_row stride slots cells base 0 ∷ xs) (sym (ring_suc stride slots cells (suc base) n))
