-- Where a row lies in the cells, and that different slots are those of rows that stand together.
use Prim.Native.Nat.{ℕ, suc, ◌+◌, ◌-◌, ◌*◌, ◌/◌, ◌%◌, ◌≤◌, ◌<◌, min}
use native.Mathlib.Omega.{arith}
use native.Mathlib.Nat.{suc-mul, mul-le-mul_right, div-add-mod', min-le_right}
use mathlib.Core.Path.{◌≡◌, ap, subst, ◌∙◌}
use mathlib.Core.Logic.{◌⊎◌, inl, inr}
use mathlib.Core.List.{List}
use lib.ListN.{length, get_or, take, drop, length-drop}
use lib.Seq.{length-take-le}
use Rattle.theory.proofs.Basics.{le_or_lt}
use Rattle.tables.specs.Shelves.{length_at, row_at, Shelf}

-- a slot ends before a later one begins
pub slot_end : (w j n : ℕ) → j < n → j * w + w ≤ n * w
slot_end w j n h = subst (λ (m : ℕ). m ≤ n * w) (suc-mul j w) (mul-le-mul_right w h)

-- numbers that differ by less than the slots have different slots
pub slots_differ : (s b i k : ℕ) → i < k → k < s + i → (b + i) % s ≡ (b + k) % s → ⊥
slots_differ s b i k h lt e = pick (le_or_lt ((b + k) / s) ((b + i) / s))
  where
    pick : ((b + k) / s ≤ (b + i) / s) ⊎ ((b + i) / s < (b + k) / s) → ⊥
    pick (inl q) = omega (arith, div-add-mod' (b + i) s, div-add-mod' (b + k) s, mul-le-mul_right s q)
    pick (inr q) = omega (arith, div-add-mod' (b + i) s, div-add-mod' (b + k) s, slot_end s ((b + i) / s) ((b + k) / s) q)

-- a row is no longer than the stride
pub length_short : (stride : ℕ) (cells : List ℕ) (j : ℕ) → length_at stride cells j ≤ stride
length_short stride cells j = min-le_right (get_or cells (j * suc stride) 0) stride

-- ---- the cells of slot j
module _ {stride slots : ℕ} {cells links : List ℕ} (shelf : Shelf stride slots cells links) (j : ℕ) (low : j < slots) where
  -- they lie within the table
  pub slot_within : j * suc stride + suc stride ≤ length cells
  slot_within = rw shelf.room (slot_end (suc stride) j slots low)

  pub from_is : j * (stride + 1) ≡ j * suc stride
  from_is = omega arith

  -- the row is as long as its first cell says, and no longer than the stride
  pub row_length : length (row_at stride cells j) ≡ length_at stride cells j
  row_length =
      length-take-le (length_at stride cells j) (drop (suc (j * suc stride)) cells)
      (simp length-drop (omega (arith, slot_within, length_short stride cells j)))

  -- the part that the code takes is the row
  from_one : j * (stride + 1) + 1 ≡ suc (j * suc stride)
  from_one = omega arith

  span : (a n : ℕ) → a + n - a ≡ n
  span a n = omega arith

  pub row_is : (len : ℕ) → len ≡ min (get_or cells (j * (stride + 1)) 0) stride
      → take (j * (stride + 1) + 1 + len - (j * (stride + 1) + 1)) (drop (j * (stride + 1) + 1) cells) ≡ row_at stride cells j
  row_is len e =
      ap (λ (n : ℕ). take n (drop (j * (stride + 1) + 1) cells))
      (span (j * (stride + 1) + 1) len ∙ e ∙ ap (λ (i : ℕ). min (get_or cells i 0) stride) from_is)
      ∙ ap (λ (i : ℕ). take (length_at stride cells j) (drop i cells)) from_one

  pub row_short : length (row_at stride cells j) ≤ stride
  row_short = rw row_length (length_short stride cells j)
