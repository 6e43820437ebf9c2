-- The cells after a row was written into a slot: that slot has the row, the others have what they had.
use Prim.Native.Nat.{ℕ, zero, suc, ◌+◌, ◌-◌, ◌*◌, ◌≤◌, ◌<◌, min}
use native.Mathlib.Omega.{arith}
use native.Mathlib.Numerals.{add-one}
use native.Mathlib.Nat.{zero-add, suc-add, min-eq_left}
use mathlib.Core.Path.{◌≡◌, sym, ap, ◌∙◌}
use mathlib.Core.Logic.{◌⊎◌, inl, inr, ⊎_elim}
use mathlib.Core.List.{List, [], ◌∷◌, ◌++◌, append_assoc}
use lib.ListN.{length, get_or, take, drop, set, length-set}
use lib.Seq.{paste, length-paste, drop-paste, length-take-le, take_all, take_at, drop_at, take-take, take-nil, drop-drop, drop-set-lt, take-set-le, get_or-take, get_or-drop, get_or-set_same}
use Rattle.theory.proofs.Basics.{le_or_lt}
use Rattle.tables.specs.Shelves.{length_at, row_at}
use Rattle.shelf.proofs.Slots.{slot_end, length_short}

-- ---- parts of a list in which elements were written
-- a part of a list is the end of a front
take_drop : (s n : ℕ) (l : List ℕ) → take n (drop s l) ≡ drop s (take (s + n) l)
take_drop zero n l = ap (λ (k : ℕ). take k l) (sym (zero-add n))
take_drop (suc s) n [] = take-nil n ∙ sym (ap (drop (suc s)) (take-nil (suc s + n)))
take_drop (suc s) n (x ∷ xs) = take_drop s n xs ∙ ap (λ (k : ℕ). drop (suc s) (take k (x ∷ xs))) (sym (suc-add s n))

module _ (d : List ℕ) (at : ℕ) (e : List ℕ) (room : at + length e ≤ length d) where
  abbrev d' : List ℕ
  d' = paste d at e (length e)

  -- as one list before the written part and one from it on
  split : d' ≡ take at d ++ (take (length e) e ++ drop (at + length e) d)
  split = append_assoc (take at d) (take (length e) e) (drop (at + length e) d)

  long : length (take at d) ≡ at
  long = length-take-le at d (omega arith)

  paste_before : take at d' ≡ take at d
  paste_before = ap (take at) split ∙ take_at (take at d) (take (length e) e ++ drop (at + length e) d) at long

  paste_after : drop (at + length e) d' ≡ drop (at + length e) d
  paste_after = drop-paste d at e (length e) (omega arith) (omega arith)

  pub part_copy : take (length e) (drop at d') ≡ e
  part_copy =
      ap (λ (l : List ℕ). take (length e) (drop at l)) split
      ∙ ap (take (length e)) (drop_at (take at d) (take (length e) e ++ drop (at + length e) d) at long)
      ∙ take_at (take (length e) e) (drop (at + length e) d) (length e) (length-take-le (length e) e (omega arith))
      ∙ take_all (length e) e (omega arith)

-- two lists that agree up to m have the same elements and parts there
module _ (l l' : List ℕ) (m : ℕ) (same : take m l' ≡ take m l) where
  front_at : (i : ℕ) → i < m → get_or l' i 0 ≡ get_or l i 0
  front_at i h = sym (get_or-take m l' i 0 h) ∙ ap (λ (x : List ℕ). get_or x i 0) same ∙ get_or-take m l i 0 h

  front_part : (s n : ℕ) → s + n ≤ m → take n (drop s l') ≡ take n (drop s l)
  front_part s n h =
      take_drop s n l'
      ∙ ap (drop s) (sym (take-take (s + n) m l' h) ∙ ap (take (s + n)) same ∙ take-take (s + n) m l h)
      ∙ sym (take_drop s n l)

-- two lists that agree from m on
module _ (l l' : List ℕ) (m : ℕ) (same : drop m l' ≡ drop m l) where
  back_drop : (s : ℕ) → m ≤ s → drop s l' ≡ drop s l
  back_drop s h =
      let z : m + (s - m) ≡ s = omega arith in
      ap (λ (k : ℕ). drop k l') (sym z)
      ∙ sym (drop-drop (s - m) m l') ∙ ap (drop (s - m)) same ∙ drop-drop (s - m) m l
      ∙ ap (λ (k : ℕ). drop k l) z

  back_at : (i : ℕ) → m ≤ i → get_or l' i 0 ≡ get_or l i 0
  back_at i h =
      let z : m + (i - m) ≡ i = omega arith in
      ap (λ (k : ℕ). get_or l' k 0) (sym z)
      ∙ sym (get_or-drop m l' (i - m) 0) ∙ ap (λ (x : List ℕ). get_or x (i - m) 0) same ∙ get_or-drop m l (i - m) 0
      ∙ ap (λ (k : ℕ). get_or l k 0) z

-- ---- a row written into slot s
module _ (stride slots : ℕ) (cells row : List ℕ) (s : ℕ) (room : length cells ≡ slots * suc stride) (low : s < slots)
    (fits : length row ≤ stride) where
  abbrev at : ℕ
  at = s * suc stride

  abbrev sized : List ℕ
  sized = set cells at (length row)

  abbrev written : List ℕ
  written = paste sized (suc at) row (length row)

  ends : at + suc stride ≤ length cells
  ends = rw room (slot_end (suc stride) s slots low)

  sized_long : length sized ≡ length cells
  sized_long = length-set cells at (length row)

  holds : suc at + length row ≤ length sized
  holds = omega (arith, ends, sized_long)

  -- the table keeps its length, and the slot has the row
  pub written_long : length written ≡ length cells
  written_long = length-paste sized (suc at) row (length row) holds (omega arith) ∙ sized_long

  pub written_length : length_at stride written s ≡ length row
  written_length =
      ap (λ (n : ℕ). min n stride)
      (front_at sized written (suc at) (paste_before sized (suc at) row holds) at (omega arith)
      ∙ get_or-set_same cells at (length row) 0 (omega (arith, ends)))
      ∙ min-eq_left fits

  pub written_row : row_at stride written s ≡ row
  written_row =
      ap (λ (n : ℕ). take n (drop (suc at) written)) written_length
      ∙ part_copy sized (suc at) row holds

  -- before the slot, and behind it
  front_same : take at written ≡ take at cells
  front_same =
      sym (take-take at (suc at) written (omega arith))
      ∙ ap (take at) (paste_before sized (suc at) row holds)
      ∙ take-take at (suc at) sized (omega arith)
      ∙ take-set-le at cells at (length row) (omega arith)

  back_same : drop (suc at + length row) written ≡ drop (suc at + length row) cells
  back_same = paste_after sized (suc at) row holds ∙ drop-set-lt (suc at + length row) cells at (length row) (omega arith)

  module _ (j : ℕ) where
    short : length_at stride cells j ≤ stride
    short = length_short stride cells j

    earlier_length : j < s → length_at stride written j ≡ length_at stride cells j
    earlier_length h = ap (λ (n : ℕ). min n stride) (front_at cells written at front_same (j * suc stride) (omega (arith, slot_end (suc stride) j s h)))

    earlier_row : j < s → row_at stride written j ≡ row_at stride cells j
    earlier_row h =
        ap (λ (n : ℕ). take n (drop (suc (j * suc stride)) written)) (earlier_length h)
        ∙ front_part cells written at front_same (suc (j * suc stride)) (length_at stride cells j) (omega (arith, short, slot_end (suc stride) j s h))

    later_length : s < j → length_at stride written j ≡ length_at stride cells j
    later_length h = ap (λ (n : ℕ). min n stride) (back_at cells written (suc at + length row) back_same (j * suc stride) (omega (arith, slot_end (suc stride) s j h)))

    later_row : s < j → row_at stride written j ≡ row_at stride cells j
    later_row h =
        ap (λ (n : ℕ). take n (drop (suc (j * suc stride)) written)) (later_length h)
        ∙ ap (take (length_at stride cells j))
        (back_drop cells written (suc at + length row) back_same (suc (j * suc stride)) (omega (arith, slot_end (suc stride) s j h)))

    apart : (j ≡ s → ⊥) → (j < s) ⊎ (s < j)
    apart h = pick (le_or_lt s j) (le_or_lt j s)
      where
        pick : (s ≤ j) ⊎ (j < s) → (j ≤ s) ⊎ (s < j) → (j < s) ⊎ (s < j)
        pick (inr k) i = inl k
        pick (inl k) (inr i) = inr i
        pick (inl k) (inl i) = absurd (h (omega arith))

    -- another slot has what it had
    pub other_row : (j ≡ s → ⊥) → row_at stride written j ≡ row_at stride cells j
    other_row h = ⊎_elim earlier_row later_row (apart h)

-- ---- as the code writes it: the length at a cell, the codes from the next cell on
module _ (d row : List ℕ) (at v : ℕ) (d' : List ℕ) (is : d' ≡ paste (set d at v) (at + 1) row (length row)) where
  pub put_is : d' ≡ paste (set d at v) (suc at) row (length row)
  put_is = is ∙ ap (λ (k : ℕ). paste (set d at v) k row (length row)) (add-one at)
