-- The rows of a flat table after one was written behind the others.
use mathlib.Core.Path.{◌≡◌, sym, ap, ◌∙◌}
use mathlib.Core.List.{List, [], ◌∷◌, ◌++◌, append_assoc}
use Prim.Native.Nat.{ℕ, zero, suc, ◌+◌, ◌*◌, ◌<◌, ◌≤◌}
use native.Mathlib.Omega.{arith}
use native.Mathlib.Nat.{le_refl}
use native.Mathlib.Numerals.{add-one}
use borrow.Author.Count.{below_more}
use lib.IntN.{ℤ}
use lib.ListN.{length, get_or, take, drop, set, length-set, length-append}
use lib.Seq.{take_all, take_at, drop_at, take-append-le, take-take, paste, length-paste, length-take-le, get_or-set_same, get_or-set_other}
use Rattle.std.proofs.lemmas.List.{drop-take}
use Rattle.tables.specs.Views.{row, rows, rows_of, Table}
use Rattle.tables.proofs.Laws.{before, rows_suc, rows_zero}

-- ---- parts of lists
module _ {A : Type 0} where
  -- a part that lies within the first list
  part_left : (s n : ℕ) (xs ys : List A) → s + n ≤ length xs → take n (drop s (xs ++ ys)) ≡ take n (drop s xs)
  part_left s n xs ys h = sym (drop-take s n (xs ++ ys)) ∙ ap (drop s) (take-append-le (s + n) xs ys h) ∙ drop-take s n xs

  -- a part before the place of a copy
  part_before : (s n : ℕ) (d : List A) (at : ℕ) (e : List A) (m : ℕ) → s + n ≤ at → at ≤ length d → take n (drop s (paste d at e m)) ≡ take n (drop s d)
  part_before s n d at e m h k =
      let long : length (take at d) ≡ at = length-take-le at d k in
      part_left s n (take at d ++ take m e) (drop (at + m) d) (simp length-append (omega arith))
      ∙ part_left s n (take at d) (take m e) (omega arith)
      ∙ sym (drop-take s n (take at d)) ∙ ap (drop s) (take-take (s + n) at d h) ∙ drop-take s n d

  -- the copy itself
  part_copy : (d : List A) (at : ℕ) (e : List A) → at ≤ length d → take (length e) (drop at (paste d at e (length e))) ≡ e
  part_copy d at e k =
      ap (λ (l : List A). take (length e) (drop at l)) (append_assoc (take at d) (take (length e) e) (drop (at + length e) d))
      ∙ ap (take (length e)) (drop_at (take at d) (take (length e) e ++ drop (at + length e) d) at (length-take-le at d k))
      ∙ take_at (take (length e) e) (drop (at + length e) d) (length e) (length-take-le (length e) e (omega arith))
      ∙ take_all (length e) e (omega arith)

-- ---- tables that have the same rows
module _ (w : ℕ) (f : List ℤ) (l : List ℕ) (f' : List ℤ) (l' : List ℕ) where
  pub same_rows : (n : ℕ) → ((k : ℕ) → k < n → row w f' l' k ≡ row w f l k) → rows w f' l' n ≡ rows w f l n
  same_rows zero h = rows_zero w f' l' ∙ sym (rows_zero w f l)
  same_rows (suc n) h =
      rows_suc w f' l' n
      ∙ ap (λ (x : List ℤ). rows w f' l' n ++ (x ∷ [])) (h n (le_refl (suc n)))
      ∙ ap (λ (xs : List (List ℤ)). xs ++ (row w f l n ∷ [])) (same_rows n (λ k lt. h k (omega arith)))
      ∙ sym (rows_suc w f l n)

-- ---- a row written behind the others: at n, which is how many stand
module _ (w cap : ℕ) (f : List ℤ) (l : List ℕ) (e : List ℤ) (t : Table w cap f l) (low : get_or l 0 0 < cap) (fits : length e ≤ w) where
  abbrev n : ℕ
  n = get_or l 0 0

  abbrev f' : List ℤ
  f' = paste f (n * w) e (length e)

  abbrev l' : List ℕ
  l' = set (set l (n + 1) (length e)) 0 (n + 1)

  ends : n * w + w ≤ length f
  ends = rw t.room (before w n cap low)

  long : suc cap ≤ length (set l (n + 1) (length e))
  long = omega (arith, length-set l (n + 1) (length e), t.counted)

  count : get_or l' 0 0 ≡ n + 1
  count = get_or-set_same (set l (n + 1) (length e)) 0 (n + 1) 0 (omega (arith, long))

  new_size : get_or l' (suc n) 0 ≡ length e
  new_size =
      get_or-set_other (set l (n + 1) (length e)) 0 (suc n) (n + 1) 0 (omega arith)
      ∙ ap (λ (i : ℕ). get_or (set l (n + 1) (length e)) i 0) (sym (add-one n))
      ∙ get_or-set_same l (n + 1) (length e) 0 (omega (arith, t.counted))

  old_size : (k : ℕ) → k < n → get_or l' (suc k) 0 ≡ get_or l (suc k) 0
  old_size k h =
      get_or-set_other (set l (n + 1) (length e)) 0 (suc k) (n + 1) 0 (omega arith)
      ∙ get_or-set_other l (n + 1) (suc k) (length e) 0 (omega arith)

  old_row : (k : ℕ) → k < n → row w f' l' k ≡ row w f l k
  old_row k h =
      ap (λ (m : ℕ). take m (drop (k * w) f')) (old_size k h)
      ∙ part_before (k * w) (get_or l (suc k) 0) f (n * w) e (length e) (omega (arith, t.short k h, before w k n h)) (omega (arith, ends))

  new_row : row w f' l' n ≡ e
  new_row = ap (λ (m : ℕ). take m (drop (n * w) f')) new_size ∙ part_copy f (n * w) e (omega (arith, ends))

  pub appended_rows : rows_of w f' l' ≡ rows_of w f l ++ (e ∷ [])
  appended_rows =
      ap (rows w f' l') (count ∙ add-one n)
      ∙ rows_suc w f' l' n
      ∙ ap (λ (x : List ℤ). rows w f' l' n ++ (x ∷ [])) new_row
      ∙ ap (λ (xs : List (List ℤ)). xs ++ (e ∷ [])) (same_rows w f l f' l' n old_row)

  pub appended_table : Table w cap f' l'
  appended_table = record {
    room = length-paste f (n * w) e (length e) (omega (arith, ends)) (omega arith) ∙ t.room;
    counted = omega (arith, length-set (set l (n + 1) (length e)) 0 (n + 1), long);
    few = rw count (omega arith);
    short = rw count (below_more (λ (k : ℕ). get_or l' (suc k) 0 ≤ w) n (λ k h. rw (old_size k h) (t.short k h)) (rw new_size fits));
  }

-- ---- a table in which no row stands
pub none_rows : (w : ℕ) (f : List ℤ) (l : List ℕ) → get_or l 0 0 ≡ 0 → rows_of w f l ≡ []
none_rows w f l h = ap (rows w f l) h ∙ rows_zero w f l

pub none_left : (l : List ℕ) → 0 < length l → {s : List ℕ} → s ≡ set l 0 0 → get_or s 0 0 ≡ 0
none_left l long is = ap (λ (t : List ℕ). get_or t 0 0) is ∙ get_or-set_same l 0 0 0 long
