-- The rows of a flat table of which the cells before a row stay, and those that stand in a lent one.
use Prim.Native.Nat.{ℕ, zero, suc, ◌+◌, ◌*◌, ◌-◌, ◌≤◌, ◌<◌}
use native.Mathlib.Omega.{arith}
use native.Mathlib.Nat.{le_refl}
use native.Mathlib.Numerals.{add-one}
use mathlib.Core.Path.{◌≡◌, sym, ap, subst, ◌∙◌}
use mathlib.Core.List.{List, [], ◌∷◌, ◌++◌}
use borrow.Rule.Slice.PartMut.{put_mid, post_of}
use lib.ListN.{length, get_or, take, drop, length-drop}
use lib.Seq.{take-take, drop_at, length-take-le, take-append-le}
use Rattle.std.proofs.lemmas.List.{drop-take}
use Rattle.tables.specs.Views.{row, rows, Table}
use Rattle.tables.proofs.Laws.{before, rows_suc, rows_zero, standing}
use Rattle.lent_rows.specs.Held.{Held}

module _ {A : Type 0} where
  -- a part that ends within the first m elements
  pub part_kept : (s n m : ℕ) (l l' : List A) → s + n ≤ m → take m l' ≡ take m l → take n (drop s l') ≡ take n (drop s l)
  part_kept s n m l l' h e =
      sym (drop-take s n l')
      ∙ ap (drop s) (sym (take-take (s + n) m l' h) ∙ ap (take (s + n)) e ∙ take-take (s + n) m l h)
      ∙ drop-take s n l

  -- the rows before row k, of which the cells and the sizes stay
  module _ (w k : ℕ) (f f' : List A) (l l' : List ℕ) (cells : take (k * w) f' ≡ take (k * w) f) (sizes : (j : ℕ) → j < k → get_or l' (suc j) 0 ≡ get_or l (suc j) 0)
      (short : (j : ℕ) → j < k → get_or l (suc j) 0 ≤ w) where
    -- the first n of them
    kept : (n : ℕ) → n ≤ k → rows w f' l' n ≡ rows w f l n
    kept zero h = rows_zero w f' l' ∙ sym (rows_zero w f l)
    kept (suc n) h =
        rows_suc w f' l' n
        ∙ ap (λ (x : List A). rows w f' l' n ++ (x ∷ []))
        (ap (λ (m : ℕ). take m (drop (n * w) f')) (sizes n h)
        ∙ part_kept (n * w) (get_or l (suc n) 0) (k * w) f f' (omega (arith, short n h, before w n k h)) cells)
        ∙ ap (λ (xs : List (List A)). xs ++ (row w f l n ∷ [])) (kept n (omega arith))
        ∙ sym (rows_suc w f l n)

    -- all of them
    pub rows_kept : rows w f' l' k ≡ rows w f l k
    rows_kept = kept k (le_refl k)

-- ---- a part of a list that was lent and written
module _ {A : Type 0} where
  -- what was written into the part
  pub put_part : (a k n : ℕ) (xs ys : List A) → a ≤ length xs → n ≤ length ys → take n (drop a (put_mid a k xs ys)) ≡ take n ys
  put_part a k n xs ys h m =
      ap (take n) (drop_at (take a xs) (ys ++ post_of a k xs) a (length-take-le a xs h))
      ∙ take-append-le n ys (post_of a k xs) m

  -- a part within the list is as long as it says
  pub part_long : (a n : ℕ) (l : List A) → a + n ≤ length l → length (take n (drop a l)) ≡ n
  part_long a n l h = length-take-le n (drop a l) (simp length-drop (omega arith))

-- ---- row k, as the code reads it
-- its size
pub size_small : (w k : ℕ) (l : List ℕ) → get_or l (suc k) 0 ≤ w → get_or l (k + 1) 0 ≤ w
size_small w k l h = subst (λ (j : ℕ). get_or l j 0 ≤ w) (sym (add-one k)) h

-- its elements
pub row_is : {A : Type 0} (w k : ℕ) (f : List A) (l : List ℕ) → take (get_or l (k + 1) 0) (drop (k * w) f) ≡ row w f l k
row_is w k f l = ap (λ (j : ℕ). take (get_or l j 0) (drop (k * w) f)) (add-one k)

-- .. as a part from where it begins to where it ends
pub row_part : {A : Type 0} (w k : ℕ) (f : List A) (l : List ℕ) → take ((k * w + get_or l (k + 1) 0) - k * w) (drop (k * w) f) ≡ row w f l k
row_part w k f l =
    let e : (k * w + get_or l (k + 1) 0) - k * w ≡ get_or l (k + 1) 0 = omega arith in
    ap (λ (n : ℕ). take n (drop (k * w) f)) e ∙ row_is w k f l

module _ {A : Type 0} {w cap : ℕ} {f : List A} {l : List ℕ} (t : Held w cap f l) (k : ℕ) (low : k < get_or l 0 0) where
  -- the size of a row that stands
  pub table_size : get_or l (k + 1) 0 ≤ w
  table_size = size_small w k l (t.short k low)

  pub size_within : {n : ℕ} → w ≤ n → get_or l (k + 1) 0 ≤ n
  size_within h = omega (arith, table_size, h)

  -- a row that stands ends within the table
  pub table_within : k * w + get_or l (k + 1) 0 ≤ length f
  table_within = subst (λ (j : ℕ). k * w + get_or l j 0 ≤ length f) (sym (add-one k)) (t.inside k low)

-- ---- tables with room for every row hold those that stand, and back
pub table_held : {A : Type 0} {w cap : ℕ} {f : List A} {l : List ℕ} → Table w cap f l → Held w cap f l
table_held t = let s = standing t in record { counted = s.counted; few = t.few; short = t.short; inside = s.inside }

pub held_table : {A : Type 0} {w cap : ℕ} {f : List A} {l : List ℕ} → Held w cap f l → length f ≡ cap * w → suc cap ≤ length l → Table w cap f l
held_table h room counted = record { room = room; counted = counted; few = h.few; short = h.short }
