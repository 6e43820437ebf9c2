-- One row more on a shelf: the oldest row goes where all slots are taken, and the new one takes its slot.
use Prim.Native.Nat.{ℕ, suc, ◌+◌, ◌-◌, ◌*◌, ◌%◌, ◌≤◌, ◌<◌}
use native.Mathlib.Omega.{arith}
use native.Mathlib.Nat.{mod-lt}
use mathlib.Core.Path.{◌≡◌, refl, sym, ap, subst, ◌∙◌}
use mathlib.Core.Logic.{◌⊎◌, inl, inr}
use mathlib.Core.List.{List, [], ◌∷◌, ◌++◌}
use lib.ListN.{length, take, drop, set}
use lib.Seq.{paste}
use Rattle.theory.proofs.Basics.{le_or_lt}
use Rattle.qbf.specs.Learning.{push}
use Rattle.tables.specs.Codes.{last_code}
use Rattle.tables.specs.Shelves.{code_count, row_at, ring_rows, mark_of, newest_of, base_of, shelf_rows, Shelf}
use Rattle.shelf.proofs.Ring.{ring_length, ring_suc, ring_same, ring_cons, ring_row}
use Rattle.shelf.proofs.Slots.{slots_differ}
use Rattle.shelf.proofs.Writing.{written_long, written_length, written_row, other_row}
use Rattle.shelf.proofs.Linking.{Linked, linked_same, shelf_linked, linked_shelf, linked_drop, relinked, relinked_long, relinked_newest, linked_push}

module _ {stride slots : ℕ} {cells links : List ℕ} (shelf : Shelf stride slots cells links) (some : 0 < slots) where
  abbrev n : ℕ
  n = newest_of links

  abbrev all : List (List ℕ)
  all = shelf_rows stride slots cells links

  -- the number before that of the oldest row that is kept, and how many are kept
  abbrev base : ℕ
  base = suc n - slots

  abbrev count : ℕ
  count = n - base

  abbrev kept : List (List ℕ)
  kept = ring_rows stride slots cells base count

  all_long : length all ≡ n - (n - slots)
  all_long = ring_length stride slots cells (base_of slots links) (n - base_of slots links)

  kept_long : length kept ≡ count
  kept_long = ring_length stride slots cells base count

  kept_low : length kept < slots
  kept_low = omega (arith, kept_long)

  number : n ≡ base + length kept
  number = omega (arith, kept_long)

  -- the rows kept are those that `push` keeps, and are linked
  pub record Kept : Type 0 where
    pub is : kept ≡ drop (suc (length all) - slots) all
    pub linked : Linked slots links base kept

  -- a slot is free: no row goes
  not_full : n < slots → Kept
  not_full h =
      let b : base ≡ base_of slots links = omega arith in
      let c : count ≡ n - base_of slots links = omega arith in
      let e : kept ≡ all = ap (λ (k : ℕ). ring_rows stride slots cells k count) b ∙ ap (ring_rows stride slots cells (base_of slots links)) c in
      let z : suc (length all) - slots ≡ 0 = omega (arith, all_long) in
      record {
        is = e ∙ ap (λ (k : ℕ). drop k all) (sym z);
        linked = linked_same slots links (base_of slots links) base all kept (sym b) (sym e) (shelf_linked shelf);
      }

  -- all slots are taken: the oldest row goes
  full : slots ≤ n → Kept
  full h =
      let old : ℕ = base_of slots links in
      let b : suc old ≡ base = omega arith in
      let c : n - base_of slots links ≡ suc count = omega arith in
      let r : ring_rows stride slots cells (suc old) count ≡ kept = ap (λ (k : ℕ). ring_rows stride slots cells k count) b in
      let e : all ≡ ring_row stride slots cells old 0 ∷ ring_rows stride slots cells (suc old) count = ap (ring_rows stride slots cells old) c ∙ ring_cons stride slots cells old count in
      let z : suc (length all) - slots ≡ 1 = omega (arith, all_long) in
      record {
        is = sym r ∙ sym (ap (drop 1) e) ∙ ap (λ (k : ℕ). drop k all) (sym z);
        linked =
            linked_same slots links (suc old) base (ring_rows stride slots cells (suc old) count) kept b r
            (linked_drop slots links old (ring_row stride slots cells old 0) (ring_rows stride slots cells (suc old) count)
            (linked_same slots links old old all (ring_row stride slots cells old 0 ∷ ring_rows stride slots cells (suc old) count) refl e (shelf_linked shelf)));
      }

  keeping : Kept
  keeping = pick (le_or_lt slots n)
    where
      pick : (slots ≤ n) ⊎ (n < slots) → Kept
      pick (inl h) = full h
      pick (inr h) = not_full h

  -- ---- the tables after the row was written
  module _ (row : List ℕ) (s : ℕ) (slot_is : s ≡ n % slots) (fits : length row ≤ stride) (low : last_code row < code_count) (above : last_code row < mark_of links) where
    abbrev cells' : List ℕ
    cells' = paste (set cells (s * suc stride) (length row)) (suc (s * suc stride)) row (length row)

    abbrev links' : List ℕ
    links' = relinked links (last_code row) s n

    s_low : s < slots
    s_low = rw slot_is (mod-lt n some)

    s_within : suc (suc code_count) + s < length links
    s_within = omega (arith, s_low, shelf.linked)

    -- the newest number is one more
    pub pushed_newest : newest_of links' ≡ suc n
    pushed_newest = relinked_newest links (last_code row) s n low above s_within

    base_is : base_of slots links' ≡ base
    base_is = ap (λ (k : ℕ). k - slots) pushed_newest

    count_is : newest_of links' - base_of slots links' ≡ suc count
    count_is = omega (arith, pushed_newest, base_is)

    last_slot : (base + count) % slots ≡ s
    last_slot = let z : base + count ≡ n = omega arith in ap (λ (k : ℕ). k % slots) z ∙ sym slot_is

    same_row : (i : ℕ) → i < count → ring_row stride slots cells' base i ≡ ring_row stride slots cells base i
    same_row i h =
        other_row stride slots cells row s shelf.room s_low fits ((base + i) % slots)
        (λ e. slots_differ slots base i count h (omega arith) (e ∙ sym last_slot))

    rows_are : shelf_rows stride slots cells' links' ≡ kept ++ (row ∷ [])
    rows_are =
        ap (λ (k : ℕ). ring_rows stride slots cells' k (newest_of links' - base_of slots links')) base_is
        ∙ ap (ring_rows stride slots cells' base) count_is
        ∙ ring_suc stride slots cells' base count
        ∙ ap (λ (x : List ℕ). ring_rows stride slots cells' base count ++ (x ∷ []))
        (ap (row_at stride cells') last_slot ∙ written_row stride slots cells row s shelf.room s_low fits)
        ∙ ap (λ (xs : List (List ℕ)). xs ++ (row ∷ [])) (ring_same stride slots cells cells' base count same_row)

    -- the row stands in its slot
    pub pushed_row : take (length row) (drop (suc (s * suc stride)) cells') ≡ row
    pushed_row =
        ap (λ (k : ℕ). take k (drop (suc (s * suc stride)) cells')) (sym (written_length stride slots cells row s shelf.room s_low fits))
        ∙ written_row stride slots cells row s shelf.room s_low fits

    -- the rows are those of `push`
    pub pushed_rows : shelf_rows stride slots cells' links' ≡ push slots row all
    pushed_rows = rows_are ∙ ap (λ (xs : List (List ℕ)). xs ++ (row ∷ [])) keeping.is

    -- they stand on a shelf
    pub pushed_shelf : Shelf stride slots cells' links'
    pushed_shelf =
        linked_shelf stride slots cells' links'
        (written_long stride slots cells row s shelf.room s_low fits ∙ shelf.room)
        (relinked_long links (last_code row) s n low above s_within ∙ shelf.linked)
        base
        (kept ++ (row ∷ []))
        base_is
        rows_are
        (linked_push slots links base kept row s n keeping.linked low above s_within kept_low number slot_is)

  -- ---- as the code writes them
  pub record Pushed (row : List ℕ) (s : ℕ) (cells₁ links₁ : List ℕ) : Type 0 where
    pub is : row_at stride cells₁ s ≡ row
    pub others : (j : ℕ) → (j ≡ s → ⊥) → row_at stride cells₁ j ≡ row_at stride cells j
    pub stands : Shelf stride slots cells₁ links₁
    pub rows : shelf_rows stride slots cells₁ links₁ ≡ push slots row all
    pub newest : newest_of links₁ ≡ suc n
    pub low : s < slots
    pub kept : take (length row) (drop (suc (s * suc stride)) cells₁) ≡ row

  pub pushing : (row : List ℕ) (s code : ℕ) (cells₁ links₁ : List ℕ) → s ≡ n % slots → code ≡ last_code row → code < code_count → code < mark_of links → length row ≤ stride
      → cells₁ ≡ paste (set cells (s * (stride + 1)) (length row)) (suc (s * (stride + 1))) row (length row)
      → links₁ ≡ relinked links code s n
      → Pushed row s cells₁ links₁
  pushing row s code cells₁ links₁ slot_is code_is low above fits cells_are links_are =
      let at : s * (stride + 1) ≡ s * suc stride = omega arith in
      let low' : last_code row < code_count = omega arith in
      let above' : last_code row < mark_of links = omega arith in
      let e : cells₁ ≡ cells' row s slot_is fits low' above' = cells_are ∙ ap (λ (a : ℕ). paste (set cells a (length row)) (suc a) row (length row)) at in
      let e' : links₁ ≡ links' row s slot_is fits low' above' = links_are ∙ ap (λ (k : ℕ). relinked links k s n) code_is in
      subst (λ (x : List ℕ). Pushed row s x links₁) (sym e)
      (subst (λ (y : List ℕ). Pushed row s (cells' row s slot_is fits low' above') y) (sym e')
      (record {
        is = written_row stride slots cells row s shelf.room (s_low row s slot_is fits low' above') fits;
        others = other_row stride slots cells row s shelf.room (s_low row s slot_is fits low' above') fits;
        stands = pushed_shelf row s slot_is fits low' above';
        rows = pushed_rows row s slot_is fits low' above';
        newest = pushed_newest row s slot_is fits low' above';
        low = s_low row s slot_is fits low' above';
        kept = pushed_row row s slot_is fits low' above';
      }))
