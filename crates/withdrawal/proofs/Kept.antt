-- The learned clauses that a withdrawal leaves: one more behind the others.
use Prim.Native.Nat.{ℕ, suc, ◌+◌, ◌*◌, ◌-◌, ◌≤◌, ◌<◌}
use native.Mathlib.Omega.{arith}
use native.Mathlib.Numerals.{add-one}
use native.Mathlib.Nat.{le_refl}
use Rattle.std.proofs.Math.Nat.{mul-le-mul_right}
use mathlib.Core.Path.{◌≡◌, refl, sym, ap, subst, ◌∙◌}
use mathlib.Core.List.{List, [], ◌∷◌, ◌++◌}
use Rattle.qbf.specs.Calls.{standing}
use lib.IntN.{ℤ}
use lib.ListN.{length, get_or, take, drop, set, length-append, length-set, length-drop}
use lib.Seq.{paste, take_all, drop-drop, length-take-le, get_or-set_same, get_or-set_other}
use Rattle.qbf.specs.Formula.{paper, highest}
use Rattle.tables.specs.Views.{Table, row, rows, rows_of}
use Rattle.state.specs.Reading.{listing, record_at, records_of}
use Rattle.state.proofs.Listing.{listing_length, listing_snoc, listing_same}
use Rattle.tables.proofs.Laws.{before, rows_length, rows_suc}
use Rattle.theory.proofs.Stores.{length_standing, standing_end}
use Rattle.withdrawal.specs.Learned.{Room, Movable, Same, SameFrom, Grown, Moved, KeptRow, Kept}
use Rattle.rule_rows.proofs.Rows.{appended_rows, appended_table, none_rows, same_rows}
use Rattle.std.proofs.lemmas.List.Edits.{drop-paste}

-- where a record stands
abbrev cell : ℕ → ℕ
cell k = suc paper.constraints + k

-- a cell behind the sizes is set: the rows stay
module _ (w : ℕ) (f : List ℤ) (l : List ℕ) (t : Table w paper.constraints f l) (i r : ℕ) where
  count_stays : get_or (set l (cell i) r) 0 0 ≡ get_or l 0 0
  count_stays = get_or-set_other l (cell i) 0 r 0 (omega arith)

  size_stays : (k : ℕ) → k < get_or l 0 0 → get_or (set l (cell i) r) (suc k) 0 ≡ get_or l (suc k) 0
  size_stays k h = get_or-set_other l (cell i) (suc k) r 0 (omega (arith, h, t.few))

  behind_table : Table w paper.constraints f (set l (cell i) r)
  behind_table =
      record {
        room = t.room;
        counted = omega (arith, t.counted, length-set l (cell i) r);
        few = omega (arith, count_stays, t.few);
        short = λ k h. let low : k < get_or l 0 0 = omega (arith, h, count_stays) in omega (arith, size_stays k low, t.short k low);
      }

  behind_rows : rows_of w f (set l (cell i) r) ≡ rows_of w f l
  behind_rows =
      ap (rows w f (set l (cell i) r)) count_stays
      ∙ same_rows w f l f (set l (cell i) r) (get_or l 0 0) (λ k h. ap (λ (m : ℕ). take m (drop (k * w) f)) (size_stays k h))

module _ (w : ℕ) (f : List ℤ) (l : List ℕ) (room : Room w f l) (e : List ℤ) (r : ℕ) (low : get_or l 0 0 < paper.constraints) (fits : length e ≤ w) where
  abbrev n : ℕ
  n = get_or l 0 0

  abbrev f' : List ℤ
  f' = paste f (n * w) e (length e)

  abbrev l₁ : List ℕ
  l₁ = set (set l (n + 1) (length e)) 0 (n + 1)

  abbrev l' : List ℕ
  l' = set l₁ (cell n) r

  long : length l₁ ≡ length l
  long = length-set (set l (n + 1) (length e)) 0 (n + 1) ∙ length-set l (n + 1) (length e)

  t₁ : Table w paper.constraints f' l₁
  t₁ = appended_table w paper.constraints f l e room.table low fits

  count : get_or l' 0 0 ≡ suc n
  count =
      count_stays w f' l₁ t₁ n r
      ∙ get_or-set_same (set l (n + 1) (length e)) 0 (n + 1) 0 (omega (arith, room.table.counted, length-set l (n + 1) (length e)))
      ∙ add-one n

  old_record : (j : ℕ) → j < n → record_at l' (0 + j) ≡ record_at l (0 + j)
  old_record j h =
      get_or-set_other l₁ (cell n) (cell (0 + j)) r 0 (omega (arith, h))
      ∙ get_or-set_other (set l (n + 1) (length e)) 0 (cell (0 + j)) (n + 1) 0 (omega arith)
      ∙ get_or-set_other l (n + 1) (cell (0 + j)) (length e) 0 (omega (arith, low))

  new_record : record_at l' (0 + n) ≡ r
  new_record =
      let e₀ : 0 + n ≡ n = omega arith in
      ap (record_at l') e₀ ∙ get_or-set_same l₁ (cell n) r 0 (omega (arith, long, room.behind, low))

  -- a row behind those that are kept, and behind the new one
  pub later_same : (j : ℕ) → n < j → j < paper.constraints → Same w j f l f' l'
  later_same j h below =
      record {
        size =
            get_or-set_other l₁ (cell n) (suc j) r 0 (omega (arith, below))
            ∙ get_or-set_other (set l (n + 1) (length e)) 0 (suc j) (n + 1) 0 (omega arith)
            ∙ get_or-set_other l (n + 1) (suc j) (length e) 0 (omega (arith, h));
        part = behind_part;
        record_kept =
            get_or-set_other l₁ (cell n) (cell j) r 0 (omega (arith, h))
            ∙ get_or-set_other (set l (n + 1) (length e)) 0 (cell j) (n + 1) 0 (omega arith)
            ∙ get_or-set_other l (n + 1) (cell j) (length e) 0 (omega (arith, low));
      }
    where
      ends : n * w + w ≤ j * w
      ends = before w n j h

      inside : j * w ≤ length f
      inside = omega (arith, room.table.room, before w j paper.constraints below)

      split : j * w ≡ (n * w + length e) + (j * w - (n * w + length e))
      split = omega (arith, ends, fits)

      behind_part : drop (j * w) f' ≡ drop (j * w) f
      behind_part =
          ap (λ (k : ℕ). drop k f') split
          ∙ sym (drop-drop (j * w - (n * w + length e)) (n * w + length e) f')
          ∙ ap (drop (j * w - (n * w + length e))) (drop-paste f (n * w) e (length e) (omega (arith, ends, inside)) (omega arith))
          ∙ drop-drop (j * w - (n * w + length e)) (n * w + length e) f
          ∙ ap (λ (k : ℕ). drop k f) (sym split)

  pub learned_grown : Grown w f l e r f' l'
  learned_grown =
      record {
        room = record { table = behind_table w f' l₁ t₁ n r; behind = omega (arith, length-set l₁ (cell n) r, long, room.behind) };
        kept = length-set l₁ (cell n) r ∙ long;
        rows = behind_rows w f' l₁ t₁ n r ∙ appended_rows w paper.constraints f l e room.table low fits;
        records =
            ap (listing (record_at l') 0) count
            ∙ listing_snoc (record_at l') 0 n
            ∙ ap (λ (xs : List ℕ). xs ++ (record_at l' (0 + n) ∷ [])) (listing_same (record_at l') (record_at l) 0 n old_record)
            ∙ ap (λ (x : ℕ). records_of l ++ (x ∷ [])) new_record;
      }

-- ---- row i is moved, as the code copies it: the part of the table is its first literals
module _ (w : ℕ) (f : List ℤ) (l : List ℕ) (i : ℕ) (m : Movable w f l i) where
  abbrev stands : ℕ
  stands = get_or l 0 0

  abbrev size : ℕ
  size = get_or l (suc i) 0

  abbrev literals : List ℤ
  literals = row w f l i

  pub row_inside : i * w + size ≤ length f
  row_inside = omega (arith, m.room.table.room, before w i paper.constraints m.low, m.short)

  pub goes_inside : stands * w ≤ i * w
  goes_inside = mul-le-mul_right w m.few

  as_long : length literals ≡ size
  as_long = length-take-le size (drop (i * w) f) (simp length-drop (omega (arith, row_inside)))

  copied : {k : ℕ} → k ≡ size → paste f (stands * w) (drop (i * w) f) ((i * w + k) - i * w) ≡ paste f (stands * w) literals (length literals)
  copied {k} q =
      ap (λ (m : ℕ). paste f (stands * w) (drop (i * w) f) m) (omega (arith, q))
      ∙ (λ j. take (stands * w) f ++ same j ++ drop (stands * w + sym as_long j) f)
    where
      same : literals ≡ take (length literals) literals
      same = sym (take_all (length literals) literals (omega arith))

  pub moved_row : {k : ℕ} → k ≡ size → {f' : List ℤ} → f' ≡ paste f (stands * w) (drop (i * w) f) ((i * w + k) - i * w)
      → Moved w i f l f' (set (set (set l (stands + 1) k) 0 (stands + 1)) (cell stands) (record_at l i))
  moved_row {k} q {f'} p =
      rw (p ∙ copied q)
      (subst (λ (m : ℕ). Moved w i f l (paste f (stands * w) literals (length literals)) (set (set (set l (stands + 1) m) 0 (stands + 1)) (cell stands) (record_at l i))) (as_long ∙ sym q)
      (record {
        grown = learned_grown w f l m.room literals (record_at l i) (omega (arith, m.few, m.low)) (omega (arith, as_long, m.short));
        later = λ j h below. later_same w f l m.room literals (record_at l i) (omega (arith, m.few, m.low)) (omega (arith, as_long, m.short)) j (omega (arith, m.few, h)) below;
      }))

-- ---- the first i rows
pub record Keeping (w : ℕ) (cells : List ℤ) (sizes : List ℕ) (n i : ℕ) (kept : List ℤ) (sizes' : List ℕ) : Type 0 where
  pub room : Room w kept sizes'
  pub long : length sizes' ≡ length sizes
  pub few : get_or sizes' 0 0 ≤ i
  pub done : rows_of w kept sizes' ≡ standing n (listing (record_at sizes) 0 i) (rows w cells sizes i)
  pub recorded : records_of sizes' ≡ standing n (listing (record_at sizes) 0 i) (listing (record_at sizes) 0 i)
  pub later : SameFrom w i cells sizes kept sizes'

module _ {w : ℕ} {cells : List ℤ} {sizes : List ℕ} {n : ℕ} (room₀ : Room w cells sizes) where
  pub keeping_none : Keeping w cells sizes n 0 cells (set sizes 0 0)
  keeping_none =
      record {
        room =
            record {
              table =
                  record {
                    room = room₀.table.room;
                    counted = omega (arith, room₀.table.counted, length-set sizes 0 0);
                    few = omega (arith, empty);
                    short = λ k h. absurd (omega (arith, h, empty));
                  };
              behind = omega (arith, room₀.behind, length-set sizes 0 0);
            };
        long = length-set sizes 0 0;
        few = omega (arith, empty);
        done = none_rows w cells (set sizes 0 0) empty;
        recorded = ap (listing (record_at (set sizes 0 0)) 0) empty;
        later = λ j h below. record {
          size = get_or-set_other sizes 0 (suc j) 0 0 (omega arith);
          part = refl;
          record_kept = get_or-set_other sizes 0 (cell j) 0 0 (omega arith);
        };
      }
    where
      empty : get_or (set sizes 0 0) 0 0 ≡ 0
      empty = get_or-set_same sizes 0 0 0 (omega (arith, room₀.behind))

  -- row i stands where it stood
  pub keeping_movable : w ≤ highest.numbers → {i : ℕ} {kept : List ℤ} {s : List ℕ} → Keeping w cells sizes n i kept s → i < get_or sizes 0 0 → Movable w kept s i
  keeping_movable wide {i} {kept} {s} inv h =
      let low : i < paper.constraints = omega (arith, h, room₀.table.few) in
      record {
        wide = wide;
        room = inv.room;
        few = inv.few;
        low = low;
        short = omega (arith, (inv.later i (le_refl i) low).size, room₀.table.short i h);
      }

  keeping_more : {i : ℕ} {kept : List ℤ} {s : List ℕ} → Keeping w cells sizes n i kept s → i < get_or sizes 0 0 → (kept' : List ℤ) (s' : List ℕ)
      → KeptRow w i n kept s kept' s' → Keeping w cells sizes n (suc i) kept' s'
  keeping_more {i} {kept} {s} inv h kept' s' m =
      record {
        room = m.room;
        long = m.kept ∙ inv.long;
        few = omega (arith, inv.few, ap length m.rows, length-append (rows_of w kept s) (standing n (record_at s i ∷ []) (row w kept s i ∷ [])), length_standing n (record_at s i ∷ []) (row w kept s i ∷ []), rows_length w kept s (get_or s 0 0), rows_length w kept' s' (get_or s' 0 0));
        done =
            m.rows
            ∙ (λ j. inv.done j ++ standing n (same.record_kept j ∷ []) (same_row j ∷ []))
            ∙ sym (standing_end n (listing (record_at sizes) 0 i) (rows w cells sizes i) (listing_length (record_at sizes) 0 i ∙ sym (rows_length w cells sizes i)) k e₀)
            ∙ (λ j. standing n (snoc j) (rowed j));
        recorded =
            m.records
            ∙ (λ j. inv.recorded j ++ standing n (same.record_kept j ∷ []) (same.record_kept j ∷ []))
            ∙ sym (standing_end n (listing (record_at sizes) 0 i) (listing (record_at sizes) 0 i) refl k k)
            ∙ (λ j. standing n (snoc j) (snoc j));
        later = λ j le below. let a = m.later j le below in let b = inv.later j (omega (arith, le)) below in
            record { size = a.size ∙ b.size; part = a.part ∙ b.part; record_kept = a.record_kept ∙ b.record_kept };
      }
    where
      same : Same w i cells sizes kept s
      same = inv.later i (le_refl i) (omega (arith, h, room₀.table.few))

      k : ℕ
      k = record_at sizes i

      e₀ : List ℤ
      e₀ = row w cells sizes i

      same_row : row w kept s i ≡ e₀
      same_row = λ j. take (same.size j) (same.part j)

      rowed : rows w cells sizes i ++ (e₀ ∷ []) ≡ rows w cells sizes (suc i)
      rowed = sym (rows_suc w cells sizes i)

      snoc : listing (record_at sizes) 0 i ++ (k ∷ []) ≡ listing (record_at sizes) 0 (suc i)
      snoc = let z : 0 + i ≡ i = omega arith in sym (listing_snoc (record_at sizes) 0 i ∙ ap (λ (m : ℕ). listing (record_at sizes) 0 i ++ (record_at sizes m ∷ [])) z)

  pub keeping_next : {i : ℕ} {kept : List ℤ} {s : List ℕ} → Keeping w cells sizes n i kept s → i < get_or sizes 0 0 → {kept' : List ℤ} {s' : List ℕ}
      → KeptRow w i n kept s kept' s' → Keeping w cells sizes n (i + 1) kept' s'
  keeping_next {i} inv h {kept'} {s'} m = subst (λ (j : ℕ). Keeping w cells sizes n j kept' s') (sym (add-one i)) (keeping_more inv h kept' s' m)

  -- all of them
  pub keeping_end : {i : ℕ} {kept : List ℤ} {s : List ℕ} → Keeping w cells sizes n i kept s → i ≡ get_or sizes 0 0 → Kept w cells sizes n kept s
  keeping_end {i} {kept} {s} inv q =
      let all : Keeping w cells sizes n (get_or sizes 0 0) kept s = subst (λ (j : ℕ). Keeping w cells sizes n j kept s) q inv in
      record { room = all.room; kept = all.long; rows = all.done; records = all.recorded }
