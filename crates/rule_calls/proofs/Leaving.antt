-- The two tables of a state after the learned clauses were written and the count of the clauses was set.
use Prim.Native.Nat.{ℕ, ◌+◌, ◌*◌, ◌≤◌, ◌<◌}
use native.Mathlib.Omega.{arith}
use mathlib.Core.Path.{◌≡◌, refl, sym, ap, subst, ◌∙◌}
use mathlib.Core.List.{List}
use borrow.Rule.Slice.PartMut.{put_mid, same_len_mid}
use lib.IntN.{ℤ}
use lib.ListN.{length, get_or, set, length-set}
use lib.Seq.{get_or-set_other, drop-set-lt}
use Rattle.qbf.specs.Formula.{Limits, paper}
use Rattle.state.specs.State.{State}
use Rattle.state.specs.Reading.{own, state_of}
use Rattle.state_parts.specs.Parts.{part, limits_of, by_number, clause_count, cube_sizes, recorded, numbers_at, levels_at, kinds_at, clause_sizes_at, learned_clause_sizes_at, learned_cube_sizes_at, clause_cells, learned_cells, cell_count, literal_count, parts_under, Whole}
use Rattle.state_parts.proofs.Cutting.{part_set, part_set_before, part_set_after, put_behind}
use Rattle.state_parts.proofs.Written.{same_state, whole_exact, learned_clauses_put, learned_clause_sizes_put, limits_put}
use Rattle.withdrawal.specs.Learned.{Room, Kept}
use Rattle.rule_calls.specs.StaysAt.{BehindAt}
use Rattle.rule_calls.specs.WithdrawnAt.{Learned, with_learned, WithdrawnAt, WithdrawnWithin}

-- ---- the count of the clauses, set to n
module _ (L : Limits) (cells : List ℕ) (literals : List ℤ) (n : ℕ) where
  abbrev counted : List ℕ
  counted = set cells (clause_sizes_at L + 0) n

  early : (from len : ℕ) → from + len ≤ clause_sizes_at L → part from len counted ≡ part from len cells
  early from len h = part_set_after from len cells (clause_sizes_at L + 0) n (omega (arith, h))

  late : (from len : ℕ) → clause_sizes_at L + 0 < from → part from len counted ≡ part from len cells
  late from len h = part_set_before from len cells (clause_sizes_at L + 0) n h

  count_set : parts_under L counted literals ≡ with_learned (parts_under L cells literals) n (parts_under L cells literals).learned_clauses (parts_under L cells literals).learned_clause_sizes
  count_set =
      same_state
      (early numbers_at (by_number L) (omega arith))
      (early (levels_at L) (by_number L) (omega arith))
      (early (kinds_at L) (by_number L) (omega arith))
      refl
      (part_set (clause_sizes_at L) (clause_count L) cells 0 n (omega arith))
      refl
      (late (learned_clause_sizes_at L) (recorded L) (omega arith))
      refl
      (late (learned_cube_sizes_at L) (cube_sizes L) (omega arith))

-- the limits stand before it
count_limits : (cells : List ℕ) (k n : ℕ) → numbers_at ≤ k → limits_of (set cells k n) ≡ limits_of cells
count_limits cells k n h =
    ap (λ (i : ℕ). own i (get_or (set cells k n) 1 0)) (get_or-set_other cells k 0 n 0 (λ e. omega (arith, e, h)))
    ∙ ap (own (get_or cells 0 0)) (get_or-set_other cells k 1 n 0 (λ e. omega (arith, e, h)))

-- ---- the learned clauses, and then the count
module _ (L : Limits) (cells : List ℕ) (literals : List ℤ) (w : Whole L cells literals) (n : ℕ) (same : L.constraints ≡ paper.constraints) where
  abbrev x : State
  x = parts_under L cells literals

  module _ (rows : List ℤ) (sizes : List ℕ) (a : Kept L.numbers x.learned_clauses x.learned_clause_sizes n rows sizes) where
    abbrev literals' : List ℤ
    literals' = put_mid (clause_cells L) (learned_cells L) literals rows

    abbrev cells' : List ℕ
    cells' = put_mid (learned_clause_sizes_at L) (recorded L) cells sizes

    rows_long : length rows ≡ learned_cells L
    rows_long = a.room.table.room ∙ ap (λ (k : ℕ). k * L.numbers) (sym same)

    sizes_long : length sizes ≡ recorded L
    sizes_long = a.kept ∙ (whole_exact L cells literals w).learned_clause_sizes_room

    literals_long : length literals' ≡ length literals
    literals_long = same_len_mid (clause_cells L) (learned_cells L) literals rows (rows_long ∙ sym (whole_exact L cells literals w).learned_clauses_room)

    cells_long : length cells' ≡ length cells
    cells_long = same_len_mid (learned_clause_sizes_at L) (recorded L) cells sizes a.kept

    rows_whole : Whole L cells literals'
    rows_whole = record { cells_room = w.cells_room; literals_room = omega (arith, w.literals_room, literals_long) }

    -- the parts with both written
    parts_written : parts_under L cells' literals' ≡ state_of x.numbers x.levels x.kinds x.clauses x.clause_sizes rows sizes x.learned_cubes x.learned_cube_sizes
    parts_written =
        learned_clause_sizes_put L cells literals' rows_whole sizes sizes_long
        ∙ ap (λ (z : State). state_of z.numbers z.levels z.kinds z.clauses z.clause_sizes z.learned_clauses sizes z.learned_cubes z.learned_cube_sizes) (learned_clauses_put L cells literals w rows rows_long)

    parts_after : parts_under L (set cells' (clause_sizes_at L + 0) n) literals' ≡ with_learned x n rows sizes
    parts_after = count_set L cells' literals' n ∙ ap (λ (z : State). with_learned z n z.learned_clauses z.learned_clause_sizes) parts_written

    -- what lies behind the parts lies behind both, and behind the count
    behind_kept : BehindAt L cells literals (set cells' (clause_sizes_at L + 0) n) literals'
    behind_kept =
        record {
          cells_behind =
              drop-set-lt (cell_count L) cells' (clause_sizes_at L + 0) n (omega arith)
              ∙ put_behind (cell_count L) (learned_clause_sizes_at L) (recorded L) cells sizes (omega arith) (omega (arith, w.cells_room)) sizes_long;
          literals_behind = put_behind (literal_count L) (clause_cells L) (learned_cells L) literals rows (omega arith) (omega (arith, w.literals_room)) rows_long;
        }

    left : WithdrawnAt L cells literals n (set cells' (clause_sizes_at L + 0) n) literals'
    left =
        record {
          clauses = rows;
          sizes = sizes;
          kept = a;
          parts = parts_after;
          limits = count_limits cells' (clause_sizes_at L + 0) n (omega arith) ∙ limits_put cells (learned_clause_sizes_at L) (recorded L) sizes (omega arith) (omega (arith, w.cells_room));
          whole =
              record {
                cells_room = omega (arith, w.cells_room, cells_long, length-set cells' (clause_sizes_at L + 0) n);
                literals_room = omega (arith, w.literals_room, literals_long);
              };
        }

    within : WithdrawnWithin L cells literals n (set cells' (clause_sizes_at L + 0) n) literals'
    within = record { at = left; behind = behind_kept }

  -- where the parts stand, as they were computed: the sizes' i from a on, the rows' j from b on, and the count at k
  abbrev Left : ℕ → ℕ → ℕ → ℕ → ℕ → Type 0
  Left a i b j k =
      (rows : List ℤ) (sizes : List ℕ) → Kept L.numbers (part b j literals) (part a i cells) n rows sizes
      → WithdrawnWithin L cells literals n (set (put_mid a i cells sizes) k n) (put_mid b j literals rows)

  pub left_at : {a i b j k : ℕ} → a ≡ learned_clause_sizes_at L → i ≡ recorded L → b ≡ clause_cells L → j ≡ learned_cells L → k ≡ clause_sizes_at L → Left a i b j k
  left_at {a} {i} {b} {j} {k} p q r s t =
      subst (λ (m : ℕ). Left m i b j k) (sym p)
      (subst (λ (m : ℕ). Left (learned_clause_sizes_at L) m b j k) (sym q)
      (subst (λ (m : ℕ). Left (learned_clause_sizes_at L) (recorded L) m j k) (sym r)
      (subst (λ (m : ℕ). Left (learned_clause_sizes_at L) (recorded L) (clause_cells L) m k) (sym s)
      (subst (λ (m : ℕ). Left (learned_clause_sizes_at L) (recorded L) (clause_cells L) (learned_cells L) m) (plain ∙ sym t) within))))
    where
      plain : clause_sizes_at L + 0 ≡ clause_sizes_at L
      plain = omega arith

-- the room that a caller shows, of the same parts
module _ (L : Limits) (cells : List ℕ) (literals : List ℤ) (learned : Learned L cells literals) where
  pub learned_at : {a i b j : ℕ} → a ≡ learned_clause_sizes_at L → i ≡ recorded L → b ≡ clause_cells L → j ≡ learned_cells L → Room L.numbers (part b j literals) (part a i cells)
  learned_at {a} {i} {b} {j} p q r s =
      subst (λ (m : ℕ). Room L.numbers (part b j literals) (part m i cells)) (sym p)
      (subst (λ (m : ℕ). Room L.numbers (part b j literals) (part (learned_clause_sizes_at L) m cells)) (sym q)
      (subst (λ (m : ℕ). Room L.numbers (part m j literals) (part (learned_clause_sizes_at L) (recorded L) cells)) (sym r)
      (subst (λ (m : ℕ). Room L.numbers (part (clause_cells L) m literals) (part (learned_clause_sizes_at L) (recorded L) cells)) (sym s) learned.room)))
