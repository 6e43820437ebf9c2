-- The two tables of a state after the clauses of added rules were written and the count of the cubes was set to 0.
use Prim.Native.Nat.{ℕ, ◌+◌, ◌*◌, ◌≤◌}
use native.Mathlib.Omega.{arith}
use mathlib.Core.Path.{◌≡◌, refl, sym, ap, subst, ◌∙◌}
use mathlib.Core.List.{List}
use borrow.Rule.Slice.PartMut.{put_mid, same_len_mid}
use lib.IntN.{ℤ}
use lib.ListN.{length, get_or, set, length-set}
use lib.Seq.{get_or-set_other, drop-set-lt}
use Rattle.qbf.specs.Formula.{Limits, paper, Literal}
use Rattle.tables.specs.Views.{Table}
use Rattle.rule_rows.specs.Accepted.{Added}
use Rattle.state.specs.State.{State}
use Rattle.state.specs.Reading.{own, state_of}
use Rattle.state_parts.specs.Parts.{part, limits_of, by_number, clause_count, cube_sizes, recorded, numbers_at, levels_at, kinds_at, clause_sizes_at, learned_clause_sizes_at, learned_cube_sizes_at, clause_cells, cell_count, literal_count, parts_under, Whole}
use Rattle.state_parts.proofs.Cutting.{part_set, part_set_after, put_behind}
use Rattle.state_parts.proofs.Written.{same_state, whole_exact, clauses_put, clause_sizes_put, limits_put}
use Rattle.rule_calls.specs.StaysAt.{BehindAt}
use Rattle.rule_calls.specs.AddedAt.{Room, with_clauses, AddedAt, AddedWithin}

-- ---- the count of the cubes, set to 0
module _ (L : Limits) (cells : List ℕ) (literals : List ℤ) where
  abbrev without : List ℕ
  without = set cells (learned_cube_sizes_at L + 0) 0

  early : (from len : ℕ) → from + len ≤ learned_cube_sizes_at L → part from len without ≡ part from len cells
  early from len h = part_set_after from len cells (learned_cube_sizes_at L + 0) 0 (omega (arith, h))

  cubes_cleared : parts_under L without literals ≡ with_clauses (parts_under L cells literals) (parts_under L cells literals).clauses (parts_under L cells literals).clause_sizes
  cubes_cleared =
      same_state
      (early numbers_at (by_number L) (omega arith))
      (early (levels_at L) (by_number L) (omega arith))
      (early (kinds_at L) (by_number L) (omega arith))
      refl
      (early (clause_sizes_at L) (clause_count L) (omega arith))
      refl
      (early (learned_clause_sizes_at L) (recorded L) (omega arith))
      refl
      (part_set (learned_cube_sizes_at L) (cube_sizes L) cells 0 0 (omega arith))

-- the limits stand before it
clear_limits : (cells : List ℕ) (k : ℕ) → numbers_at ≤ k → limits_of (set cells k 0) ≡ limits_of cells
clear_limits cells k h =
    ap (λ (i : ℕ). own i (get_or (set cells k 0) 1 0)) (get_or-set_other cells k 0 0 0 (λ e. omega (arith, e, h)))
    ∙ ap (own (get_or cells 0 0)) (get_or-set_other cells k 1 0 0 (λ e. omega (arith, e, h)))

-- ---- the clauses, and then the count
module _ (L : Limits) (cells : List ℕ) (literals : List ℤ) (w : Whole L cells literals) (cs : List (List Literal)) (places : List ℕ) where
  abbrev x : State
  x = parts_under L cells literals

  module _ (four : L.literals ≡ paper.literals) (rows : List ℤ) (sizes : List ℕ) (a : Added L.clauses x.clauses x.clause_sizes cs places rows sizes) where
    abbrev literals' : List ℤ
    literals' = put_mid 0 (clause_cells L) literals rows

    abbrev cells' : List ℕ
    cells' = put_mid (clause_sizes_at L) (clause_count L) cells sizes

    rows_long : length rows ≡ clause_cells L
    rows_long = a.table.room ∙ ap (λ (k : ℕ). L.clauses * k) (sym four)

    sizes_long : length sizes ≡ clause_count L
    sizes_long = a.kept ∙ (whole_exact L cells literals w).clause_sizes_room

    literals_long : length literals' ≡ length literals
    literals_long = same_len_mid 0 (clause_cells L) literals rows (rows_long ∙ sym (whole_exact L cells literals w).clauses_room)

    cells_long : length cells' ≡ length cells
    cells_long = same_len_mid (clause_sizes_at L) (clause_count L) cells sizes a.kept

    rows_whole : Whole L cells literals'
    rows_whole = record { cells_room = w.cells_room; literals_room = omega (arith, w.literals_room, literals_long) }

    -- the parts with both written
    parts_written : parts_under L cells' literals' ≡ state_of x.numbers x.levels x.kinds rows sizes x.learned_clauses x.learned_clause_sizes x.learned_cubes x.learned_cube_sizes
    parts_written =
        clause_sizes_put L cells literals' rows_whole sizes sizes_long
        ∙ ap (λ (z : State). state_of z.numbers z.levels z.kinds z.clauses sizes z.learned_clauses z.learned_clause_sizes z.learned_cubes z.learned_cube_sizes) (clauses_put L cells literals w rows rows_long)

    parts_after : parts_under L (set cells' (learned_cube_sizes_at L + 0) 0) literals' ≡ with_clauses x rows sizes
    parts_after = cubes_cleared L cells' literals' ∙ ap (λ (z : State). with_clauses z z.clauses z.clause_sizes) parts_written

    -- what lies behind the parts lies behind both, and behind the count
    behind_kept : BehindAt L cells literals (set cells' (learned_cube_sizes_at L + 0) 0) literals'
    behind_kept =
        record {
          cells_behind =
              drop-set-lt (cell_count L) cells' (learned_cube_sizes_at L + 0) 0 (omega arith)
              ∙ put_behind (cell_count L) (clause_sizes_at L) (clause_count L) cells sizes (omega arith) (omega (arith, w.cells_room)) sizes_long;
          literals_behind = put_behind (literal_count L) 0 (clause_cells L) literals rows (omega arith) (omega (arith, w.literals_room)) rows_long;
        }

    written : AddedAt L cells literals cs places (set cells' (learned_cube_sizes_at L + 0) 0) literals'
    written =
        record {
          clauses = rows;
          sizes = sizes;
          added = a;
          parts = parts_after;
          limits = clear_limits cells' (learned_cube_sizes_at L + 0) (omega arith) ∙ limits_put cells (clause_sizes_at L) (clause_count L) sizes (omega arith) (omega (arith, w.cells_room));
          whole =
              record {
                cells_room = omega (arith, w.cells_room, cells_long, length-set cells' (learned_cube_sizes_at L + 0) 0);
                literals_room = omega (arith, w.literals_room, literals_long);
              };
        }

    within : AddedWithin L cells literals cs places (set cells' (learned_cube_sizes_at L + 0) 0) literals'
    within = record { at = written; behind = behind_kept }

  -- where the parts stand, as they were computed: the rows' first b cells, the sizes' n from a on, and the cubes' count at k
  abbrev Written : ℕ → ℕ → ℕ → ℕ → Type 0
  Written a n b k =
      (rows : List ℤ) (sizes : List ℕ) → Added L.clauses (part 0 b literals) (part a n cells) cs places rows sizes
      → AddedWithin L cells literals cs places (set (put_mid a n cells sizes) k 0) (put_mid 0 b literals rows)

  pub written_at : L.literals ≡ paper.literals → {a n b k : ℕ} → a ≡ clause_sizes_at L → n ≡ clause_count L → b ≡ clause_cells L → k ≡ learned_cube_sizes_at L → Written a n b k
  written_at four {a} {n} {b} {k} p q r s =
      subst (λ (i : ℕ). Written i n b k) (sym p)
      (subst (λ (i : ℕ). Written (clause_sizes_at L) i b k) (sym q)
      (subst (λ (i : ℕ). Written (clause_sizes_at L) (clause_count L) i k) (sym r)
      (subst (λ (i : ℕ). Written (clause_sizes_at L) (clause_count L) (clause_cells L) i) (plain ∙ sym s) (within four))))
    where
      plain : learned_cube_sizes_at L + 0 ≡ learned_cube_sizes_at L
      plain = omega arith

-- the room that a caller shows, of the same parts
module _ (L : Limits) (m : ℕ) (cells : List ℕ) (literals : List ℤ) (room : Room L cells literals m) where
  abbrev Roomy : ℕ → ℕ → ℕ → Type 0
  Roomy a n b = Table L.literals L.clauses (part 0 b literals) (part a n cells) × (get_or (part a n cells) 0 0 + m ≤ L.clauses)

  pub room_at : {a n b : ℕ} → a ≡ clause_sizes_at L → n ≡ clause_count L → b ≡ clause_cells L → Roomy a n b
  room_at {a} {n} {b} p q r =
      subst (λ (i : ℕ). Roomy i n b) (sym p)
      (subst (λ (i : ℕ). Roomy (clause_sizes_at L) i b) (sym q)
      (subst (λ (i : ℕ). Roomy (clause_sizes_at L) (clause_count L) i) (sym r) (room.table, room.free)))
