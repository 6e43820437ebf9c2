-- "Forget empties the store": two counts are set to 0.
use Prim.Native.Nat.{ℕ, ◌+◌, ◌≤◌, ◌<◌, zero-le}
use native.Mathlib.Omega.{arith}
use mathlib.Core.Path.{◌≡◌, refl, sym, ap, subst, ◌∙◌}
use mathlib.Core.Bool.{Bool, true, ◌&&◌}
use mathlib.Core.List.{List, []}
use mathlib.Core.Option.{some}
use lib.IntN.{ℤ}
use lib.ListN.{get_or, set, length-set}
use lib.Seq.{get_or-set_same, get_or-set_other, drop-set-lt}
use lib.Dec.{leb}
use borrow.Author.Tests.{le-leb}
use Rattle.std.specs.Prelude.{Ok}
use Rattle.qbf.specs.Formula.{Limits}
use Rattle.qbf.specs.Calls.{forget}
use Rattle.qbf.specs.Learning.{empty_store}
use Rattle.theory.proofs.Basics.{and_both}
use Rattle.tables.specs.Views.{rows, rows_of}
use Rattle.tables.proofs.Laws.{rows_zero}
use Rattle.state.specs.State.{State}
use Rattle.state.specs.Reading.{own, state_of, at_most, listing, entry_at, record_at, records_of, rows_fit, prefix_fits, fits_under, formula_under, state_under}
use Rattle.state_parts.specs.Parts.{part, limits_of, by_number, clause_count, cube_sizes, recorded, numbers_at, levels_at, kinds_at, clause_sizes_at, learned_clause_sizes_at, learned_cube_sizes_at, cell_count, parts_under, state_at, read_at, valid_at, Whole}
use Rattle.state_parts.proofs.Cutting.{part_set, part_set_before, part_set_after}
use Rattle.state_parts.proofs.Written.{same_state}
use Rattle.state_parts.proofs.Accepted.{valid_whole, valid_state}
use Rattle.rule_calls.specs.ServesAt.{ServesAt, change_said}
use Rattle.rule_calls.specs.StaysAt.{forget_writes, StaysAt}
use Rattle.rule_calls.proofs.Calls.{served}
use Rattle.rule_calls.proofs.Reading.{parts_read}
use Rattle.rule_calls.proofs.Stays.{left_stays, count_stays}

-- ---- a table whose count is 0
module _ (w cap : ℕ) (s : List ℕ) (empty : get_or s 0 0 ≡ 0) where
  pub none_fit : rows_fit w cap s ≡ true
  none_fit = ap (λ (n : ℕ). leb n cap && at_most w (listing (entry_at s) 0 n)) empty ∙ ap (λ (b : Bool). b && true) (le-leb 0 cap zero-le)

  pub none_stand : (f : List ℤ) → rows_of w f s ≡ []
  none_stand f = ap (rows w f s) empty ∙ rows_zero w f s

  none_recorded : records_of s ≡ []
  none_recorded = ap (listing (record_at s) 0) empty

-- ---- the two stores
module _ (cells : List ℕ) (literals : List ℤ) (v : valid_at cells literals ≡ true) where
  abbrev L : Limits
  L = limits_of cells

  abbrev x : State
  x = state_at cells literals

  abbrev t₁ : List ℕ
  t₁ = set cells (learned_clause_sizes_at L + 0) 0

  abbrev t₂ : List ℕ
  t₂ = set t₁ (learned_cube_sizes_at L + 0) 0

  w : Whole L cells literals
  w = valid_whole cells literals v

  -- a part before both
  early : (from len : ℕ) → from + len ≤ learned_clause_sizes_at L → part from len t₂ ≡ part from len cells
  early from len h =
      part_set_after from len t₁ (learned_cube_sizes_at L + 0) 0 (omega (arith, h))
      ∙ part_set_after from len cells (learned_clause_sizes_at L + 0) 0 (omega (arith, h))

  clause_sizes : part (learned_clause_sizes_at L) (recorded L) t₂ ≡ set x.learned_clause_sizes 0 0
  clause_sizes =
      part_set_after (learned_clause_sizes_at L) (recorded L) t₁ (learned_cube_sizes_at L + 0) 0 (omega arith)
      ∙ part_set (learned_clause_sizes_at L) (recorded L) cells 0 0 (omega arith)

  cube_sizes_lem : part (learned_cube_sizes_at L) (cube_sizes L) t₂ ≡ set x.learned_cube_sizes 0 0
  cube_sizes_lem =
      part_set (learned_cube_sizes_at L) (cube_sizes L) t₁ 0 0 (omega arith)
      ∙ ap (λ (t : List ℕ). set t 0 0) (part_set_before (learned_cube_sizes_at L) (cube_sizes L) cells (learned_clause_sizes_at L + 0) 0 (omega arith))

  abbrev x' : State
  x' =
      state_of x.numbers x.levels x.kinds x.clauses x.clause_sizes x.learned_clauses (set x.learned_clause_sizes 0 0) x.learned_cubes
      (set x.learned_cube_sizes 0 0)

  parts_are : parts_under L t₂ literals ≡ x'
  parts_are =
      same_state
      (early numbers_at (by_number L) (omega arith))
      (early (levels_at L) (by_number L) (omega arith))
      (early (kinds_at L) (by_number L) (omega arith))
      refl
      (early (clause_sizes_at L) (clause_count L) (omega arith))
      refl
      clause_sizes
      refl
      cube_sizes_lem

  limit_kept : (i : ℕ) → i < numbers_at → get_or t₂ i 0 ≡ get_or cells i 0
  limit_kept i h =
      get_or-set_other t₁ (learned_cube_sizes_at L + 0) i 0 0 (λ e. omega (arith, e, h)) ∙ get_or-set_other cells (learned_clause_sizes_at L + 0) i 0 0 (λ e. omega (arith, e, h))

  limits_kept : limits_of t₂ ≡ L
  limits_kept = ap (λ (i : ℕ). own i (get_or t₂ 1 0)) (limit_kept 0 (omega arith)) ∙ ap (own (get_or cells 0 0)) (limit_kept 1 (omega arith))

  abbrev s : List ℕ
  s = set x.learned_clause_sizes 0 0

  abbrev t : List ℕ
  t = set x.learned_cube_sizes 0 0

  no_clauses : get_or s 0 0 ≡ 0
  no_clauses = get_or-set_same x.learned_clause_sizes 0 0 0 (omega (arith, (valid_state cells literals v).exact.learned_clause_sizes_room))

  no_cubes : get_or t 0 0 ≡ 0
  no_cubes = get_or-set_same x.learned_cube_sizes 0 0 0 (omega (arith, (valid_state cells literals v).exact.learned_cube_sizes_room))

  fits : fits_under L x' ≡ true
  fits =
      and_both (p && a && rows_fit L.numbers L.constraints s) (rows_fit L.numbers L.constraints t)
      (and_both (p && a) (rows_fit L.numbers L.constraints s)
      (and_both p a (valid_state cells literals v).facts.prefix_fits_lem (valid_state cells literals v).facts.clauses_fit)
      (none_fit L.numbers L.constraints s no_clauses))
      (none_fit L.numbers L.constraints t no_cubes)
    where
      p : Bool
      p = prefix_fits L x.numbers x.levels x.kinds

      a : Bool
      a = rows_fit L.literals L.clauses x.clause_sizes

  reads : state_under L x' ≡ record { formula = formula_under L x; store = empty_store }
  reads = λ i. record {
    formula = formula_under L x;
    store = record {
      clauses = none_stand L.numbers L.constraints s no_clauses x.learned_clauses i;
      records = none_recorded L.numbers L.constraints s no_clauses i;
      cubes = none_stand L.numbers L.constraints t no_cubes x.learned_cubes i;
    };
  }

  whole : Whole L t₂ literals
  whole =
      record {
        cells_room = omega (arith, w.cells_room, length-set t₁ (learned_cube_sizes_at L + 0) 0, length-set cells (learned_clause_sizes_at L + 0) 0);
        literals_room = w.literals_room;
      }

  read_after : read_at t₂ literals ≡ some (record { formula = formula_under L x; store = empty_store })
  read_after = parts_read L t₂ literals limits_kept whole parts_are fits ∙ ap some reads

  forgotten : ServesAt cells literals forget (change_said (Ok tt)) t₂ literals
  forgotten = served cells literals forget v t₂ literals read_after refl

  -- nothing but the two counts is written
  kept : StaysAt forget_writes cells literals t₂ literals
  kept =
      left_stays forget_writes limits_kept parts_are
      (record {
        numbers = refl;
        levels = refl;
        kinds = refl;
        clauses = refl;
        clause_sizes = refl;
        learned_clauses = refl;
        learned_clause_sizes = count_stays x.learned_clause_sizes 0;
        learned_cubes = refl;
        learned_cube_sizes = count_stays x.learned_cube_sizes 0;
      })
      (record {
        cells_behind = drop-set-lt (cell_count L) t₁ (learned_cube_sizes_at L + 0) 0 (omega arith) ∙ drop-set-lt (cell_count L) cells (learned_clause_sizes_at L + 0) 0 (omega arith);
        literals_behind = refl;
      })

  -- where the counts stand, as they were computed
  at_counts : (P : List ℕ → Type 0) → {a b : ℕ} → a ≡ learned_clause_sizes_at L → b ≡ learned_cube_sizes_at L → P t₂ → P (set (set cells a 0) b 0)
  at_counts P {a} {b} e f h =
      subst (λ (k : ℕ). P (set (set cells a 0) k 0)) (plain (learned_cube_sizes_at L) ∙ sym f)
      (subst (λ (k : ℕ). P (set (set cells k 0) (learned_cube_sizes_at L + 0) 0)) (plain (learned_clause_sizes_at L) ∙ sym e) h)
    where
      plain : (n : ℕ) → n + 0 ≡ n
      plain n = omega arith

  pub forgotten_at : {a b : ℕ} → a ≡ learned_clause_sizes_at L → b ≡ learned_cube_sizes_at L → ServesAt cells literals forget (change_said (Ok tt)) (set (set cells a 0) b 0) literals
  forgotten_at e f = at_counts (λ (t : List ℕ). ServesAt cells literals forget (change_said (Ok tt)) t literals) e f forgotten

  pub forgotten_stays : {a b : ℕ} → a ≡ learned_clause_sizes_at L → b ≡ learned_cube_sizes_at L → StaysAt forget_writes cells literals (set (set cells a 0) b 0) literals
  forgotten_stays e f = at_counts (λ (t : List ℕ). StaysAt forget_writes cells literals t literals) e f kept
