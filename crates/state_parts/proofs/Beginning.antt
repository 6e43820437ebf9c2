-- The state that opening starts from is empty and valid under its limits.
use Prim.Native.Nat.{ℕ, ◌+◌, ◌≤◌, ◌<◌, min, zero-le}
use native.Mathlib.Omega.{arith}
use mathlib.Core.Path.{◌≡◌, refl, sym, ap, subst, ◌∙◌}
use mathlib.Core.Logic.{◌⊎◌, inl, inr}
use mathlib.Core.Bool.{Bool, true, false, ◌&&◌}
use mathlib.Core.List.{List, []}
use mathlib.Core.Option.{some}
use lib.Dec.{leb, eqb}
use lib.IntN.{ℤ}
use lib.ListN.{length, get_or, set, length-set, get_or-eq_default}
use lib.Seq.{get_or-set_same, get_or-set_other}
use borrow.Author.Tests.{le-leb, eqb-true, eqb-false}
use Rattle.qbf.specs.Formula.{Limits, paper, highest, capped, most_free, Prefix, all}
use Rattle.qbf.specs.Truth.{free_variables}
use Rattle.qbf.specs.Calls.{State as Read, limits_are_ok, clause_ok, constraint_ok}
use Rattle.theory.proofs.Basics.{dichotomy, and_both, le_or_lt}
use Rattle.theory.proofs.Widths.{capped_ok}
use Rattle.tables.specs.Views.{rows, rows_of}
use Rattle.tables.proofs.Laws.{rows_zero}
use Rattle.state.specs.State.{State}
use Rattle.state.specs.Reading.{listing, entry_at, at_most, variable_at, prefix_in, record_at, records_of, own, state_under, roomy, valid_under}
use Rattle.state.specs.Derived.{clauses_fine, constraints_fine}
use Rattle.state.proofs.Rooms.{room_is}
use Rattle.state.proofs.SoundPrefix.{none_sound, sound_under}
use Rattle.state_parts.specs.Parts.{part, limits_of, by_number, clause_count, cube_sizes, recorded, numbers_at, clause_sizes_at, learned_clause_sizes_at, learned_cube_sizes_at, parts_under, state_at, read_at, valid_at, Whole}
use Rattle.state_parts.specs.Initial.{empty_under, initial_cells, Initial}
use Rattle.state_parts.proofs.Cutting.{part_at}
use Rattle.state_parts.proofs.Written.{whole_exact, exact_roomy}
use Rattle.state_parts.proofs.Accepted.{valid_at_lem, valid_read, valid_whole}

-- ---- tables in which no row stands
module _ (most : ℕ) (D : Prefix) (flat : List ℤ) (sizes : List ℕ) (e : get_or sizes 0 0 ≡ 0) where
  no_rows : (w : ℕ) → rows_of w flat sizes ≡ []
  no_rows w = ap (rows w flat sizes) e ∙ rows_zero w flat sizes

  no_clauses : clauses_fine most D flat sizes ≡ true
  no_clauses =
      and_both (leb (get_or sizes 0 0) most && at_most paper.literals (listing (entry_at sizes) 0 (get_or sizes 0 0))) (all (clause_ok paper D) (rows_of paper.literals flat sizes))
      (ap (λ (c : ℕ). leb c most && at_most paper.literals (listing (entry_at sizes) 0 c)) e ∙ and_both (leb 0 most) true (le-leb 0 most zero-le) refl)
      (ap (all (clause_ok paper D)) (no_rows paper.literals))

  no_constraints : (cube : Bool) → constraints_fine most D cube flat sizes ≡ true
  no_constraints cube =
      and_both (leb (get_or sizes 0 0) paper.constraints && at_most most (listing (entry_at sizes) 0 (get_or sizes 0 0))) (all (constraint_ok D cube) (rows_of most flat sizes))
      (ap (λ (c : ℕ). leb c paper.constraints && at_most most (listing (entry_at sizes) 0 c)) e)
      (ap (all (constraint_ok D cube)) (no_rows most))

  no_records : records_of sizes ≡ []
  no_records = ap (listing (record_at sizes) 0) e

-- ---- a cell that is 0 stays so where zeros are written
zero_stays : (t : List ℕ) (i j : ℕ) → get_or t j 0 ≡ 0 → get_or (set t i 0) j 0 ≡ 0
zero_stays t i j e = by (dichotomy (eqb i j)) (le_or_lt (length t) j)
  where
    by : (eqb i j ≡ true) ⊎ (eqb i j ≡ false) → (length t ≤ j) ⊎ (j < length t) → get_or (set t i 0) j 0 ≡ 0
    by q (inl h) = get_or-eq_default (set t i 0) 0 (omega (arith, h, length-set t i 0))
    by (inl q) (inr h) = ap (λ (k : ℕ). get_or (set t k 0) j 0) (eqb-true i j q) ∙ get_or-set_same t j 0 0 h
    by (inr q) (inr h) = get_or-set_other t i j 0 0 (λ z. eqb-false i j q (sym z)) ∙ e

zero_here : (t : List ℕ) (i : ℕ) → get_or (set t i 0) i 0 ≡ 0
zero_here t i = by (le_or_lt (length t) i)
  where
    by : (length t ≤ i) ⊎ (i < length t) → get_or (set t i 0) i 0 ≡ 0
    by (inl h) = get_or-eq_default (set t i 0) 0 (omega (arith, h, length-set t i 0))
    by (inr h) = get_or-set_same t i 0 0 h

-- ---- the cells that were written
module _ (n m : ℕ) (cells : List ℕ) where
  abbrev L : Limits
  L = own n m

  abbrev c₂ : List ℕ
  c₂ = set (set cells 0 n) 1 m

  abbrev c₃ : List ℕ
  c₃ = set c₂ numbers_at 0

  abbrev c₄ : List ℕ
  c₄ = set c₃ (clause_sizes_at L) 0

  abbrev c₅ : List ℕ
  c₅ = set c₄ (learned_clause_sizes_at L) 0

  abbrev c₆ : List ℕ
  c₆ = set c₅ (learned_cube_sizes_at L) 0

  long : length c₆ ≡ length cells
  long =
      length-set c₅ (learned_cube_sizes_at L) 0
      ∙ length-set c₄ (learned_clause_sizes_at L) 0
      ∙ length-set c₃ (clause_sizes_at L) 0
      ∙ length-set c₂ numbers_at 0
      ∙ length-set (set cells 0 n) 1 m
      ∙ length-set cells 0 n

  -- cells before the parts are not written again
  before : (i : ℕ) → i < numbers_at → get_or c₆ i 0 ≡ get_or c₂ i 0
  before i h =
      get_or-set_other c₅ (learned_cube_sizes_at L) i 0 0 (λ e. omega (arith, e, h))
      ∙ get_or-set_other c₄ (learned_clause_sizes_at L) i 0 0 (λ e. omega (arith, e, h))
      ∙ get_or-set_other c₃ (clause_sizes_at L) i 0 0 (λ e. omega (arith, e, h))
      ∙ get_or-set_other c₂ numbers_at i 0 0 (λ e. omega (arith, e, h))

  module _ (h : numbers_at ≤ length cells) where
    first : get_or c₆ 0 0 ≡ n
    first = before 0 (omega arith) ∙ get_or-set_other (set cells 0 n) 1 0 m 0 (λ e. omega (arith, e)) ∙ get_or-set_same cells 0 n 0 (omega (arith, h))

    second : get_or c₆ 1 0 ≡ m
    second = before 1 (omega arith) ∙ get_or-set_same (set cells 0 n) 1 m 0 (omega (arith, length-set cells 0 n, h))

    limits : limits_of c₆ ≡ L
    limits = ap (λ (i : ℕ). own i (get_or c₆ 1 0)) first ∙ ap (own n) second

  -- the four counts
  abbrev count : ℕ → ℕ
  count at = get_or c₆ (at + 0) 0

  plain : (at : ℕ) → at + 0 ≡ at
  plain at = omega arith

  no_variable : count numbers_at ≡ 0
  no_variable = zero_stays c₅ (learned_cube_sizes_at L) numbers_at (zero_stays c₄ (learned_clause_sizes_at L) numbers_at (zero_stays c₃ (clause_sizes_at L) numbers_at (zero_here c₂ numbers_at)))

  no_clause : count (clause_sizes_at L) ≡ 0
  no_clause =
      ap (λ (i : ℕ). get_or c₆ i 0) (plain (clause_sizes_at L))
      ∙ zero_stays c₅ (learned_cube_sizes_at L) (clause_sizes_at L) (zero_stays c₄ (learned_clause_sizes_at L) (clause_sizes_at L) (zero_here c₃ (clause_sizes_at L)))

  no_learned_clause : count (learned_clause_sizes_at L) ≡ 0
  no_learned_clause = ap (λ (i : ℕ). get_or c₆ i 0) (plain (learned_clause_sizes_at L)) ∙ zero_stays c₅ (learned_cube_sizes_at L) (learned_clause_sizes_at L) (zero_here c₄ (learned_clause_sizes_at L))

  no_learned_cube : count (learned_cube_sizes_at L) ≡ 0
  no_learned_cube = ap (λ (i : ℕ). get_or c₆ i 0) (plain (learned_cube_sizes_at L)) ∙ zero_here c₅ (learned_cube_sizes_at L)

  module _ (low : limits_are_ok L ≡ true) (literals : List ℤ) where
    abbrev x : State
    x = parts_under L c₆ literals

    counted : (at len : ℕ) → 0 < len → count at ≡ 0 → get_or (part at len c₆) 0 0 ≡ 0
    counted at len h e = part_at at len c₆ 0 0 h ∙ e

    a : get_or x.numbers 0 0 ≡ 0
    a = counted numbers_at (by_number L) (omega arith) no_variable

    b : get_or x.clause_sizes 0 0 ≡ 0
    b = counted (clause_sizes_at L) (clause_count L) (omega arith) no_clause

    c : get_or x.learned_clause_sizes 0 0 ≡ 0
    c = counted (learned_clause_sizes_at L) (recorded L) (omega arith) no_learned_clause

    d : get_or x.learned_cube_sizes 0 0 ≡ 0
    d = counted (learned_cube_sizes_at L) (cube_sizes L) (omega arith) no_learned_cube

    empty_prefix : prefix_in x ≡ []
    empty_prefix = ap (listing (variable_at x.numbers x.levels x.kinds) 0) a

    valid_parts : valid_under L x ≡ true
    valid_parts =
        sound_under n m x low
        (ap (λ (D : Prefix). leb (free_variables D) most_free) empty_prefix)
        (none_sound L x.numbers x.levels x.kinds a)
        (no_clauses m (prefix_in x) x.clauses x.clause_sizes b)
        (no_constraints n (prefix_in x) x.learned_clauses x.learned_clause_sizes c false)
        (no_constraints n (prefix_in x) x.learned_cubes x.learned_cube_sizes d true)
        (ap (at_most (get_or x.clause_sizes 0 0)) (no_records n (prefix_in x) x.learned_clauses x.learned_clause_sizes c))

    read_parts : state_under L x ≡ empty_under L
    read_parts = λ i. record {
      formula = record { limits = L; prefix = empty_prefix i; clauses = no_rows m (prefix_in x) x.clauses x.clause_sizes b paper.literals i };
      store = record {
        clauses = no_rows n (prefix_in x) x.learned_clauses x.learned_clause_sizes c n i;
        records = no_records n (prefix_in x) x.learned_clauses x.learned_clause_sizes c i;
        cubes = no_rows n (prefix_in x) x.learned_cubes x.learned_cube_sizes d n i;
      };
    }

    module _ (w : Whole L cells literals) where
      room : numbers_at ≤ length cells
      room = omega (arith, w.cells_room)

      here : Whole L c₆ literals
      here = record { cells_room = omega (arith, w.cells_room, long); literals_room = w.literals_room }

      under_own : state_at c₆ literals ≡ x
      under_own = ap (λ (M : Limits). parts_under M c₆ literals) (limits room)

      initial_valid : valid_at c₆ literals ≡ true
      initial_valid =
          valid_at_lem c₆ literals
          ∙ ap (λ (M : Limits). roomy M (parts_under M c₆ literals) && valid_under M (parts_under M c₆ literals)) (limits room)
          ∙ and_both (roomy L x) (valid_under L x) (room_is L x (exact_roomy L x (whole_exact L c₆ literals here))) valid_parts

      initial_read : read_at c₆ literals ≡ some (empty_under L)
      initial_read =
          valid_read c₆ literals initial_valid
          ∙ ap (λ (M : Limits). some (state_under M (parts_under M c₆ literals))) (limits room)
          ∙ ap (λ (y : Read). some y) read_parts

    initial_short : (Whole L cells literals → ⊥) → valid_at c₆ literals ≡ false
    initial_short lack = by (dichotomy (valid_at c₆ literals))
      where
        back : Whole (limits_of c₆) c₆ literals → Whole L cells literals
        back w =
            let room : numbers_at ≤ length cells = omega (arith, w.cells_room, long) in
            let v : Whole L c₆ literals = subst (λ (M : Limits). Whole M c₆ literals) (limits room) w in
            record { cells_room = omega (arith, v.cells_room, long); literals_room = v.literals_room }

        by : (valid_at c₆ literals ≡ true) ⊎ (valid_at c₆ literals ≡ false) → valid_at c₆ literals ≡ false
        by (inl v) = absurd (lack (back (valid_whole c₆ literals v)))
        by (inr e) = e

-- ---- as it is written: the lesser limits, and six cells
initial_cells_lem : (a b : ℕ) (cells : List ℕ) → Initial (capped a b) cells (initial_cells (capped a b) cells)
initial_cells_lem a b cells =
    let n = min a highest.numbers in
    let m = min b highest.clauses in
    record {
      read = initial_read n m cells (capped_ok a b);
      valid = initial_valid n m cells (capped_ok a b);
      short = initial_short n m cells (capped_ok a b);
    }

pub initial_written : (a b : ℕ) (cells : List ℕ) {n m : ℕ} → n ≡ min a highest.numbers → m ≡ min b highest.clauses
    → {t₁ t₂ t₃ t₄ t₅ t₆ : List ℕ} → t₁ ≡ set cells 0 n → t₂ ≡ set t₁ 1 m → t₃ ≡ set t₂ numbers_at 0
    → {k₄ : ℕ} → k₄ ≡ clause_sizes_at (own n m) → t₄ ≡ set t₃ k₄ 0
    → {k₅ : ℕ} → k₅ ≡ learned_clause_sizes_at (own n m) → t₅ ≡ set t₄ k₅ 0
    → {k₆ : ℕ} → k₆ ≡ learned_cube_sizes_at (own n m) → t₆ ≡ set t₅ k₆ 0
    → Initial (capped a b) cells t₆
initial_written a b cells {n} {m} p q {t₁} {t₂} {t₃} {t₄} {t₅} {t₆} e₁ e₂ e₃ {k₄} h₄ e₄ {k₅} h₅ e₅ {k₆} h₆ e₆ =
    subst (Initial (capped a b) cells) (sym whole) (initial_cells_lem a b cells)
  where
    whole : t₆ ≡ initial_cells (capped a b) cells
    whole =
        e₆
        ∙ ap (λ (k : ℕ). set t₅ k 0) h₆
        ∙ ap (λ (t : List ℕ). set t (learned_cube_sizes_at (own n m)) 0) (e₅ ∙ ap (λ (k : ℕ). set t₄ k 0) h₅)
        ∙ ap (λ (t : List ℕ). set (set t (learned_clause_sizes_at (own n m)) 0) (learned_cube_sizes_at (own n m)) 0) (e₄ ∙ ap (λ (k : ℕ). set t₃ k 0) h₄)
        ∙ ap (λ (t : List ℕ). set (set (set t (clause_sizes_at (own n m)) 0) (learned_clause_sizes_at (own n m)) 0) (learned_cube_sizes_at (own n m)) 0) (e₃ ∙ ap (λ (t : List ℕ). set t numbers_at 0) (e₂ ∙ ap (λ (t : List ℕ). set t 1 m) e₁))
        ∙ ap (λ (i : ℕ). initial_cells (own i m) cells) p
        ∙ ap (λ (j : ℕ). initial_cells (own (min a highest.numbers) j) cells) q
