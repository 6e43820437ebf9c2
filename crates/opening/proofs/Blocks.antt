-- Variables are declared in the cells of a state without a clause and with nothing stored: it reads as its formula with them.
use Prim.Native.Nat.{ℕ, ◌+◌, ◌-◌, ◌≤◌}
use native.Mathlib.Omega.{arith}
use mathlib.Core.Path.{◌≡◌, refl, sym, ap, ◌∙◌}
use mathlib.Core.Bool.{true, false, ◌&&◌}
use mathlib.Core.List.{List, []}
use mathlib.Core.Option.{some}
use lib.IntN.{ℤ}
use lib.ListN.{get_or, take, drop}
use lib.Seq.{drop-drop}
use Rattle.qbf.specs.Formula.{Limits, Formula, all}
use Rattle.qbf.specs.Learning.{Store, empty_store}
use Rattle.qbf.specs.Calls.{clause_ok, constraint_ok, free_is_ok}
use Rattle.qbf.specs.Runs.{fresh}
use Rattle.theory.proofs.Basics.{and_both}
use Rattle.state.specs.State.{State}
use Rattle.state.specs.Reading.{state_of, at_most, rows_fit, formula_under, store_under, roomy, valid_under}
use Rattle.state.proofs.Rooms.{room_is}
use Rattle.state.proofs.SoundPrefix.{sound_under}
use Rattle.state_parts.specs.Parts.{part, limits_of, clause_count, cube_sizes, recorded, clause_sizes_at, learned_clause_sizes_at, learned_cube_sizes_at, parts_under, state_at, read_at, valid_at, Whole}
use Rattle.state_parts.proofs.Written.{same_state, whole_exact, exact_roomy}
use Rattle.state_parts.proofs.Accepted.{AcceptedState, valid_at_lem, valid_whole, valid_state}
use Rattle.declaring.specs.Declaring.{numbers_in, levels_in, kinds_in, prefix_at, SoundAt, Beside}
use Rattle.opening.specs.Standing.{formula_at, Standing}
use Rattle.opening.proofs.Laws.{standing_valid, nothing_stored, fresh_read_at}

-- a part behind the tables by place
part_kept : (L : Limits) {cells cells' : List ℕ} → Beside L cells cells' → (from len : ℕ) → clause_sizes_at L ≤ from → part from len cells' ≡ part from len cells
part_kept L {cells} {cells'} b from len h =
    ap (take len)
    (ap (λ (j : ℕ). drop j cells') q
    ∙ sym (drop-drop (from - clause_sizes_at L) (clause_sizes_at L) cells')
    ∙ ap (drop (from - clause_sizes_at L)) b.behind
    ∙ drop-drop (from - clause_sizes_at L) (clause_sizes_at L) cells
    ∙ ap (λ (j : ℕ). drop j cells) (sym q))
  where
    q : from ≡ clause_sizes_at L + (from - clause_sizes_at L)
    q = omega (arith, h)

module _ {L : Limits} {stage : ℕ} {cells : List ℕ} {literals : List ℤ} (s : Standing L stage cells literals) (no_clauses : (formula_at cells literals).clauses ≡ []) where
  abbrev M : Limits
  M = limits_of cells

  abbrev x : State
  x = state_at cells literals

  v : valid_at cells literals ≡ true
  v = standing_valid cells literals s

  a : AcceptedState M x
  a = valid_state cells literals v

  module _ {cells' : List ℕ} (b : Beside M cells cells') (sound : SoundAt M cells') (few : free_is_ok (prefix_at M cells') ≡ true) where
    abbrev y : State
    y =
        state_of (numbers_in M cells') (levels_in M cells') (kinds_in M cells') x.clauses x.clause_sizes x.learned_clauses x.learned_clause_sizes x.learned_cubes
        x.learned_cube_sizes

    parts_are : parts_under M cells' literals ≡ y
    parts_are =
        same_state refl refl refl refl
        (part_kept M b (clause_sizes_at M) (clause_count M) (omega arith))
        refl
        (part_kept M b (learned_clause_sizes_at M) (recorded M) (omega arith))
        refl
        (part_kept M b (learned_cube_sizes_at M) (cube_sizes M) (omega arith))

    grown_valid : valid_under M y ≡ true
    grown_valid =
        sound_under (get_or cells 0 0) (get_or cells 1 0) y (s.reached.facts).limits_ok few sound
        (and_both (rows_fit M.literals M.clauses x.clause_sizes) (all (clause_ok M (prefix_at M cells')) (formula_at cells literals).clauses) a.facts.clauses_fit (ap (all (clause_ok M (prefix_at M cells'))) no_clauses))
        (and_both (rows_fit M.numbers M.constraints x.learned_clause_sizes) (all (constraint_ok (prefix_at M cells') false) (store_under M x).clauses) a.facts.learned_clauses_fit (ap (λ (st : Store). all (constraint_ok (prefix_at M cells') false) st.clauses) (nothing_stored cells literals s)))
        (and_both (rows_fit M.numbers M.constraints x.learned_cube_sizes) (all (constraint_ok (prefix_at M cells') true) (store_under M x).cubes) a.facts.learned_cubes_fit (ap (λ (st : Store). all (constraint_ok (prefix_at M cells') true) st.cubes) (nothing_stored cells literals s)))
        (ap (λ (st : Store). at_most (get_or x.clause_sizes 0 0) st.records) (nothing_stored cells literals s))

    whole : Whole M cells' literals
    whole = let w = valid_whole cells literals v in record { cells_room = omega (arith, w.cells_room, b.long); literals_room = w.literals_room }

    under_own : state_at cells' literals ≡ y
    under_own = ap (λ (N : Limits). parts_under N cells' literals) b.limits ∙ parts_are

    now_valid : valid_at cells' literals ≡ true
    now_valid =
        valid_at_lem cells' literals
        ∙ ap (λ (N : Limits). roomy N (parts_under N cells' literals) && valid_under N (parts_under N cells' literals)) b.limits
        ∙ and_both (roomy M (parts_under M cells' literals)) (valid_under M (parts_under M cells' literals))
        (room_is M (parts_under M cells' literals) (exact_roomy M (parts_under M cells' literals) (whole_exact M cells' literals whole)))
        (ap (valid_under M) parts_are ∙ grown_valid)

    stores_nothing : store_under (limits_of cells') (state_at cells' literals) ≡ empty_store
    stores_nothing = (λ i. store_under (b.limits i) (under_own i)) ∙ nothing_stored cells literals s

    pub grown_read : read_at cells' literals ≡ some (fresh (record { limits = M; prefix = prefix_at M cells'; clauses = (formula_at cells literals).clauses }))
    grown_read = fresh_read_at cells' literals now_valid stores_nothing ∙ ap (λ (c : Formula). some (fresh c)) (λ i. formula_under (b.limits i) (under_own i))
