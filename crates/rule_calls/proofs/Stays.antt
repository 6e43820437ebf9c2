-- What a call leaves as it was: nothing is written, or what is left is known, and is written no further than the call may.
use Prim.Native.Nat.{ℕ}
use native.Mathlib.Omega.{arith}
use mathlib.Core.Path.{◌≡◌, refl, sym, ap, subst, ◌∙◌}
use mathlib.Core.List.{List}
use lib.IntN.{ℤ}
use lib.ListN.{get_or, set}
use lib.Seq.{drop-set-lt}
use Rattle.qbf.specs.Formula.{Limits, Literal}
use Rattle.state.specs.State.{State}
use Rattle.state.specs.Reading.{own}
use Rattle.state_parts.specs.Parts.{limits_of, parts_under, state_at}
use Rattle.rule_calls.specs.StaysAt.{Extent, nothing, count, all, Stays, Writes, rule_writes, withdraw_writes, StaysIn, BehindAt, StaysAt}
use Rattle.rule_calls.specs.AddedAt.{AddedWithin}
use Rattle.rule_calls.specs.WithdrawnAt.{WithdrawnWithin}

-- a part that is not written stays, however much of it may be written
stays : {A : Type 0} (e : Extent) (t : List A) → Stays e t t
stays nothing t = refl
stays count t = refl
stays all t = tt

-- a refused call, and any that writes nothing
module _ (w : Writes) (cells : List ℕ) (literals : List ℤ) where
  abbrev given : State
  given = state_at cells literals

  pub same_stays : StaysAt w cells literals cells literals
  same_stays =
      record {
        limits = refl;
        parts =
            record {
              numbers = refl;
              levels = refl;
              kinds = refl;
              clauses = stays w.clauses given.clauses;
              clause_sizes = stays w.clause_sizes given.clause_sizes;
              learned_clauses = stays w.learned_clauses given.learned_clauses;
              learned_clause_sizes = stays w.learned_clause_sizes given.learned_clause_sizes;
              learned_cubes = stays w.learned_cubes given.learned_cubes;
              learned_cube_sizes = stays w.learned_cube_sizes given.learned_cube_sizes;
            };
        behind = record { cells_behind = refl; literals_behind = refl };
      }

-- ---- the parts under the limits that stood are y afterwards
module _ (w : Writes) {cells : List ℕ} {literals : List ℤ} {cells' : List ℕ} {literals' : List ℤ} where
  pub left_stays : limits_of cells' ≡ limits_of cells → {y : State} → parts_under (limits_of cells) cells' literals' ≡ y → StaysIn w (state_at cells literals) y
      → BehindAt (limits_of cells) cells literals cells' literals' → StaysAt w cells literals cells' literals'
  left_stays same {y} parts stay behind =
      record {
        limits = same;
        parts = subst (StaysIn w (state_at cells literals)) (sym (ap (λ (L : Limits). parts_under L cells' literals') same ∙ parts)) stay;
        behind = behind;
      }

-- ---- the count of a table alone is set
pub count_stays : (t : List ℕ) (n : ℕ) → Stays count t (set t 0 n)
count_stays t n = drop-set-lt 1 t 0 n (omega arith)

-- ---- the calls that ask for no search, as the limits were read
limits_are : (cells : List ℕ) {n m : ℕ} → n ≡ get_or cells 0 0 → m ≡ get_or cells 1 0 → own n m ≡ limits_of cells
limits_are cells is_n is_m = λ i. own (is_n i) (is_m i)

module _ {cells : List ℕ} {literals : List ℤ} {n m : ℕ} (is_n : n ≡ get_or cells 0 0) (is_m : m ≡ get_or cells 1 0) {cells' : List ℕ} {literals' : List ℤ} where
  pub added_stays : {cs : List (List Literal)} {places : List ℕ} → AddedWithin (own n m) cells literals cs places cells' literals' → StaysAt rule_writes cells literals cells' literals'
  added_stays {cs} {places} added =
      let a : AddedWithin (limits_of cells) cells literals cs places cells' literals' = subst (λ (L : Limits). AddedWithin L cells literals cs places cells' literals') (limits_are cells is_n is_m) added in
      left_stays rule_writes a.at.limits a.at.parts
      (record {
        numbers = refl;
        levels = refl;
        kinds = refl;
        clauses = tt;
        clause_sizes = tt;
        learned_clauses = refl;
        learned_clause_sizes = refl;
        learned_cubes = refl;
        learned_cube_sizes = count_stays (state_at cells literals).learned_cube_sizes 0;
      })
      a.behind

  pub withdrawn_stays : {r : ℕ} → WithdrawnWithin (own n m) cells literals r cells' literals' → StaysAt withdraw_writes cells literals cells' literals'
  withdrawn_stays {r} withdrawn =
      let a : WithdrawnWithin (limits_of cells) cells literals r cells' literals' = subst (λ (L : Limits). WithdrawnWithin L cells literals r cells' literals') (limits_are cells is_n is_m) withdrawn in
      left_stays withdraw_writes a.at.limits a.at.parts
      (record {
        numbers = refl;
        levels = refl;
        kinds = refl;
        clauses = refl;
        clause_sizes = count_stays (state_at cells literals).clause_sizes r;
        learned_clauses = tt;
        learned_clause_sizes = tt;
        learned_cubes = refl;
        learned_cube_sizes = refl;
      })
      a.behind
