-- A shelf's rows in the tables of a state: of any prefix that the numbers show, and of any constraints whose literals are declared.
use Rattle.std.specs.Prelude.{ℕ, ◌≤◌, ◌≡◌, true, List, [], ℤ, map, length}
use Rattle.qbf.specs.Formula.{paper, highest, Prefix, Literal, place}
use Rattle.qbf.specs.Learning.{Constraint}
use Rattle.qbf.specs.Card.{Mem}
use Rattle.qbf.specs.Calls.{numbers_are_ok}
use Rattle.tables.specs.Views.{Numbers, rows_of}
use Rattle.tables.specs.Codes.{codes}
use Rattle.lent_rows.specs.Held.{Held}
use Rattle.state.specs.State.{State}
use Rattle.state.specs.Reading.{state_of}
use Rattle.shelf.specs.declared.Shelf.{Shelf}
use Rattle.shelf.specs.Standing.{rows, newest}
use Rattle.unloading.specs.Written.{Recorded}

-- the rows, and tables as long as they were
pub record CubesStored (w : ℕ) (s : Shelf) (numbers : List ℕ) (f : List ℤ) (l : List ℕ) (f' : List ℤ) (l' : List ℕ) : Type 0 where
  pub cells_room : length f' ≡ length f
  pub sizes_room : length l' ≡ length l
  pub held : Held w paper.constraints f' l'
  pub rows_are : (D : Prefix) (es : List Constraint) → Numbers D numbers → numbers_are_ok highest [] D ≡ true → rows s ≡ map (codes D) es
      → ((e : Constraint) → Mem e es → (k : Literal) → Mem k e → 1 ≤ place D k) → rows_of w f' l' ≡ es

-- .. with the records behind the sizes
pub record ClausesStored (w : ℕ) (s : Shelf) (numbers : List ℕ) (clauses : ℕ) (f : List ℤ) (l : List ℕ) (f' : List ℤ) (l' : List ℕ) : Type 0 where
  pub stored : CubesStored w s numbers f l f' l'
  pub recorded : Recorded l (newest s) clauses l'

-- the state with other learned constraints
abbrev pub with_learned : State → List ℤ → List ℕ → List ℤ → List ℕ → State
with_learned x cs css qs qss = state_of x.numbers x.levels x.kinds x.clauses x.clause_sizes cs css qs qss
