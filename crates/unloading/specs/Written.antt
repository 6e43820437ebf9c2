-- One row of a shelf written back into a state's lent table, and the records of the learned clauses.
use Rattle.std.specs.Prelude.{ℕ, suc, ◌+◌, ◌-◌, ◌*◌, ◌%◌, ◌≤◌, ◌<◌, ◌≡◌, true, cond, List, [], ℤ, length, get_or, take, set, ltb}
use Rattle.qbf.specs.Formula.{paper, highest, Prefix, Literal, place}
use Rattle.qbf.specs.Learning.{Constraint}
use Rattle.qbf.specs.Card.{Mem}
use Rattle.qbf.specs.Calls.{numbers_are_ok}
use Rattle.tables.specs.Views.{Numbers, row}
use Rattle.tables.specs.Codes.{codes}
use Rattle.tables.specs.Shelves.{newest_of, base_of, row_at}

-- the row that stands at index k, from the oldest
abbrev pub entry_at : List ℕ → List ℕ → ℕ → List ℕ
entry_at cells links k = row_at highest.numbers cells ((base_of paper.constraints links + k) % paper.constraints)

-- no row that stands has more than w codes
abbrev pub Narrow : ℕ → List ℕ → List ℕ → Type 0
Narrow w cells links = (k : ℕ) → k < newest_of links - base_of paper.constraints links → length (entry_at cells links k) ≤ w

-- The codes r are written as literals into row k, of w cells; the rows before it stay.
pub record Unloaded (w : ℕ) (numbers r : List ℕ) (k : ℕ) (f : List ℤ) (l : List ℕ) (f' : List ℤ) (l' : List ℕ) : Type 0 where
  pub room : length f' ≡ length f
  pub short : length r ≤ w
  pub sizes : l' ≡ set l (suc k) (length r)
  pub kept : take (k * w) f' ≡ take (k * w) f
  pub is : (D : Prefix) (e : Constraint)
      → Numbers D numbers
      → numbers_are_ok highest [] D ≡ true
      → r ≡ codes D e
      → ((l : Literal) → Mem l e → 1 ≤ place D l)
      → row w f' l' k ≡ e

-- ---- the records of the learned clauses, behind their sizes
-- of the row that stands at index k, from the oldest, whose number follows `base`; `before` rows were loaded
abbrev pub record_from : List ℕ → ℕ → ℕ → ℕ → ℕ → ℕ
record_from sizes base before clauses k = cond (ltb (base + k) before) (get_or sizes (suc paper.constraints + (base + k)) 0) clauses

-- .. of every row that stands
pub record RecordsFrom (sizes : List ℕ) (newest before clauses : ℕ) (sizes' : List ℕ) : Type 0 where
  pub at : (k : ℕ) → k < newest - (newest - paper.constraints)
      → get_or sizes' (suc paper.constraints + k) 0 ≡ record_from sizes (newest - paper.constraints) before clauses k

-- .. with their count
pub record Recorded (sizes : List ℕ) (newest clauses : ℕ) (sizes' : List ℕ) : Type 0 where
  pub count : get_or sizes' 0 0 ≡ newest - (newest - paper.constraints)
  pub records : RecordsFrom sizes newest (get_or sizes 0 0) clauses sizes'
