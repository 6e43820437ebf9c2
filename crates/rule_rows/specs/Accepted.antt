-- What accepted rules leave in the tables of a state.
use Rattle.std.specs.Prelude.{ℕ, ◌+◌, ◌≤◌, ◌<◌, ◌≡◌, List, [], ◌∷◌, ◌++◌, map, ℤ, pos, length, get_or}
use Rattle.qbf.specs.Formula.{paper, highest, Literal, Prefix, number_of}
use Rattle.qbf.specs.Calls.{clause_of}
use Rattle.tables.specs.Views.{Places, Table, rows_of}

-- the clauses' tables, with room for that many, after a row was put behind the others
pub record Appended (most : ℕ) (cells : List ℤ) (sizes : List ℕ) (row cells' : List ℤ) (sizes' : List ℕ) : Type 0 where
  pub table : Table paper.literals most cells' sizes'
  pub kept : length sizes' ≡ length sizes
  pub rows : rows_of paper.literals cells' sizes' ≡ rows_of paper.literals cells sizes ++ (row ∷ [])

-- the same after rules with these literals: their clauses are the last
pub record Added (most : ℕ) (cells : List ℤ) (sizes : List ℕ) (cs : List (List Literal)) (places : List ℕ) (cells' : List ℤ) (sizes' : List ℕ) : Type 0 where
  pub table : Table paper.literals most cells' sizes'
  pub kept : length sizes' ≡ length sizes
  pub count : get_or sizes' 0 0 ≡ get_or sizes 0 0 + length cs
  pub rows : (D : Prefix) → Places D places
      → rows_of paper.literals cells' sizes' ≡ rows_of paper.literals cells sizes ++ map (clause_of D) cs

-- each number is within the highest limit
abbrev pub Named : List Literal → Type 0
Named ls = (k : ℕ) → k < length ls → number_of (get_or ls k (pos 0)) ≤ highest.numbers
