-- What a call that adds rules finds and leaves in the two tables of a state under limits.
use Rattle.std.specs.Prelude.{ℕ, ◌+◌, ◌≤◌, ◌≡◌, List, ℤ, get_or, set}
use Rattle.qbf.specs.Formula.{Limits, Literal}
use Rattle.tables.specs.Views.{Table}
use Rattle.rule_rows.specs.Accepted.{Added}
use Rattle.state.specs.State.{State}
use Rattle.state.specs.Reading.{state_of}
use Rattle.state_parts.specs.Parts.{limits_of, parts_under, Whole}
use Rattle.rule_calls.specs.StaysAt.{BehindAt}

-- there is room for n clauses more
pub record Room (L : Limits) (cells : List ℕ) (literals : List ℤ) (n : ℕ) : Type 0 where
  pub whole : Whole L cells literals
  pub table : Table L.literals L.clauses (parts_under L cells literals).clauses (parts_under L cells literals).clause_sizes
  pub free : get_or (parts_under L cells literals).clause_sizes 0 0 + n ≤ L.clauses

-- a state whose clauses have been written, and in which no cube stands
abbrev pub with_clauses : State → List ℤ → List ℕ → State
with_clauses x cs css =
    state_of x.numbers x.levels x.kinds cs css x.learned_clauses x.learned_clause_sizes x.learned_cubes (set x.learned_cube_sizes 0 0)

-- "all passes go and bars remain": behind the clauses stand those of the added rules, no cube stands, and nothing else has changed
pub record AddedAt (L : Limits) (cells : List ℕ) (literals : List ℤ) (cs : List (List Literal)) (places : List ℕ) (cells' : List ℕ) (literals' : List ℤ) : Type 0 where
  pub clauses : List ℤ
  pub sizes : List ℕ
  pub added : Added L.clauses (parts_under L cells literals).clauses (parts_under L cells literals).clause_sizes cs places clauses sizes
  pub parts : parts_under L cells' literals' ≡ with_clauses (parts_under L cells literals) clauses sizes
  pub limits : limits_of cells' ≡ limits_of cells
  pub whole : Whole L cells' literals'

-- .. and what lies behind the parts stays
pub record AddedWithin (L : Limits) (cells : List ℕ) (literals : List ℤ) (cs : List (List Literal)) (places : List ℕ) (cells' : List ℕ) (literals' : List ℤ) : Type 0 where
  pub at : AddedAt L cells literals cs places cells' literals'
  pub behind : BehindAt L cells literals cells' literals'
