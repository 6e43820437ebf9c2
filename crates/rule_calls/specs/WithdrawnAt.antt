-- What a withdrawal finds and leaves in the two tables of a state under limits.
use Rattle.std.specs.Prelude.{ℕ, ◌≡◌, List, ℤ, set}
use Rattle.qbf.specs.Formula.{Limits}
use Rattle.state.specs.State.{State}
use Rattle.state.specs.Reading.{state_of}
use Rattle.state_parts.specs.Parts.{limits_of, parts_under, Whole}
use Rattle.withdrawal.specs.Learned.{Room, Kept}
use Rattle.rule_calls.specs.StaysAt.{BehindAt}

-- the learned clauses stand within their part
pub record Learned (L : Limits) (cells : List ℕ) (literals : List ℤ) : Type 0 where
  pub whole : Whole L cells literals
  pub room : Room L.numbers (parts_under L cells literals).learned_clauses (parts_under L cells literals).learned_clause_sizes

-- a state in which n clauses are counted, and whose learned clauses have been written
abbrev pub with_learned : State → ℕ → List ℤ → List ℕ → State
with_learned x n cs css = state_of x.numbers x.levels x.kinds x.clauses (set x.clause_sizes 0 n) cs css x.learned_cubes x.learned_cube_sizes

-- n clauses remain, and the learned clauses whose record is at most n; nothing else has changed
pub record WithdrawnAt (L : Limits) (cells : List ℕ) (literals : List ℤ) (n : ℕ) (cells' : List ℕ) (literals' : List ℤ) : Type 0 where
  pub clauses : List ℤ
  pub sizes : List ℕ
  pub kept : Kept L.numbers (parts_under L cells literals).learned_clauses (parts_under L cells literals).learned_clause_sizes n clauses sizes
  pub parts : parts_under L cells' literals' ≡ with_learned (parts_under L cells literals) n clauses sizes
  pub limits : limits_of cells' ≡ limits_of cells
  pub whole : Whole L cells' literals'

-- .. and what lies behind the parts stays
pub record WithdrawnWithin (L : Limits) (cells : List ℕ) (literals : List ℤ) (n : ℕ) (cells' : List ℕ) (literals' : List ℤ) : Type 0 where
  pub at : WithdrawnAt L cells literals n cells' literals'
  pub behind : BehindAt L cells literals cells' literals'
