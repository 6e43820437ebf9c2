-- The tables of a state, as lists, wherever they lie.
use Rattle.std.specs.Prelude.{ℕ, List, ℤ}

pub record State : Type 0 where
  -- the count of the variables, then the number of each place's variable
  pub numbers : List ℕ
  -- from cell 1 on the level of each place
  pub levels : List ℕ
  -- the quantifier of each level
  pub kinds : List ℕ
  pub clauses : List ℤ
  pub clause_sizes : List ℕ
  pub learned_clauses : List ℤ
  pub learned_clause_sizes : List ℕ
  pub learned_cubes : List ℤ
  pub learned_cube_sizes : List ℕ
