-- The names of the variables of a prefix, in place order, and how many of them are free.
use Rattle.std.specs.Prelude.{ℕ, ◌≤◌, ◌<◌, ◌≡◌, List, length}
use Rattle.qbf.specs.Formula.{Prefix, most_free}
use Rattle.qbf.specs.Truth.{free_variables}
use Rattle.tables.specs.Views.{Numbers}

pub record NamesOf (D : Prefix) (numbers : List ℕ) (free : ℕ) : Type 0 where
  pub shown : Numbers D numbers
  pub frees : free ≡ free_variables D
  pub within : free ≤ length D
  pub named : free < length numbers
  -- "flags stay at most 40"
  pub few : free ≤ most_free
