-- The rows and the marks of a search at the node it begins with.
use Rattle.std.specs.Prelude.{ℕ, ◌*◌, ◌≤◌, ◌<◌, ◌≡◌, List, length, leb}
use Rattle.bitset.specs.Rows.{width, member}
use Rattle.qbf.specs.Formula.{Prefix, Clause, Node}
use Rattle.tables.specs.Codes.{Statuses}
use Rattle.tables.specs.Sets.{ClauseSets}

-- the row before the first place: every number from that of the clauses on
pub record FirstRow (count wc : ℕ) (sat sat' : List ℕ) : Type 0 where
  pub long : length sat' ≡ length sat
  pub row : (i : ℕ) → i < wc * width → member sat' 0 i ≡ leb count i

-- the tables show the clauses R and the node s of `at` places
pub record StartShown (D : Prefix) (R : List Clause) (s : Node) (wc at : ℕ) (sets statuses : List ℕ) : Type 0 where
  pub clauses : ClauseSets D R wc sets
  pub values : Statuses s statuses
  pub long : length s ≡ at
  pub inside : at ≤ length D
