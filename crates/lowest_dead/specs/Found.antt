-- What the finder of step 1 says of a flat table of clauses, for every prefix and node that the tables by number show.
use Rattle.std.specs.Prelude.{ℕ, ◌≤◌, ◌<◌, ◌≡◌, cond, List, leb, ltb, ℤ, get_or, Some, None, IfSome}
use Rattle.std.specs.Prelude.{Option as Maybe}
use Rattle.std.proofs.Math.Option.{Option, none, some}
use Rattle.qbf.specs.Formula.{paper, Prefix, Clause, Node}
use Rattle.qbf.specs.Learning.{lowest_dead}
use Rattle.tables.specs.Views.{Places, Kinds, Values, row, rows_of}
use Rattle.dead_clauses.specs.Dead.{clause_at}
use Rattle.lowest_dead.specs.declared.Lowest.{Lowest}

-- the clause of an index; none past the last
abbrev pub clause_found : List ℤ → List ℕ → ℕ → Option Clause
clause_found flat sizes r = cond (ltb r (get_or sizes 0 0)) (some (clause_at flat sizes r)) none

-- "the dead rule whose reduced form has the lowest last place, the earliest added among equals": at every node
pub record FoundLowest (flat : List ℤ) (sizes places kinds values : List ℕ) (r : ℕ) : Type 0 where
  pub within : r ≤ get_or sizes 0 0
  pub is : (D : Prefix) (s : Node) → Places D places → Kinds D kinds → Values D s values
      → clause_found flat sizes r ≡ lowest_dead D s (rows_of paper.literals flat sizes)

-- ---- the same by an index or none, in rows of any width
abbrev pub clause_in : ℕ → List ℤ → List ℕ → Maybe ℕ → Option Clause
clause_in w flat sizes None = none
clause_in w flat sizes (Some k) = some (row w flat sizes k)

pub record LowestIn (w : ℕ) (flat : List ℤ) (sizes places kinds values : List ℕ) (r : Maybe ℕ) : Type 0 where
  pub within : IfSome r (λ k. k < get_or sizes 0 0)
  pub is : (D : Prefix) (s : Node) → Places D places → Kinds D kinds → Values D s values
      → clause_in w flat sizes r ≡ lowest_dead D s (rows_of w flat sizes)

-- a dead clause beside the lowest one before it
abbrev pub lower_of : Maybe Lowest → Lowest → Lowest
lower_of None next = next
lower_of (Some best) next = cond (leb best.reach next.reach) best next
