-- What is learned, written back into the parts of a state in two lent tables.
use Rattle.std.specs.Prelude.{ℕ, ◌≤◌, ◌≡◌, List, ℤ, get_or}
use Rattle.qbf.specs.Formula.{Limits, paper}
use Rattle.state_parts.specs.Parts.{limits_of, parts_under, Whole}
use Rattle.search_entry.specs.declared.Learned.{Learned}
use Rattle.unloading.specs.Written.{Narrow}
use Rattle.asking.specs.Stored.{with_learned, ClausesStored, CubesStored}
use Rattle.rule_calls.specs.StaysAt.{BehindAt}

-- both tables hold every part, and the rows on the shelves those of the limits
pub record Writable (L : Limits) (cells : List ℕ) (literals : List ℤ) (l : Learned) : Type 0 where
  pub whole : Whole L cells literals
  pub few : get_or (parts_under L cells literals).learned_clause_sizes 0 0 ≤ paper.constraints
  pub clauses : Narrow L.numbers l.clauses.cells.now l.clauses.links.now
  pub cubes : Narrow L.numbers l.cubes.cells.now l.cubes.links.now

-- nothing else has changed
pub record BackAt (L : Limits) (cells : List ℕ) (literals : List ℤ) (l : Learned) (cells' : List ℕ) (literals' : List ℤ) : Type 0 where
  pub cs : List ℤ
  pub css : List ℕ
  pub qs : List ℤ
  pub qss : List ℕ
  pub clauses : ClausesStored L.numbers l.clauses (parts_under L cells literals).numbers (get_or (parts_under L cells literals).clause_sizes 0 0) (parts_under L cells literals).learned_clauses (parts_under L cells literals).learned_clause_sizes cs css
  pub cubes : CubesStored L.numbers l.cubes (parts_under L cells literals).numbers (parts_under L cells literals).learned_cubes (parts_under L cells literals).learned_cube_sizes qs qss
  pub parts : parts_under L cells' literals' ≡ with_learned (parts_under L cells literals) cs css qs qss
  pub limits : limits_of cells' ≡ limits_of cells
  pub whole : Whole L cells' literals'

-- .. and what lies behind the parts stays
pub record BackWithin (L : Limits) (cells : List ℕ) (literals : List ℤ) (l : Learned) (cells' : List ℕ) (literals' : List ℤ) : Type 0 where
  pub at : BackAt L cells literals l cells' literals'
  pub behind : BehindAt L cells literals cells' literals'
