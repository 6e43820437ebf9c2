-- What the plain search for a reading gives on the tables of a formula.
use Rattle.std.specs.Prelude.{ℕ, ◌≤◌, ◌≡◌, Bool, true, false, List, [], length, get_or, ℤ}
use Rattle.qbf.specs.Formula.{paper, highest, most_free, Prefix, Clause, quantifiers, any, all, dead, satisfied}
use Rattle.qbf.specs.Truth.{free_variables}
use Rattle.qbf.specs.Learning.{empty_store}
use Rattle.qbf.specs.Open.{Reading, open_search}
use Rattle.tables.specs.Views.{Numbers, Places, Kinds, Recorded}
use Rattle.tables.specs.Formed.{clauses_of}
use Rattle.inner.specs.Formed.{Formed}
use Rattle.lent_rows.specs.Held.{Held}
use Rattle.tables.specs.Matrices.{words_of}
use Rattle.search_start.specs.declared.Start.{Start}
use Rattle.search_start.specs.declared.Start.TheVariants.{No, Yes, Open}
use Rattle.open_search.specs.Searching.{Task, Found}
use Rattle.open_search.specs.declared.verdicts.Finding.{Finding}

-- what is asked of the tables, which those of a valid state are
pub record Ready (numbers : List ℕ) (clauses : List ℤ) (sizes : List ℕ) (free : ℕ) : Type 0 where
  pub few : get_or numbers 0 0 ≤ highest.numbers
  pub frees : free ≤ most_free
  pub clauses_in : Held paper.literals highest.clauses clauses sizes

-- ---- the empty node, by its tests
abbrev pub Tested : Start → Bool → Bool → Type 0
Tested No x y = x ≡ true
Tested Yes x y = (x ≡ false) × (y ≡ true)
Tested Open x y = (x ≡ false) × (y ≡ false)

pub record AtEmpty (clauses : List ℤ) (sizes kinds : List ℕ) (r : Start) : Type 0 where
  pub tests : (D : Prefix) → Kinds D kinds → Tested r (any (dead D []) (clauses_of clauses sizes)) (all (satisfied D []) (clauses_of clauses sizes))

-- ---- the search below it, over derived tables
pub record Below (sets : List ℕ) (count : ℕ) (kinds recorded : List ℕ) (budget : ℕ) (r : Finding) : Type 0 where
  pub found : (D : Prefix) (R : List Clause) (os : Reading) → Task D R os (words_of count) sets kinds recorded → length R ≡ count
      → any (dead D []) R ≡ false → all (satisfied D []) R ≡ false
      → Found (open_search D R os (quantifiers D) []) budget r

-- ---- over the tables of the formula
-- they show the well formed prefix D with the clauses, and the reading os of its free variables
pub record Shown (D : Prefix) (os : Reading) (numbers : List ℕ) (clauses : List ℤ) (sizes places kinds values : List ℕ) (count : ℕ) : Type 0 where
  pub numbered : Numbers D numbers
  pub placed : Places D places
  pub kinded : Kinds D kinds
  pub formed : Formed D (clauses_of clauses sizes) empty_store
  pub recorded : Recorded D os values
  pub counted : count ≡ free_variables D
  pub long : length os ≡ count

pub record Searched (numbers : List ℕ) (clauses : List ℤ) (sizes places kinds values : List ℕ) (count budget : ℕ) (r : Finding) : Type 0 where
  pub found : (D : Prefix) (os : Reading) → Shown D os numbers clauses sizes places kinds values count
      → any (dead D []) (clauses_of clauses sizes) ≡ false → all (satisfied D []) (clauses_of clauses sizes) ≡ false
      → Found (open_search D (clauses_of clauses sizes) os (quantifiers D) []) budget r

-- with the empty node's own visit
pub record Walked (numbers : List ℕ) (clauses : List ℤ) (sizes places kinds values : List ℕ) (count budget : ℕ) (r : Finding) : Type 0 where
  pub found : (D : Prefix) (os : Reading) → Shown D os numbers clauses sizes places kinds values count
      → Found (open_search D (clauses_of clauses sizes) os (quantifiers D) []) budget r
