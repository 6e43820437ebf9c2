-- What a query with an open variable answers, on the tables of a formula: "It neither reads nor adds to the store".
use Rattle.std.specs.Prelude.{ℕ, ◌≡◌, List, [], ℤ, leb}
use Rattle.qbf.specs.Formula.{Prefix, Clause, quantifiers}
use Rattle.qbf.specs.Plain.{PlainResult}
use Rattle.qbf.specs.Open.{Reading, open_search}
use Rattle.qbf.specs.Learning.{empty_store}
use Rattle.qbf.specs.Calls.{open_answer}
use Rattle.tables.specs.Formed.{clauses_of}
use Rattle.open_run.specs.OpenRun.{Shown}
use Rattle.serving.specs.Serves.{Said, said_of}

-- the plain search of a reading, and its answer under a ceiling; no answer depends on the store
abbrev pub open_walk : Prefix → List Clause → Reading → PlainResult
open_walk D R os = open_search D R os (quantifiers D) []

abbrev pub open_said : ℕ → PlainResult → Said
open_said top w = said_of (open_answer (leb w.visits top) empty_store top w).out

-- for every prefix and reading that the tables show
pub record OpenRuled (numbers : List ℕ) (clauses : List ℤ) (sizes places kinds values : List ℕ) (free top : ℕ) (a : Said) : Type 0 where
  pub ruled : (D : Prefix) (os : Reading) → Shown D os numbers clauses sizes places kinds values free → a ≡ open_said top (open_walk D (clauses_of clauses sizes) os)
