-- What a visitor of the plain search asks of the lent tables, what it leaves of them, and what its answer says: safety without a prefix, and the
-- plain search for every prefix, clauses, node and reading that the tables show.
use Rattle.std.specs.Prelude.{ℕ, suc, ◌+◌, ◌-◌, ◌*◌, ◌≤◌, ◌<◌, ◌≡◌, Bool, false, List, ◌∷◌, length, get_or, drop}
use Rattle.std.proofs.Math.Option.{none}
use Rattle.qbf.specs.Formula.{highest, most_free, Quantifier, free, Prefix, Clause, Node, ◌▹◌, quantifiers, quantifier_at, any, all, dead, satisfied}
use Rattle.qbf.specs.Plain.{PlainResult, plain_branch}
use Rattle.qbf.specs.Open.{Reading, enter, open_search}
use Rattle.qbf.specs.Learning.{empty_store}
use Rattle.bitset.specs.Rows.{width, member}
use Rattle.inner.specs.Formed.{Formed}
use Rattle.tables.specs.Views.{quantifier_code, value_code}
use Rattle.tables.specs.Codes.{Quantified}
use Rattle.tables.specs.Matrices.{RowLength}
use Rattle.tables.specs.Sets.{ClauseSets, Satisfied}
use Rattle.open_search.specs.Verdicts.{verdict_of}
use Rattle.open_search.specs.declared.verdicts.Finding.{Finding}

-- ---- what is asked, and what is left
pub record Inside (at wc : ℕ) : Type 0 where
  pub within : at ≤ highest.numbers
  pub words : RowLength wc

-- the rows of the places before k are as they were
pub record RowsKept (k wc : ℕ) (sat sat' : List ℕ) : Type 0 where
  pub rows : (f i : ℕ) → f * width + i < k * wc * width → member sat' f i ≡ member sat f i

-- .. and no more of the budget n is left
pub record Left (k wc n : ℕ) (r : Finding) (sat sat' : List ℕ) : Type 0 where
  pub kept : RowsKept k wc sat sat'
  pub fewer : r.budget ≤ n

-- ---- what the tables show
-- what is recorded of each place that a free variable can have: 0 open, 1 off, 2 on; the cells of the others are free
pub record ByPlace (os : Reading) (t : List ℕ) : Type 0 where
  pub at : (p : ℕ) → p ≤ most_free → get_or t p 0 ≡ value_code (get_or (none ∷ os) p none)

-- the prefix D, the clauses R and the reading os, which is one of free variables
pub record Task (D : Prefix) (R : List Clause) (os : Reading) (wc : ℕ) (sets quantifiers recorded : List ℕ) : Type 0 where
  pub formed : Formed D R empty_store
  pub quantified : Quantified D quantifiers
  pub by_code : ClauseSets D R wc sets
  pub reads : ByPlace os recorded
  pub frees : (i : ℕ) → i < length os → quantifier_at D (suc i) ≡ free

-- at the node s, of k places, no clause is dead and not all are satisfied; and which are is known there
pub record Opened (D : Prefix) (s : Node) (R : List Clause) (wc : ℕ) (sat : List ℕ) (k : ℕ) : Type 0 where
  pub long : length s ≡ k
  pub within : length s ≤ length D
  pub alive : any (dead D s) R ≡ false
  pub unsatisfied : all (satisfied D s) R ≡ false
  pub known : Satisfied D s R wc sat k

-- ---- what an answer says: "not stopped exactly if" the search's visits are below the budget
pub record Found (w : PlainResult) (budget : ℕ) (r : Finding) : Type 0 where
  pub rest : r.budget ≡ budget - w.visits
  pub verdict : w.visits < budget → r.verdict ≡ verdict_of w.outcome

-- the search from a node of k places
abbrev pub search_at : Prefix → List Clause → Reading → ℕ → Node → PlainResult
search_at D R os k s = open_search D R (drop k os) (drop k (quantifiers D)) s

-- at the node below an open one, where its last place, `at`, has the value b
pub record Visited (at wc budget : ℕ) (b : Bool) (r : Finding) (sets quantifiers recorded sat : List ℕ) : Type 0 where
  pub result : (D : Prefix) (R : List Clause) (os : Reading) (s : Node) (k : ℕ) → Task D R os wc sets quantifiers recorded
      → Opened D s R wc sat k → k < length D → at ≡ k + 1
      → Found (search_at D R os at (s ▹ b)) budget r

-- at an open node
pub record Followed (at wc budget : ℕ) (r : Finding) (sets quantifiers recorded sat : List ℕ) : Type 0 where
  pub result : (D : Prefix) (R : List Clause) (os : Reading) (s : Node) → Task D R os wc sets quantifiers recorded
      → Opened D s R wc sat at
      → Found (search_at D R os at s) budget r

-- at an open node that branches on a variable of the quantifier of that code
pub record Branched (kind at wc budget : ℕ) (r : Finding) (sets quantifiers recorded sat : List ℕ) : Type 0 where
  pub result : (D : Prefix) (R : List Clause) (os : Reading) (s : Node) (κ : Quantifier) → Task D R os wc sets quantifiers recorded
      → Opened D s R wc sat at → at < length D → quantifier_code κ ≡ kind
      → Found (plain_branch κ (search_at D R os (at + 1)) s) budget r

-- at an open node whose next variable is free: it is recorded, or open
pub record Entered (at wc budget : ℕ) (r : Finding) (sets quantifiers recorded sat : List ℕ) : Type 0 where
  pub result : (D : Prefix) (R : List Clause) (os : Reading) (s : Node) → Task D R os wc sets quantifiers recorded
      → Opened D s R wc sat at → at < length D → quantifier_at D (suc at) ≡ free
      → Found (enter (get_or os at none) (search_at D R os (at + 1)) s) budget r
