-- What the search on the tables of a state gives: the learning search from the node that the values show, within a budget. The learned constraints that it
-- leaves stand on shelves, or are those that stood in the tables, where it did not go below the start node.
use Rattle.std.specs.Prelude.{ℕ, ◌+◌, ◌-◌, ◌≤◌, ◌≡◌, Bool, true, false, List, [], length, get_or, drop, leb, Option, Some, None}
use Rattle.std.proofs.Math.Option.{none}
use Rattle.qbf.specs.Formula.{paper, Prefix, Clause, Node, quantifiers}
use Rattle.qbf.specs.Truth.{Outcome, decided, mixed, DecidedNode, free_variables}
use Rattle.qbf.specs.Learning.{Constraint, Store, LearningResult, leaf, first_dead}
use Rattle.qbf.specs.Ceiling.{Attempt, finished, stopped, below_within, search_within}
use Rattle.tables.specs.Views.{Numbers, Places, Kinds, Values, rows_of}
use Rattle.inner.specs.Formed.{Formed}
use Rattle.tables.specs.Codes.{Quantified}
use Rattle.tables.specs.Records.{Ledger, StoreKept}
use Rattle.tables.specs.Matrices.{MatrixShown, words_of}
use Rattle.node.specs.declared.answer.Answer.{Answer}
use Rattle.cover.specs.Cover.{Covers}
use Rattle.node.specs.Node.{new_lines}
use Rattle.node.specs.declared.Verdict.{Verdict}
use Rattle.node.specs.declared.Verdict.TheVariants.{Yes, No, Mixed}
use Rattle.search_entry.specs.Within.{nowhere}
use Rattle.search_entry.specs.declared.Source.TheVariants.{Area}
use Rattle.search_entry.specs.declared.Learned.{Learned}
use Rattle.searching.specs.declared.given.Given.{Given}
use Rattle.searching.specs.declared.task.Task.{Task}
use Rattle.searching.specs.declared.run.Found.{Found}

-- ---- what a search comes to
-- a start node that does not branch: no line is below it, and so much budget is left
abbrev pub ended_at : Verdict → ℕ → Found
ended_at w k = record { answer = record { verdict = w; source = Area; start = 0; len = 0; budget = k; lines = 0; inside = nowhere }; learned = None }

-- the outcome o has that verdict
abbrev pub Ends : Verdict → Outcome Constraint → Type 0
Ends Yes o = (e : Constraint) × (o ≡ decided true e)
Ends No o = (e : Constraint) × (o ≡ decided false e)
Ends Mixed o = (ds : List DecidedNode) × (o ≡ mixed ds)

-- the answer r and the table are the result o, with its lines of the verdict p
pub record EndsBy (p : Bool) (o : LearningResult) (free budget : ℕ) (r : Answer) (table : List ℕ) : Type 0 where
  pub verdict : Ends r.verdict o.outcome
  pub visits : r.budget + o.visits ≡ budget
  pub left : 1 ≤ r.budget
  pub covers : Covers free table (new_lines p o.outcome)
  pub lines : r.lines ≡ length (new_lines p o.outcome)

-- .. or the search was stopped
abbrev pub TriedBy : Bool → Attempt → ℕ → ℕ → Answer → List ℕ → Type 0
TriedBy p (finished o) free budget r table = EndsBy p o free budget r table
TriedBy p (stopped st) free budget r table = r.budget ≡ 0

-- the store that is left, either way
abbrev pub store_left : Attempt → Store
store_left (finished o) = o.store
store_left (stopped st) = st

-- ---- what the tables show
abbrev pub clauses_in : Given → List Clause
clauses_in x = rows_of x.clauses.width x.clauses.cells.now x.clauses.sizes.now

-- the learned constraints, with the records of the clauses, which no search reads
abbrev pub store_in : Given → List ℕ → Store
store_in x ks =
    record {
      clauses = rows_of x.learned_clauses.width x.learned_clauses.cells.now x.learned_clauses.sizes.now;
      records = ks;
      cubes = rows_of x.learned_cubes.width x.learned_cubes.cells.now x.learned_cubes.sizes.now;
    }

-- how many there are
abbrev pub clause_count : Given → ℕ
clause_count x = get_or x.clauses.sizes.now 0 0

abbrev pub learned_count : Given → ℕ
learned_count x = get_or x.learned_clauses.sizes.now 0 0

-- the records before the search, of which there is one for each learned clause, and the clauses that stand during it
abbrev pub ledger_of : Given → List ℕ → Ledger
ledger_of x ks = record { clauses = length (clauses_in x); before = ks }

-- the tables of x and k show the prefix D, well formed clauses and learned constraints with the records ks, and the node s
pub record Shown (D : Prefix) (s : Node) (ks : List ℕ) (x : Given) (k : Task) : Type 0 where
  pub numbered : Numbers D x.numbers.now
  pub placed : Places D k.places.now
  pub kinded : Kinds D k.kinds.now
  pub valued : Values D s k.values.now
  pub formed : Formed D (clauses_in x) (store_in x ks)
  pub recorded : length ks ≡ learned_count x
  pub long : length s ≡ k.at
  pub frees : k.free ≡ free_variables D

-- ---- the search below an open start node
abbrev pub below_start : Prefix → List Clause → ℕ → ℕ → Node → Store → Attempt
below_start D R at budget s st = below_within paper D R (drop at (quantifiers D)) (budget - 2) s st

-- its answer, and the learned constraints that it leaves on the shelves, with their records
pub record BelowBy (p : Bool) (D : Prefix) (g : Ledger) (t : Attempt) (free budget : ℕ) (r : Answer) (cs cl qs ql table : List ℕ) : Type 0 where
  pub tried : TriedBy p t free budget r table
  pub stored : StoreKept D g (store_left t) cs cl qs ql

-- over derived tables, for every prefix, clauses, store and node that they show
pub record Below (p : Bool) (rows sets : List ℕ) (count : ℕ) (numbers quantifiers values cs cl qs ql table : List ℕ) (at free budget : ℕ) (r : Answer) (cs' cl' qs' ql' table' : List ℕ) : Type 0 where
  pub by : (D : Prefix) (R : List Clause) (s : Node) (g : Ledger) (st : Store)
      → Numbers D numbers → Values D s values → Quantified D quantifiers → MatrixShown D R (words_of count) rows sets → length R ≡ count → StoreKept D g st cs cl qs ql → g.clauses ≡ length R
      → Formed D R st → length s ≡ at → free ≡ free_variables D → Covers free table [] → first_dead D s R ≡ none
      → BelowBy p D g (below_start D R at budget s st) free budget r cs' cl' qs' ql' table'

-- on the tables, for all that they show at an open node
pub record Opened (x : Given) (k : Task) (table : List ℕ) (r : Answer) (cs cl qs ql table' : List ℕ) : Type 0 where
  pub found : (D : Prefix) (s : Node) (ks : List ℕ) → Shown D s ks x k
      → Covers k.free table [] → leaf D (clauses_in x) leb s (store_in x ks) ≡ none
      → BelowBy k.yes D (ledger_of x ks) (below_start D (clauses_in x) k.at k.budget s (store_in x ks)) k.free k.budget r cs cl qs ql table'

-- .. with all that is learned on shelves
abbrev pub OpenedOn : Given → Task → List ℕ → Answer → Option Learned → List ℕ → Type 0
OpenedOn x k table r None table' = ⊥
OpenedOn x k table r (Some d) table' = Opened x k table r d.clauses.cells.now d.clauses.links.now d.cubes.cells.now d.cubes.links.now table'

abbrev pub OpenedAs : Given → Task → List ℕ → Found → List ℕ → Type 0
OpenedAs x k table r table' = OpenedOn x k table r.answer r.learned table'

-- ---- the whole search, with the start node
-- the learned constraints z that are left: on the shelves, or those that there were
abbrev pub LeftOn : Prefix → Ledger → Store → Store → Option Learned → Type 0
LeftOn D g st z (Some l) = StoreKept D g z l.clauses.cells.now l.clauses.links.now l.cubes.cells.now l.cubes.links.now
LeftOn D g st z None = z ≡ st

pub record FoundBy (D : Prefix) (g : Ledger) (st : Store) (t : Attempt) (k : Task) (r : Found) (table : List ℕ) : Type 0 where
  pub tried : TriedBy k.yes t k.free k.budget r.answer table
  pub left : LeftOn D g st (store_left t) r.learned

pub record Ran (x : Given) (k : Task) (table : List ℕ) (r : Found) (table' : List ℕ) : Type 0 where
  pub found : (D : Prefix) (s : Node) (ks : List ℕ) → Shown D s ks x k → Covers k.free table []
      → FoundBy D (ledger_of x ks) (store_in x ks) (search_within paper D (clauses_in x) (k.budget - 1) (drop k.at (quantifiers D)) s (store_in x ks)) k r table'
