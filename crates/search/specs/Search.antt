-- What a visitor asks of the lent tables, what it leaves of them, and what its answer says: safety without a prefix, and the learning search for
-- every prefix, clauses, store, node and list of lines that the tables show.
use Rattle.std.specs.Prelude.{ℕ, suc, ◌+◌, ◌-◌, ◌^◌, ◌≤◌, ◌<◌, ◌≡◌, Bool, true, false, not, List, ◌++◌, length, take, drop, eqb}
use Rattle.std.proofs.Math.Option.{none}
use Rattle.qbf.specs.Formula.{paper, highest, Quantifier, Prefix, Clause, Node, ◌▹◌, quantifiers}
use Rattle.qbf.specs.Truth.{free_variables}
use Rattle.qbf.specs.Learning.{Store, LearningResult, first_dead}
use Rattle.qbf.specs.Ceiling.{Attempt, finished, stopped, visit_within, below_within, branch_within}
use Rattle.qbf.specs.Card.{byte_of}
use Rattle.cover.specs.Cover.{Covers}
use Rattle.inner.specs.Formed.{Formed}
use Rattle.std.specs.Int.Bits.{bit_or}
use Rattle.tables.specs.Codes.{code_at}
use Rattle.shelf.specs.Masks.{bit}
use Rattle.tables.specs.Shelves.{newest_of}
use Rattle.tables.specs.Records.{Ledger, StoreKept}
use Rattle.tables.specs.Matrices.{MatrixShown}
use Rattle.tables.specs.Sets.{Descended, RowsKept}
use Rattle.inner.specs.Inner.{Worded, Entered}
use Rattle.inner.specs.declared.Leaf.{Leaf}
use Rattle.inner.specs.declared.Leaf.TheVariants.{No, Yes, Open}
use Rattle.search_entry.specs.Within.{nowhere}
use Rattle.search_entry.specs.declared.Source.TheVariants.{Area}
use Rattle.node.specs.Node.{entry_of, Reads, Shown, new_lines}
use Rattle.node.specs.declared.Verdict.TheVariants as verdict
use Rattle.node.specs.declared.position.Position.{Position}
use Rattle.node.specs.declared.answer.Answer.{Answer}

-- ---- what is asked
-- the position of a side, with that budget and those lines
abbrev pub side_at : Position → ℕ → ℕ → Position
side_at p v l = record p { at = p.at + 1; budget = v; lines = l }

-- the position where its last place has the value: the words have the bits of its two literals
abbrev pub given_at : ℕ → Position → Position
given_at value p = record p { held = bit_or p.held (bit (code_at p.at (eqb value 2))); failed = bit_or p.failed (bit (code_at p.at (not (eqb value 2)))) }

-- of the counts: room for the lines and for the numbers of stored rows, which grow no faster than the budget falls
pub record Room (cl ql : List ℕ) (p : Position) : Type 0 where
  pub within : p.at ≤ highest.numbers
  pub lines : p.lines + (p.budget + p.budget) ≤ 2 ^ 62
  pub clauses : newest_of cl + p.budget ≤ 2 ^ 62
  pub cubes : newest_of ql + p.budget ≤ 2 ^ 62

-- at the start node its visit may be made; an inner node has a last place
pub record AskedAt (start : Bool) (cl ql : List ℕ) (p : Position) : Type 0 where
  pub room : Room cl ql p
  pub made : start ≡ true → 2 ≤ p.budget
  pub inner : start ≡ false → 1 ≤ p.at

-- where the node's own visit may be made
pub record AskedOpen (cl ql : List ℕ) (p : Position) : Type 0 where
  pub room : Room cl ql p
  pub made : 2 ≤ p.budget

-- a side is below a node
pub record AskedBelow (cl ql : List ℕ) (p : Position) : Type 0 where
  pub room : Room cl ql p
  pub inner : 1 ≤ p.at

-- ---- what is left of the tables
-- the answer's counts: no more lines and rows than the budget fell
pub record Counts (cl ql : List ℕ) (p : Position) (r : Answer) (cl' ql' : List ℕ) : Type 0 where
  pub lines_more : p.lines ≤ r.lines
  pub lines_fewer : r.lines + (r.budget + r.budget) ≤ p.lines + (p.budget + p.budget)
  pub clauses : newest_of cl' + r.budget ≤ newest_of cl + p.budget
  pub cubes : newest_of ql' + r.budget ≤ newest_of ql + p.budget

-- the values that were given, and the rows and marks of the places before k
pub record Kept (k wc : ℕ) (statuses statuses' table table' sat sat' marks marks' : List ℕ) : Type 0 where
  pub statuses_restored : statuses' ≡ statuses
  pub size : length table' ≡ length table
  pub rows : RowsKept k wc sat sat' marks marks'

pub record Left (k : ℕ) (p : Position) (r : Answer) (cl ql statuses table sat marks cl' ql' statuses' table' sat' marks' : List ℕ) : Type 0 where
  pub counts : Counts cl ql p r cl' ql'
  pub kept : Kept k p.words statuses statuses' table table' sat sat' marks marks'

-- the cells put aside
pub record AsideKept (aside : ℕ) (saved saved' : List ℕ) : Type 0 where
  pub size : length saved' ≡ length saved
  pub first : take aside saved' ≡ take aside saved

-- ---- what the tables show
-- the prefix D, the clauses R, the store st with the ledger g of its records, the node s of length k and the lines ls
pub record Task (D : Prefix) (s : Node) (ls : List Node) (R : List Clause) (g : Ledger) (st : Store)
    (clauses sets quantifiers statuses cs cl qs ql table : List ℕ) (k : ℕ) (p : Position) : Type 0 where
  pub shown : Shown D s quantifiers statuses k
  pub formed : Formed D R st
  pub matrix : MatrixShown D R p.words clauses sets
  pub stored : StoreKept D g st cs cl qs ql
  pub ruled : g.clauses ≡ length R
  pub frees : p.free ≡ free_variables D
  pub covers : Covers p.free table ls
  pub counted : p.lines ≡ length ls
  pub trues : Worded s true p.held
  pub falses : Worded s false p.failed

-- at the node s no clause is dead, and what is known of the clauses there
pub record Opened (D : Prefix) (s : Node) (R : List Clause) (p : Position) (sat marks : List ℕ) : Type 0 where
  pub alive : first_dead D s R ≡ none
  pub known : Descended D s R p.words sat marks (length s)

-- ---- what an answer says
-- the search ended with the result o
pub record Done (D : Prefix) (g : Ledger) (ls : List Node) (o : LearningResult) (p : Position) (r : Answer) (clauses area cs cl qs ql table : List ℕ) : Type 0 where
  pub verdict : Reads D r.verdict (entry_of r clauses cs qs area) o.outcome
  pub stored : StoreKept D g o.store cs cl qs ql
  pub visited : r.budget + o.visits ≡ p.budget
  pub left : 1 ≤ r.budget
  pub covers : Covers p.free table (ls ++ new_lines p.yes o.outcome)
  pub counted : r.lines ≡ length (ls ++ new_lines p.yes o.outcome)

-- it was stopped, with the store st
pub record Halted (D : Prefix) (g : Ledger) (st : Store) (r : Answer) (cs cl qs ql : List ℕ) : Type 0 where
  pub verdict : r.verdict ≡ verdict.Mixed
  pub stored : StoreKept D g st cs cl qs ql
  pub spent : r.budget ≡ 0

abbrev pub Says : Prefix → Ledger → List Node → Attempt → Position → Answer → List ℕ → List ℕ → List ℕ → List ℕ → List ℕ → List ℕ → List ℕ → Type 0
Says D g ls (finished o) p r clauses area cs cl qs ql table = Done D g ls o p r clauses area cs cl qs ql table
Says D g ls (stopped st) p r clauses area cs cl qs ql table = Halted D g st r cs cl qs ql

-- by what the search under the budget comes to
pub record Result (D : Prefix) (g : Ledger) (ls : List Node) (t : Attempt) (p : Position) (r : Answer) (clauses area cs cl qs ql table : List ℕ) : Type 0 where
  pub says : Says D g ls t p r clauses area cs cl qs ql table

-- the search at a position, under its budget: what follows at a node s that is open, the node itself, and the branch on a variable of the quantifier κ
abbrev pub below_of : Prefix → List Clause → Position → Node → Store → Attempt
below_of D R p s st = below_within paper D R (drop p.at (quantifiers D)) (p.budget - 2) s st

abbrev pub visit_of : Prefix → List Clause → Position → Node → Store → Attempt
visit_of D R p s st = visit_within D R eqb (below_within paper D R (drop p.at (quantifiers D))) (p.budget - 1) s st

abbrev pub branch_of : Prefix → List Clause → Quantifier → Position → Node → Store → Attempt
branch_of D R κ p s st = branch_within paper D R κ (visit_within D R eqb (below_within paper D R (drop (p.at + 1) (quantifiers D)))) (p.budget - 2) s st

-- at the inner node of a position
pub record Visited (p : Position) (r : Answer)
    (clauses sets quantifiers statuses cs cl qs ql table sat marks area cs' cl' qs' ql' table' : List ℕ) : Type 0 where
  pub result : (D : Prefix) (s : Node) (ls : List Node) (R : List Clause) (g : Ledger) (st : Store) (k : ℕ)
      → Task D s ls R g st clauses sets quantifiers statuses cs cl qs ql table p.at p → Entered D s R p.words sat marks k
      → Result D g ls (visit_of D R p s st) p r clauses area cs' cl' qs' ql' table'

-- at that node, where the tables show its parent, which is open, and its last place gets the value
pub record SideVisited (value : ℕ) (p : Position) (r : Answer)
    (clauses sets quantifiers statuses cs cl qs ql table sat marks area cs' cl' qs' ql' table' : List ℕ) : Type 0 where
  pub result : (D : Prefix) (s : Node) (b : Bool) (ls : List Node) (R : List Clause) (g : Ledger) (st : Store) (k : ℕ)
      → Task D s ls R g st clauses sets quantifiers statuses cs cl qs ql table k p → Opened D s R p sat marks
      → k < length D → suc k ≡ p.at → value ≡ byte_of b
      → Result D g ls (visit_of D R p (s ▹ b) st) p r clauses area cs' cl' qs' ql' table'

-- at an open node
pub record Followed (p : Position) (r : Answer)
    (clauses sets quantifiers statuses cs cl qs ql table sat marks area cs' cl' qs' ql' table' : List ℕ) : Type 0 where
  pub result : (D : Prefix) (s : Node) (ls : List Node) (R : List Clause) (g : Ledger) (st : Store)
      → Task D s ls R g st clauses sets quantifiers statuses cs cl qs ql table p.at p → Opened D s R p sat marks
      → Result D g ls (below_of D R p s st) p r clauses area cs' cl' qs' ql' table'

-- at a node: an open one at the start, else the inner node of the position
pub record Reached (start : Bool) (p : Position) (r : Answer)
    (clauses sets quantifiers statuses cs cl qs ql table sat marks area cs' cl' qs' ql' table' : List ℕ) : Type 0 where
  pub followed : start ≡ true → Followed p r clauses sets quantifiers statuses cs cl qs ql table sat marks area cs' cl' qs' ql' table'
  pub visited : start ≡ false → Visited p r clauses sets quantifiers statuses cs cl qs ql table sat marks area cs' cl' qs' ql' table'

-- ---- steps 1 to 4
abbrev pub is_open : Leaf → Bool
is_open (No b) = false
is_open (Yes b) = false
is_open Open = true

-- the answer of the node that they decide; an open one has none yet
abbrev pub concluded_of : Leaf → Position → Answer
concluded_of (No b) p = record { verdict = verdict.No; source = b.source; start = b.start; len = b.len; budget = p.budget - 1; lines = p.lines; inside = b.inside }
concluded_of (Yes b) p = record { verdict = verdict.Yes; source = b.source; start = b.start; len = b.len; budget = p.budget - 1; lines = p.lines; inside = b.inside }
concluded_of Open p = record { verdict = verdict.Mixed; source = Area; start = 0; len = 0; budget = 0; lines = p.lines; inside = nowhere }
