-- What the code's answers say: verdicts and the constraint that goes up, the tables of a node, step 5, and the lines of a card.
use Rattle.std.specs.Prelude.{ℕ, zero, suc, ◌+◌, ◌-◌, ◌≤◌, ◌<◌, ◌≡◌, Bool, true, false, cond, not, List, [], ◌∷◌, ◌++◌, length, get_or}
use Rattle.qbf.specs.Formula.{paper, highest, Quantifier, Prefix, Clause, Node, ◌▹◌}
use Rattle.qbf.specs.Truth.{Outcome, DecidedNode, decided, mixed, decided_nodes, select}
use Rattle.qbf.specs.Learning.{Constraint, Store, goes_up, after_both, resolvent, last_place, LearningResult}
use Rattle.qbf.specs.Calls.{in_order}
use Rattle.tables.specs.Codes.{code_at, codes, last_code, Statuses, Quantified}
use Rattle.tables.specs.Shelves.{code_count, newest_of}
use Rattle.tables.specs.Records.{Ledger, StoreKept}
use Rattle.cover.specs.Cover.{Covers}
use Rattle.search_entry.specs.Entry.{entry_at}
use Rattle.search_entry.specs.Within.{nowhere}
use Rattle.search_entry.specs.declared.Source.TheVariants.{Area}
use Rattle.search_entry.specs.declared.bounds.Bounds.{Bounds}
use Rattle.node.specs.declared.Verdict.{Verdict}
use Rattle.node.specs.declared.Verdict.TheVariants.{Yes, No, Mixed}
use Rattle.node.specs.declared.answer.Answer.{Answer}

-- ---- verdicts
-- the verdict is p: Yes where that is true, No where it is false
abbrev pub is_of : Bool → Verdict → Bool
is_of p Yes = p
is_of p No = not p
is_of p Mixed = false

abbrev pub is_mixed : Verdict → Bool
is_mixed Yes = false
is_mixed No = false
is_mixed Mixed = true

-- ---- the constraint that goes up
abbrev pub bounds_of : Answer → Bounds
bounds_of r = record { source = r.source; start = r.start; len = r.len; inside = r.inside }

-- the answer with other bounds; Mixed, which has no constraint
abbrev pub rebound_of : Answer → Bounds → Answer
rebound_of r b = record { verdict = r.verdict; source = b.source; start = b.start; len = b.len; budget = r.budget; lines = r.lines; inside = b.inside }

abbrev pub mixed_of : Answer → Answer
mixed_of r = record { verdict = Mixed; source = Area; start = 0; len = 0; budget = r.budget; lines = r.lines; inside = nowhere }

-- the learned constraints of a verdict's polarity
abbrev pub stored_by : Verdict → List ℕ → List ℕ → List ℕ
stored_by Yes cs qs = qs
stored_by No cs qs = cs
stored_by Mixed cs qs = cs

-- its codes: that part of the clauses, of the learned constraints, or of the area
abbrev pub entry_of : Answer → List ℕ → List ℕ → List ℕ → List ℕ → List ℕ
entry_of r clauses cs qs area = entry_at (bounds_of r) clauses (stored_by r.verdict cs qs) area

-- the outcome o has the verdict, with the constraint of the codes cs where it is Yes or No
abbrev pub Reads : Prefix → Verdict → List ℕ → Outcome Constraint → Type 0
Reads D Yes cs o = (e : Constraint) × (o ≡ decided true e) × (cs ≡ codes D e)
Reads D No cs o = (e : Constraint) × (o ≡ decided false e) × (cs ≡ codes D e)
Reads D Mixed cs o = (ds : List DecidedNode) × (o ≡ mixed ds)

-- what comes up from a node of p places: a constraint in place order, none of them beyond the node
abbrev pub Ended : Prefix → ℕ → Outcome Constraint → Type 0
Ended D p (decided v e) = (in_order D 0 e ≡ true) × (last_place D e ≤ p)
Ended D p (mixed ds) = Unit {0}

-- ---- the tables
-- the tables show the prefix D and the node s of length k
pub record Shown (D : Prefix) (s : Node) (quantifiers statuses : List ℕ) (k : ℕ) : Type 0 where
  pub quantified : Quantified D quantifiers
  pub statused : Statuses s statuses
  pub long : length s ≡ k
  pub within : length s ≤ length D

-- ---- step 5
-- whether the off side's outcome goes up without a further visit
abbrev pub goes_up_of : Prefix → Quantifier → ℕ → Outcome Constraint → Bool
goes_up_of D κ p (decided b e) = goes_up D κ p b e
goes_up_of D κ p (mixed ds) = false

-- what both sides give where it does not
abbrev pub onward_of : Prefix → List Clause → Quantifier → Node → Outcome Constraint → Outcome Constraint → Store → ℕ → LearningResult
onward_of D R κ s (decided b e) o st n = after_both paper D R κ s b e o st n
onward_of D R κ s (mixed ds) o st n = record { outcome = mixed (ds ++ decided_nodes (s ▹ true) o); store = st; visits = n }

-- ---- lines of a card
-- the lines of the verdict p that an outcome adds before it goes up: those of its decided nodes, where it is Mixed
abbrev pub new_lines : Bool → Outcome Constraint → List Node
new_lines p (decided v e) = []
new_lines p (mixed ds) = select p ds

-- ---- what the small functions of step 5 say
-- the quantifier of the next place, by the table; 3 where none is left
pub record NextKind (quantifiers : List ℕ) (at r : ℕ) : Type 0 where
  pub more : at < highest.numbers → r ≡ get_or quantifiers (code_at (suc at) false) 0
  pub none : highest.numbers ≤ at → r ≡ 3

-- the resolvent of the two sides' constraints, where both are decided
abbrev pub resolvent_of : Prefix → ℕ → Outcome Constraint → Outcome Constraint → Constraint
resolvent_of D p (decided b e) (decided c f) = resolvent D p c e f
resolvent_of D p (decided b e) (mixed ds) = []
resolvent_of D p (mixed ds) o = []

-- the constraint has room in a slot, and its last code a link
abbrev pub Fits : Prefix → Constraint → Type 0
Fits D e = (length e ≤ highest.numbers) × (last_code (codes D e) < code_count)

-- both sides done: the counts are the on side's
pub record Finished (on r : Answer) : Type 0 where
  pub budget : r.budget ≡ on.budget
  pub lines : r.lines ≡ on.lines

pub record Joined (D : Prefix) (g : Ledger) (o : LearningResult) (r : Answer) (clauses area cs cl qs ql : List ℕ) : Type 0 where
  pub verdict : Reads D r.verdict (entry_of r clauses cs qs area) o.outcome
  pub stored : StoreKept D g o.store cs cl qs ql

-- at most one row more on each shelf
pub record Grown (cl ql cl' ql' : List ℕ) : Type 0 where
  pub clauses : newest_of cl' ≤ suc (newest_of cl)
  pub cubes : newest_of ql' ≤ suc (newest_of ql)

-- the tables show what a line of a node of `at` places is written from, where there are so many free variables and lines
pub record LineTask (s : Node) (ls : List Node) (statuses table : List ℕ) (at free lines : ℕ) : Type 0 where
  pub statused : Statuses s statuses
  pub long : length s ≡ at
  pub inside : at < free
  pub covers : Covers free table ls
  pub counted : lines ≡ length ls

-- whether a side is a line by itself, by the quantifier's code, that of a free variable being 0, and the verdict p of the lines
abbrev pub lined_of : ℕ → Bool → Verdict → Bool
lined_of zero p v = is_of p v
lined_of (suc k) p v = false

-- the lines where both sides are done, by whether each was one: two take the off side's line back, else the on side adds its own
abbrev pub settled_lines : Bool → Bool → ℕ → ℕ
settled_lines a true n = cond a (n - 1) (n + 1)
settled_lines a false n = n

abbrev pub SettledTo : Bool → Bool → Node → List Node → ℕ → List ℕ → Type 0
SettledTo a true s ls f table = cond a ((ms : List Node) (x : Node) → ls ≡ ms ++ (x ∷ []) → Covers f table ms) (Covers f table (ls ++ ((s ▹ true) ∷ [])))
SettledTo a false s ls f table = Covers f table ls
