-- What a call on a checked state answers, and what it leaves of the learned constraints: the shelves have them all, or they are as they were.
use Rattle.std.specs.Prelude.{ℕ, ◌≡◌, true, length, get_or, Option, Some, None}
use Rattle.qbf.specs.Formula.{Limits}
use Rattle.qbf.specs.Learning.{Store}
use Rattle.qbf.specs.Calls.{Call, Stepped, guarded, store_is_ok}
use Rattle.qbf.specs.Demands.{AfterSearch, refusal_of}
use Rattle.std.proofs.Math.Option.{some}
use Rattle.tables.specs.Records.{StoreKept}
use Rattle.state.specs.State.{State}
use Rattle.state.specs.Reading.{own, prefix_in, formula_under, records_of, store_under, state_under}
use Rattle.state.specs.Lent.{parts_state}
use Rattle.serving.specs.Serves.{Said, said_of}
use Rattle.search_entry.specs.declared.Learned.{Learned}
use Rattle.searching.specs.declared.given.Given.{Given}
use Rattle.searching.specs.Run.{clauses_in, store_in, learned_count}
use Rattle.asking.specs.declared.checked.Checked.{Checked}

abbrev pub limits_of : Checked → Limits
limits_of c = own c.numbers c.clauses

abbrev pub state_of : Checked → State
state_of c = parts_state c.parts

-- what a search reads of it
pub record GivenOf (c : Checked) (g : Given) : Type 0 where
  pub numbers : g.numbers.now ≡ c.parts.variables.numbers.now
  pub clauses : clauses_in g ≡ (formula_under (limits_of c) (state_of c)).clauses
  pub stored : store_in g (records_of (state_of c).learned_clause_sizes) ≡ store_under (limits_of c) (state_of c)
  pub learned : learned_count g ≡ get_or (state_of c).learned_clause_sizes 0 0

-- the shelves have the learned constraints of the store z, which is well formed; the records are those of the ledger
pub record Shelved (L : Limits) (x : State) (z : Store) (l : Learned) : Type 0 where
  pub kept : StoreKept (prefix_in x) (record { clauses = length (formula_under L x).clauses; before = records_of x.learned_clause_sizes }) z l.clauses.cells.now l.clauses.links.now l.cubes.cells.now l.cubes.links.now
  pub formed : store_is_ok L (prefix_in x) z ≡ true

-- the definitions' call on the state
abbrev pub called : Limits → State → Call → Stepped
called L x c = guarded true (state_under L x) c

-- .. after the call c; only then may a refusal leave another state than the one given
pub record ShelvedBy (L : Limits) (x : State) (c : Call) (l : Learned) : Type 0 where
  pub shelved : Shelved L x (called L x c).state.store l
  pub searched : (n : ℕ) → refusal_of (called L x c).out.reply ≡ some n → AfterSearch n

abbrev pub LeftBy : Limits → State → Call → Option Learned → Type 0
LeftBy L x c None = (called L x c).state ≡ state_under L x
LeftBy L x c (Some l) = ShelvedBy L x c l

pub record Answered (L : Limits) (x : State) (c : Call) (a : Said) (o : Option Learned) : Type 0 where
  pub said : a ≡ said_of (called L x c).out
  pub formula : (called L x c).state.formula ≡ formula_under L x
  pub left : LeftBy L x c o

abbrev pub AnsweredOn : Checked → Call → Said → Option Learned → Type 0
AnsweredOn c call a o = Answered (limits_of c) (state_of c) call a o
