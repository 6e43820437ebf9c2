-- What steps 1 to 4 say at an inner node, with the constraint as codes in the tables, by its bounds.
use Rattle.std.specs.Prelude.{ℕ, suc, ◌-◌, ◌*◌, ◌≤◌, ◌<◌, ◌≡◌, Bool, true, false, List, length, take, eqb}
use Rattle.std.specs.Bool.{beq}
use Rattle.std.specs.Int.Bits.{bit_and}
use Rattle.std.proofs.Math.Option.{Option, none, some}
use Rattle.qbf.specs.Formula.{highest, Prefix, Clause, Node, value_at}
use Rattle.qbf.specs.Truth.{Outcome, decided}
use Rattle.qbf.specs.Learning.{Constraint, Store, leaf, first_dead}
use Rattle.shelf.specs.Masks.{bit}
use Rattle.bitset.specs.Rows.{outside}
use Rattle.tables.specs.Codes.{code_at, codes, Statuses, Quantified}
use Rattle.inner.specs.Formed.{Formed}
use Rattle.tables.specs.Shelves.{code_count, StoreShown}
use Rattle.tables.specs.Matrices.{MatrixShown, RowLength}
use Rattle.tables.specs.Sets.{Descended, dying_row}
use Rattle.search_entry.specs.Entry.{entry_at}
use Rattle.search_entry.specs.declared.bounds.Bounds.{Bounds}
use Rattle.inner.specs.declared.Leaf.{Leaf}
use Rattle.inner.specs.declared.Leaf.TheVariants.{No, Yes, Open}
use Rattle.std.specs.Prelude.{Some, None}
use Rattle.std.specs.Prelude as code

-- ---- what is found
-- the constraint that was looked up: its part of the clauses, of the learned constraints of its polarity, or of the area
abbrev pub FoundCoded : Prefix → code.Option Bounds → List ℕ → List ℕ → List ℕ → Option Constraint → Type 0
FoundCoded D (Some b) clauses learned area o = (e : Constraint) × (o ≡ some e) × (entry_at b clauses learned area ≡ codes D e)
FoundCoded D None clauses learned area o = o ≡ none

abbrev pub LeafCoded : Prefix → Leaf → List ℕ → List ℕ → List ℕ → List ℕ → Option (Outcome Constraint) → Type 0
LeafCoded D (No b) clauses cs qs area o = (e : Constraint) × (o ≡ some (decided false e)) × (entry_at b clauses cs area ≡ codes D e)
LeafCoded D (Yes b) clauses cs qs area o = (e : Constraint) × (o ≡ some (decided true e)) × (entry_at b clauses qs area ≡ codes D e)
LeafCoded D Open clauses cs qs area o = o ≡ none

-- ---- what is asked
-- the node s has `at` places, and the code is that of the literal that its last value makes true
pub record LastGiven (s : Node) (at code : ℕ) : Type 0 where
  pub long : length s ≡ at
  pub value : Bool
  pub last : value_at s at ≡ some value
  pub coded : code ≡ code_at at value

-- the word has the bit of each code whose literal has the truth value v at the node s
pub record Worded (s : Node) (v : Bool) (word : ℕ) : Type 0 where
  pub has : (p : ℕ) (b : Bool) → value_at s p ≡ some b → bit_and (bit (code_at p (beq b v))) word ≡ bit (code_at p (beq b v))

-- what the rows of clauses are read by: the place and the code of the value given last, and the words of a row
pub record Inside (at code wc : ℕ) : Type 0 where
  pub inner : 1 ≤ at
  pub within : at ≤ highest.numbers
  pub small : code < code_count
  pub words : RowLength wc

-- a clause, by its index, dies at the node: it can die where the code is given, and was not satisfied above
abbrev pub killing : List ℕ → List ℕ → ℕ → ℕ → ℕ → ℕ → Bool
killing sets sat code at wc = outside sets (dying_row wc code) sat ((at - 1) * wc)

-- The inner node s of k + 1 places: no clause was dead at its parent, and what the parent knows of the clauses is there.
pub record Entered (D : Prefix) (s : Node) (R : List Clause) (wc : ℕ) (sat marks : List ℕ) (k : ℕ) : Type 0 where
  pub long : length s ≡ suc k
  pub inside : suc k ≤ length D
  pub alive : first_dead D (take k s) R ≡ none
  pub known : Descended D s R wc sat marks k

-- the tables show the prefix D, the clauses R, the store st and the node s of `at` places, and the words the literals that are true and false there
pub record NodeShown (D : Prefix) (R : List Clause) (s : Node) (st : Store) (at wc held failed : ℕ) (clauses sets quantifiers statuses cs cl qs ql : List ℕ) : Type 0 where
  pub quantified : Quantified D quantifiers
  pub statused : Statuses s statuses
  pub long : length s ≡ at
  pub matrix : MatrixShown D R wc clauses sets
  pub stored : StoreShown D st cs cl qs ql
  pub formed : Formed D R st
  pub trues : Worded s true held
  pub falses : Worded s false failed

-- ---- what is known of the node after the steps
-- where it is open, its own row and mark too
abbrev pub OpenKnown : Leaf → Prefix → Node → List Clause → ℕ → List ℕ → List ℕ → ℕ → Type 0
OpenKnown (No b) D s R wc sat marks k = Unit {0}
OpenKnown (Yes b) D s R wc sat marks k = Unit {0}
OpenKnown Open D s R wc sat marks k = Descended D s R wc sat marks k

pub record Concluded (D : Prefix) (R : List Clause) (s : Node) (st : Store) (r : Leaf) (wc : ℕ) (clauses cs qs area sat marks : List ℕ) : Type 0 where
  pub read : LeafCoded D r clauses cs qs area (leaf D R eqb s st)
  pub known : OpenKnown r D s R wc sat marks (length s)
