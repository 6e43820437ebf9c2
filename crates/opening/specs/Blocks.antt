-- The variables of one block, declared one after another in the cells of a state.
use Rattle.std.specs.Prelude.{ℕ, zero, suc, ◌≤◌, ◌≡◌, true, List, ◌++◌, length, map, ℤ, Result, OnOk}
use Rattle.qbf.specs.Formula.{Limits, Quantifier, forall, Prefix, quantifiers, number_of}
use Rattle.qbf.specs.Calls.{free_is_ok}
use Rattle.tables.specs.Views.{quantifier_code}
use Rattle.state.specs.Reading.{quantifier_of}
use Rattle.state_parts.specs.Parts.{clause_sizes_at}
use Rattle.declaring.specs.Declaring.{prefix_at, SoundAt, Beside}
use Rattle.refusal.specs.declared.Refusal.{Refusal}
use Rattle.refusal.specs.Refusal.{fault_in}
use Rattle.layout.specs.Opening.{variable, declare_fault}
use Rattle.layout_laws.proofs.Blocks.{Before}

-- the rank of a block with a quantifier's code
abbrev pub block_rank : ℕ → ℕ
block_rank zero = 1
block_rank (suc κ) = 2

-- the prefix with the variables of a block
abbrev pub with_variables : Prefix → Quantifier → List ℤ → Prefix
with_variables D κ ls = D ++ map (variable κ) (map number_of ls)

-- variables with this code may stand after those of the cells
pub record GrowableAt (L : Limits) (cells : List ℕ) (kind : ℕ) : Type 0 where
  pub room : clause_sizes_at L ≤ length cells
  pub sound : SoundAt L cells
  pub few : free_is_ok (prefix_at L cells) ≡ true
  pub code : kind ≤ quantifier_code forall
  pub before : Before (quantifier_of kind) (quantifiers (prefix_at L cells))

pub record GrownAt (L : Limits) (cells : List ℕ) (lits : List ℤ) (kind : ℕ) (r : Result (Unit {0}) Refusal) (cells' : List ℕ) : Type 0 where
  pub fault : declare_fault L (quantifier_of kind) (prefix_at L cells) (map number_of lits) ≡ fault_in r
  pub prefix : OnOk r (prefix_at L cells' ≡ with_variables (prefix_at L cells) (quantifier_of kind) lits)
  pub sound : OnOk r (SoundAt L cells')
  pub few : OnOk r (free_is_ok (prefix_at L cells') ≡ true)
  pub beside : Beside L cells cells'
