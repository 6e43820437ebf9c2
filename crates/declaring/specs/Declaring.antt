-- One variable more in the cells of a state in two lent tables. The prefix stands in the cells alone, before the sizes of the clauses.
use Rattle.std.specs.Prelude.{ℕ, suc, ◌≤◌, ◌≡◌, true, List, length, drop, get_or, Result, Ok, Err}
use Rattle.std.proofs.Math.Option.{Option, none, some}
use Rattle.qbf.specs.Formula.{Limits, Prefix}
use Rattle.qbf.specs.Calls.{free_is_ok}
use Rattle.refusal.specs.declared.Refusal.{Refusal}
use Rattle.refusal.specs.Refusal.{number_of}
use Rattle.state.specs.Reading.{quantifier_of, prefix_of}
use Rattle.state.specs.Declare.{declare_fault, with_variable, next_level, SoundUnder, DeclarableUnder}
use Rattle.state_parts.specs.Parts.{part, limits_of, by_number, numbers_at, levels_at, kinds_at, clause_sizes_at}
use Rattle.declaring.specs.declared.Next.{Next}

-- ---- the tables by place
abbrev pub numbers_in : Limits → List ℕ → List ℕ
numbers_in L cells = part numbers_at (by_number L) cells

abbrev pub levels_in : Limits → List ℕ → List ℕ
levels_in L cells = part (levels_at L) (by_number L) cells

abbrev pub kinds_in : Limits → List ℕ → List ℕ
kinds_in L cells = part (kinds_at L) (by_number L) cells

abbrev pub prefix_at : Limits → List ℕ → Prefix
prefix_at L cells = prefix_of (numbers_in L cells) (levels_in L cells) (kinds_in L cells)

abbrev pub SoundAt : Limits → List ℕ → Type 0
SoundAt L cells = SoundUnder L (numbers_in L cells) (levels_in L cells) (kinds_in L cells)

-- the cells hold the tables by place, which show a well-formed prefix, and a variable of this quantifier may follow
pub record DeclarableAt (L : Limits) (cells : List ℕ) (kind : ℕ) : Type 0 where
  pub room : clause_sizes_at L ≤ length cells
  pub may : DeclarableUnder L (numbers_in L cells) (levels_in L cells) (kinds_in L cells) kind
  pub few : free_is_ok (prefix_at L cells) ≡ true

-- the limits, and what stands behind the tables by place, are as they were
pub record Beside (L : Limits) (cells cells' : List ℕ) : Type 0 where
  pub long : length cells' ≡ length cells
  pub limits : limits_of cells' ≡ limits_of cells
  pub behind : drop (clause_sizes_at L) cells' ≡ drop (clause_sizes_at L) cells

-- the place and the level that follow, or the fault
abbrev pub NextFor : Limits → List ℕ → ℕ → ℕ → Result Next Refusal → Type 0
NextFor L cells n kind (Ok x) =
    (declare_fault L (prefix_at L cells) (quantifier_of kind) n ≡ none)
    × (x.place.0 ≡ suc (get_or (numbers_in L cells) 0 0))
    × (x.level.0 ≡ next_level (levels_in L cells) (kinds_in L cells) (get_or (numbers_in L cells) 0 0) kind)
NextFor L cells n kind (Err q) = declare_fault L (prefix_at L cells) (quantifier_of kind) n ≡ some (number_of q)

-- o is the fault, if there is one
pub record DeclaredAt (L : Limits) (cells : List ℕ) (n kind : ℕ) (o : Option ℕ) (cells' : List ℕ) : Type 0 where
  pub refusal : declare_fault L (prefix_at L cells) (quantifier_of kind) n ≡ o
  pub prefix : prefix_at L cells' ≡ with_variable o (prefix_at L cells) (quantifier_of kind) n
  pub sound : SoundAt L cells'
  pub few : free_is_ok (prefix_at L cells') ≡ true
  pub beside : Beside L cells cells'
