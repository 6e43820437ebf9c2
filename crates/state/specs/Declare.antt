-- Declaring one variable more, at the end of the prefix. Paper 01, "Refusals from the input", 3 and 4.
use Rattle.std.specs.Prelude.{ℕ, zero, suc, ◌≤◌, ◌≡◌, true, not, ◌&&◌, ◌||◌, List, [], ◌∷◌, ◌++◌, leb, ltb, eqb}
use Rattle.std.proofs.Math.Option.{Option, none, some}
use Rattle.qbf.specs.Formula.{Limits, most_free, Quantifier, forall, is_free, Variable, Prefix, quantifiers, place_of, level_beside}
use Rattle.qbf.specs.Truth.{free_variables}
use Rattle.qbf.specs.Calls.{given, ◌or_else◌, numbers_are_ok, free_first}
use Rattle.tables.specs.Views.{quantifier_code}
use Rattle.state.specs.Reading.{quantifier_of, entry_at, prefix_of}
use Rattle.state.specs.Derived.{code_for, levels_are_ok}

abbrev pub variable : Quantifier → ℕ → Variable
variable κ n = record { number = n; quantifier = κ }

-- "3 number not 1 to 40", "4 declared twice"
abbrev pub variable_fault : Limits → Prefix → ℕ → Option ℕ
variable_fault L D n = given (eqb n 0 || ltb L.numbers n) 3 or_else given (not (eqb (place_of D n) 0)) 4

-- "Declaring a 41st flag is 33, checked after 4": under limits of no more than 40 numbers there is none (law `none_crowded`)
abbrev pub declare_fault : Limits → Prefix → Quantifier → ℕ → Option ℕ
declare_fault L D κ n = variable_fault L D n or_else given (is_free κ && leb most_free (free_variables D)) 33

abbrev pub with_variable : Option ℕ → Prefix → Quantifier → ℕ → Prefix
with_variable none D κ n = D ++ (variable κ n ∷ [])
with_variable (some k) D κ n = D

-- the level of a place; 0 where there is none
abbrev pub level_for : List ℕ → ℕ → ℕ
level_for ls zero = 0
level_for ls (suc i) = entry_at ls i

-- the level that a code gives after p places
abbrev pub next_level : List ℕ → List ℕ → ℕ → ℕ → ℕ
next_level ls ks p kind = level_beside (level_for ls p) (quantifier_of (code_for ls ks p)) (quantifier_of kind)

pub record Growing (ls ks : List ℕ) (p kind : ℕ) : Type 0 where
  pub beside : code_for ls ks p ≤ quantifier_code forall
  pub code : kind ≤ quantifier_code forall

-- the tables by place show a well-formed prefix
pub record SoundUnder (L : Limits) (ns ls ks : List ℕ) : Type 0 where
  pub numbers_ok : numbers_are_ok L [] (prefix_of ns ls ks) ≡ true
  pub levels_ok : levels_are_ok L ns ls ks ≡ true

-- a variable of this quantifier may stand after those that are declared: the free variables come first
pub record DeclarableUnder (L : Limits) (ns ls ks : List ℕ) (kind : ℕ) : Type 0 where
  pub sound : SoundUnder L ns ls ks
  pub code : kind ≤ quantifier_code forall
  pub next : free_first (quantifiers (prefix_of ns ls ks) ++ (quantifier_of kind ∷ [])) ≡ true
