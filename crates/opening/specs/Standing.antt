-- What stands in the two tables of a state while the lines of a text are read.
use Rattle.std.specs.Prelude.{ℕ, ◌≡◌, List, ℤ}
use Rattle.std.proofs.Math.Option.{some}
use Rattle.qbf.specs.Formula.{Limits, Formula}
use Rattle.qbf.specs.Runs.{fresh}
use Rattle.state.specs.Reading.{formula_under}
use Rattle.state_parts.specs.Parts.{limits_of, state_at, read_at}
use Rattle.layout_laws.proofs.Opened.{Reached}

-- the formula under its own limits
abbrev pub formula_at : List ℕ → List ℤ → Formula
formula_at cells literals = formula_under (limits_of cells) (state_at cells literals)

-- a formula that lines up to a stage have built under these limits, and nothing is stored
pub record Standing (L : Limits) (stage : ℕ) (cells : List ℕ) (literals : List ℤ) : Type 0 where
  pub limits : limits_of cells ≡ L
  pub read : read_at cells literals ≡ some (fresh (formula_at cells literals))
  pub reached : Reached stage (formula_at cells literals)
