-- What a text owes under limits whose state lies in two lent tables. Paper 02, wish 8: "A table of the state shorter than the limits ask is 22".
use Rattle.std.specs.Prelude.{ℕ, List, ℤ}
use Rattle.qbf.specs.Formula.{Limits}
use Rattle.state_parts.specs.Parts.{Whole}

-- A where both tables hold every part of a state under the limits, B where one is too short
pub record IfWhole (L : Limits) (cells : List ℕ) (literals : List ℤ) (A B : Type 0) : Type 0 where
  pub whole : Whole L cells literals → A
  pub short : (Whole L cells literals → ⊥) → B
