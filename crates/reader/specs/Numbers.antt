-- What the answer of a word as a number says.
use Rattle.std.specs.Prelude.{ℕ, ◌≡◌}
use Rattle.std.specs.Prelude.{Option as Answer, Some, None}
use Rattle.std.specs.Borrow.{Bor}
use Rattle.std.proofs.Math.Option.{Option, none, some}
use Rattle.layout.specs.Words.{Bytes, closed}

abbrev pub num_of : Answer ℕ → Option ℕ
num_of (Some v) = some v
num_of None = none

-- what stands before a closing bracket
abbrev pub UnclosedOf : Bytes → Answer (Bor Bytes) → Type 0
UnclosedOf w (Some v) = closed w ≡ some v.now
UnclosedOf w None = closed w ≡ none
