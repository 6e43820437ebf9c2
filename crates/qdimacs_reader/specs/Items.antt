-- What the answer of a word says.
use Rattle.std.specs.Prelude.{◌≡◌, ℤ, Option as Answer, Some, None}
use Rattle.std.proofs.Math.Option.{Option, none, some}
use Rattle.qbf.specs.Formula.{Literal}
use Rattle.reader.specs.Items.{narrowed}

-- the literal of a word, narrowed
abbrev pub LiteralRead : Option Literal → Answer ℤ → Type 0
LiteralRead o None = o ≡ none
LiteralRead o (Some x) = (l : Literal) × (o ≡ some l) × (x ≡ narrowed l)
