-- A call's line with its ceiling, and what the answer of a line says of its call.
use Rattle.std.specs.Prelude.{ℕ, ◌≡◌, List, ℤ, Option as Answer, Some, None}
use Rattle.std.proofs.Math.Option.{Option, none}
use Rattle.qbf.specs.Calls.{Call}
use Rattle.reader.specs.Calls.{CallUnder}
use Rattle.reader.specs.declared.call.CallLine.{CallLine}
use Rattle.reader.specs.declared.call.CallLine.TheVariants as line
use Rattle.reader.specs.declared.ceiling.CeiledLine.{CeiledLine}

-- a call that takes a ceiling, under that; the others are no calls with one
abbrev pub limited_line : CallLine → ℕ → Answer CeiledLine
limited_line (line.Query k) n = Some (record { line = line.Query k; ceiling = n })
limited_line (line.Card size) n = Some (record { line = line.Card size; ceiling = n })
limited_line (line.KeepCard size) n = Some (record { line = line.KeepCard size; ceiling = n })
limited_line (line.Rule k) n = None
limited_line line.Forget n = None
limited_line line.Withdraw n = None
limited_line (line.One k) n = None
limited_line (line.Closest k size) n = Some (record { line = line.Closest k size; ceiling = n })

abbrev pub CeiledRead : Option Call → Answer CeiledLine → List ℤ → Type 0
CeiledRead o None out = o ≡ none
CeiledRead o (Some z) out = CallUnder z.ceiling o z.line out
