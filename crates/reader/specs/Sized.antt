-- A call's line with the size of its table.
use Rattle.std.specs.Prelude.{ℕ, Option as Answer, Some, None}
use Rattle.reader.specs.declared.call.CallLine.{CallLine}
use Rattle.reader.specs.declared.call.CallLine.TheVariants as line

-- only a closest reading has it in an item of its own
abbrev pub sized_line : CallLine → ℕ → Answer CallLine
sized_line (line.Closest n whole) size = Some (line.Closest n size)
sized_line (line.Query n) size = None
sized_line (line.Card bytes) size = None
sized_line (line.KeepCard bytes) size = None
sized_line (line.Rule n) size = None
sized_line line.Forget size = None
sized_line line.Withdraw size = None
sized_line (line.One n) size = None
