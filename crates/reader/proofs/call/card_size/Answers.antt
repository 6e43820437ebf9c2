-- `card_size` meets its contract: no word, or those that are left read as one.
use mathlib.Core.Path.{ap, sym, ◌∙◌}
use Rattle.std.specs.Prelude.{Option as Answer}
use Rattle.std.specs.Borrow.{Bor}
use Rattle.layout.specs.Words.{Bytes, space}
use Rattle.layout.specs.Forms.{then}
use Rattle.layout.specs.Program.{table_bytes}
use Rattle.layout.specs.Endings.{within}
use Rattle.reader.specs.Calls.{card_size}
use Rattle.reader.specs.Pieces.{pieces}
use Rattle.reader.proofs.Calls.{size_read}
use Rattle.reader.proofs.call.card_size.Goals as goal

pub returns-in-Some : goal.returns-in-Some
returns-in-Some c = c.read_up_to.ensures ∙ size_read _ ∙ ap (λ (l : Answer (Bor Bytes)). then (card_size (pieces space l)) (within table_bytes)) (sym c.in-Some.is)
