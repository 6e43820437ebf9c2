-- `total_item` meets its contract: no word, more than one, or a number.
use mathlib.Core.Path.{sym, ap, ◌∙◌}
use Rattle.std.specs.Prelude.{Option as Answer}
use Rattle.std.specs.Borrow.{Bor}
use Rattle.layout.specs.Words.{Bytes, space}
use Rattle.reader.specs.Pieces.{pieces}
use Rattle.day_text.specs.Lines.{total_item}
use Rattle.day_reader.proofs.Lines.{total_more}
use Rattle.day_reader.proofs.total.total_item.Goals as goal

pub returns-in-Some : goal.returns-in-Some
returns-in-Some c = sym (ap (λ (l : Answer (Bor Bytes)). total_item (pieces space l)) c.in_ok-left.was ∙ total_more c.cut.ensures _ c.in-Some.is)
