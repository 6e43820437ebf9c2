-- `last_item` meets its contract: no word, more than one, or a number with a closing bracket.
use mathlib.Core.Path.{subst, sym, ap, ◌∙◌}
use Rattle.std.specs.Prelude.{Option as Answer}
use Rattle.std.specs.Borrow.{Bor}
use Rattle.layout.specs.Words.{Bytes, space}
use Rattle.layout.specs.Endings.{number_up_to, last_item}
use Rattle.reader.specs.Pieces.{pieces, Cut}
use Rattle.reader.proofs.Endings.{item_more}
use Rattle.reader.proofs.ending.last_item.Goals as goal

pub returns-in-Some : goal.returns-in-Some
returns-in-Some c = item_more (number_up_to c.args.limit.digits c.args.limit.top) (subst (Cut space _ _) c.in-Some.is c.cut.ensures)
    ∙ ap (λ (l : Answer (Bor Bytes)). last_item (number_up_to c.args.limit.digits c.args.limit.top) (pieces space l)) (sym c.in_ok-left.was)
