-- `open_at` meets its contract.
use Rattle.day_turns.proofs.Opening.{place_opened}
use Rattle.day_turns.proofs.text.open_at.Goals as goal

pub returns : goal.returns
returns c =
    place_opened c.args.t c.args.book.now c.args.kept.now c.args.cells.now c.args.literals.now c.open-opened.result c.cells_at-of_cells.result c.literals_at-of_literals.result c.cells_at-of_cells.ensures c.literals_at-of_literals.ensures
    c.open-opened.new.cells c.open-opened.new.literals c.open-opened.auto.cells c.open-opened.auto.literals c.open-opened.ensures c.is_ok.result c.mark.new.kept c.mark.ensures c.is_ok.ensures.value
