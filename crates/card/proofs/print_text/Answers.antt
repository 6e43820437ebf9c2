-- `print_text` meets its contract: the tables that it is lent are of the programs' sizes.
use native.Mathlib.Omega.{arith}
use Rattle.text_cards.proofs.Ample.{card_ample}
use Rattle.card.proofs.print_text.Goals as goal

pub returns : goal.returns
returns g c =
    (c.print_card-written.result, card_ample c.args.limits.numbers c.args.limits.clauses c.args.cells.now c.args.literals.now (omega arith) (omega arith) c.args.text.now c.print_card-written.ensures)
