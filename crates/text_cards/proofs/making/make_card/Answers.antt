-- `making::make_card` meets its contract.
use lib.ListN.{length}
use Rattle.qbf.specs.Formula.{capped}
use Rattle.theory.proofs.Widths.{capped_ok}
use Rattle.text_cards.proofs.Texts.{text_made}
use Rattle.text_cards.proofs.making.make_card.Goals as goal

pub returns-in-Ok : goal.returns-in-Ok
returns-in-Ok c =
    text_made (capped c.args.limits.numbers c.args.limits.clauses) c.args.text.now (length c.args.table.now) (capped_ok c.args.limits.numbers c.args.limits.clauses) c.card_of.result c.card_of.new.table c.in-Ok.ensures c.card_of.ensures
