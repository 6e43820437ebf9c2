-- `printing::print_text` meets its contract.
use Rattle.qbf.specs.Formula.{capped}
use Rattle.theory.proofs.Widths.{capped_ok}
use Rattle.text_cards.proofs.Texts.{text_refused, text_printed}
use Rattle.text_cards.proofs.printing.print_text.Goals as goal

pub returns-in-Ok-clause-printed : goal.returns-in-Ok-clause-printed
returns-in-Ok-clause-printed c =
    text_printed (capped c.args.limits.numbers c.args.limits.clauses) c.args.text.now (capped_ok c.args.limits.numbers c.args.limits.clauses) c.in-Ok.ensures c.print_opened.ensures.printed

pub returns-in-Err-clause-printed : goal.returns-in-Err-clause-printed
returns-in-Err-clause-printed c =
    text_refused (capped c.args.limits.numbers c.args.limits.clauses) c.args.text.now c.in-Err.refused c.in-Err.ensures c.number.ensures c.refuse.ensures.wrote
