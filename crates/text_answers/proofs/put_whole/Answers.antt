-- `put_whole` meets its contract.
use Rattle.text_answers.proofs.Texts.{whole_text}
use Rattle.text_answers.proofs.put_whole.Goals as goal

pub returns-clause-text : goal.returns-clause-text
returns-clause-text c = whole_text c.args.cells.now c.args.literals.now c.args.line c.longest_at.ensures.is c.put_text.ensures.text
