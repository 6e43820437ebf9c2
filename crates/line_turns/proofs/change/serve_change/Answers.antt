-- `serve_change` meets its contract.
use Rattle.line_turns.proofs.Turns.{change_turned}
use Rattle.line_turns.proofs.change.serve_change.Goals as goal

pub returns-clause-turned : goal.returns-clause-turned
returns-clause-turned c =
    change_turned c.args.cells.now c.args.literals.now c.args.change c.args.at.number c.make-made.result c.make-made.new.cells c.make-made.new.literals c.args.at.shown c.card_left-left.result c.make-made.ensures c.refusal_of-refusal.ensures c.card_left-left.ensures c.put_done-length.ensures.wrote
