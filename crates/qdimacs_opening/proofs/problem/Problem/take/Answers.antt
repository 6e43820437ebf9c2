-- `take`: a problem takes any line of the form.
use Rattle.qdimacs_opening.proofs.Turns.{line_takes}
use Rattle.qdimacs_opening.proofs.problem.Problem.take.Goals as goal

pub returns : goal.returns
returns c = line_takes c.args.self c.args.cells.now c.args.literals.now c.args.line.now c.take_line.result c.take_line.new.cells c.take_line.new.literals c.take_line.ensures
