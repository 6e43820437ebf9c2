-- `read_text`: what is left of the text opens what the whole does.
use Rattle.std.proofs.lemmas.Result.{err_from_is_err_and}
use Rattle.opening.proofs.Reading.{line_missing, line_refused, line_taken}
use Rattle.qdimacs_opening.specs.Lines.{problem_unended}
use Rattle.qdimacs_opening.proofs.Turns.{text_ended}
use Rattle.qdimacs_opening.proofs.text.read_text.Goals as goal

pub returns-in_err-line : goal.returns-in_err-line
returns-in_err-line c = let p = err_from_is_err_and c.from_residual.result c.from_residual.ensures.1 in rw (p.1, p.2) (line_missing c.if-text-gt-TEXT.false c.loop-line.invariant c.in-Some.line c.next.new.self.rest.now c.in-Some.ensures.steps problem_unended c.in_err-line.field-0.0 c.in_err-line.ensures)

pub returns-in_err-read : goal.returns-in_err-read
returns-in_err-read c = let p = err_from_is_err_and c.from_residual-in_err-read.result c.from_residual-in_err-read.ensures.1 in rw (p.1, p.2) (line_refused c.if-text-gt-TEXT.false c.loop-line.invariant c.in-Some.line c.next.new.self.rest.now c.in-Some.ensures.steps c.in_ok-line.line c.in_ok-line.ensures c.take.result c.take.new.cells c.take.new.literals c.take.ensures c.in_err-read.field-0.0 c.in_err-read.ensures)

pub loop-line-preserved : goal.loop-line-preserved
loop-line-preserved c = line_taken c.if-text-gt-TEXT.false c.loop-line.invariant c.in-Some.line c.next.new.self.rest.now c.in-Some.ensures.steps c.in_ok-line.line c.in_ok-line.ensures c.take.result c.take.new.cells c.take.new.literals c.take.ensures c.in_ok-read.read c.in_ok-read.ensures

pub returns : goal.returns
returns c = rw c.at-2.ensures (text_ended c.if-text-gt-TEXT.false c.loop-line.invariant c.in-None.ensures.steps c.end.result c.end.new.cells (c.end.ensures c.loop-line.literals c.loop-line.invariant.holds))
