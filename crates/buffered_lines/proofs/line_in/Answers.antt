-- `buffered_lines::line_in` meets its contract.
use Rattle.buffered_lines.proofs.Cuts.{line_cut}
use Rattle.buffered_lines.proofs.line_in.Goals as goal

pub returns : goal.returns
returns c = line_cut c.args.text.now c.cut.result.0.now c.cut.result.1 c.cut.ensures c.in_ok-left.field-0 (c.in_ok-left.was {u = tt})
