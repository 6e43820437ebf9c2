-- `page::row::line_row` meets its contract. The row has the number, and the flags passed.
use native.Mathlib.Omega.{arith}
use mathlib.Core.Path.{ap, ◌∙◌}
use lib.ListN.{length-set, length-take}
use lib.Seq.{get_or-take}
use Rattle.layout.specs.Page.{sign_of}
use Rattle.page.proofs.Cells.{flags_more, flags_all, whole_row}
use Rattle.page.proofs.row.line_row.Goals as goal

pub loop-i-preserved : goal.loop-i-preserved
loop-i-preserved c = (
  c.loop-i.invariant.0,
  simp length-set c.loop-i.invariant.1,
  flags_more c.args.numbered.number c.args.line.now c.loop-i.row c.loop-i.i _ c.sign.result (omega arith) (omega (arith, c.loop-i-test.true, c.loop-i.invariant.0)) (omega (arith, c.loop-i-test.true, c.loop-i.invariant.0)) (c.sign.ensures ∙ ap sign_of (get_or-take c.shown.result c.args.line.now c.loop-i.i 0 (omega (arith, c.loop-i-test.true, length-take c.shown.result c.args.line.now)))) c.loop-i.invariant.2,
)

pub returns : goal.returns
returns c = flags_all c.args.numbered.number c.args.line.now c.loop-i.row c.loop-i.i (omega (arith, c.loop-i-test.false, c.loop-i.invariant.0)) c.loop-i.invariant.2
    ∙ whole_row c.args.numbered.number c.args.line.now c.args.numbered.shown.0 c.args.numbered.shown.1
