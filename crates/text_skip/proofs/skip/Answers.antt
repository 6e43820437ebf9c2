-- `skip` meets its contract: byte by byte.
use native.Mathlib.Omega.{arith}
use mathlib.Core.Path.{sym, ◌∙◌}
use Rattle.text_skip.proofs.Skipping.{skip_byte, skip_end, skip_line, skip_over}
use Rattle.text_skip.proofs.skip.Goals as goal
use Rattle.text_skip.proofs.skip.Goals.{then-b-ne-NEWLINE, else-b-ne-NEWLINE+else-here-eq5}

pub returns-then-here-eq5 : goal.returns-then-here-eq5
returns-then-here-eq5 c = sym (c.loop-i.invariant ∙ skip_end c.args.text.now c.loop-i.i c.loop-i.here (omega arith) c.if-b-ne-NEWLINE.false c.if-here-eq5.true)

pub loop-i-preserved : goal.loop-i-preserved
loop-i-preserved c =
    elim c.if-b-ne-NEWLINE.branch [
      | then-b-ne-NEWLINE w ↦ c.loop-i.invariant ∙ skip_byte c.args.text.now c.loop-i.i c.loop-i.here c.if-b-ne-NEWLINE.here (omega arith) w.if-b-ne-NEWLINE.true (w.here-is ∙ w.next_seen-here.ensures)
      | else-b-ne-NEWLINE+else-here-eq5 w ↦ c.loop-i.invariant ∙ skip_line c.args.text.now c.loop-i.i c.loop-i.here c.if-b-ne-NEWLINE.here (omega arith) w.if-b-ne-NEWLINE.false w.if-here-eq5.false w.here-is
    ]

pub returns : goal.returns
returns c = sym (c.loop-i.invariant ∙ skip_over c.args.text.now c.loop-i.i c.loop-i.here (omega arith))
