-- `read_items` meets its contract: the loop has read the first literals, and keeps as many as the table holds.
use mathlib.Core.Path.{ap, ◌∙◌}
use borrow.Author.Rules.{rules}
use lib.ListN.{set}
use Rattle.reader.proofs.Narrowed.{back16}
use Rattle.reader.proofs.Literals.{read_none, read_bad, read_more, read_end}
use Rattle.reader.proofs.items.read_items.Goals as goal

pub loop-left-init : goal.loop-left-init
loop-left-init c = read_none _ _ _

pub returns-in_err-item : goal.returns-in_err-item
returns-in_err-item c = rw c.from_residual.ensures (read_bad c.loop-left.invariant c.in-Some.is c.in_err-item.ensures)

pub loop-left-preserved : goal.loop-left-preserved
loop-left-preserved c = let stored = c.put.ensures ∙ ap (set c.loop-left.out c.loop-left.n) (back16 (search rules)) in
    read_more c.loop-left.invariant c.in-Some.is _ c.in_ok-item.ensures.0 c.in_ok-item.ensures.1 stored

pub returns : goal.returns
returns c = read_end c.loop-left.invariant c.in_default.is
