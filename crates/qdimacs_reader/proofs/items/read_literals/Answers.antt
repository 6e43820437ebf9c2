-- `read_literals`: each turn reads the literal of a word that another follows.
use mathlib.Core.Path.{ap, ◌∙◌}
use mathlib.Core.Bool.{Bool}
use borrow.Author.Rules.{rules}
use lib.ListN.{set}
use Rattle.std.specs.Bool.{then_some}
use Rattle.reader.proofs.Narrowed.{back16}
use Rattle.qdimacs_reader.proofs.Literals.{gather_none, gather_over, gather_last, gather_bad, gather_more}
use Rattle.qdimacs_reader.proofs.items.read_literals.Goals as goal

pub returns-in_err-item : goal.returns-in_err-item
returns-in_err-item c = rw c.from_residual.ensures (gather_over _ _ c.in_err-item.ensures)

pub loop-next-init : goal.loop-next-init
loop-next-init c = gather_none _ _ c.in_ok-item.ensures

pub returns-in_err-x : goal.returns-in_err-x
returns-in_err-x c = rw c.from_residual-in_err-x.ensures (gather_bad c.loop-next.invariant c.in-Some.ensures c.in_err-x.ensures)

pub loop-next-preserved : goal.loop-next-preserved
loop-next-preserved c = gather_more c.loop-next.invariant c.in-Some.ensures _ c.in_ok-x.ensures
    (c.put.ensures ∙ ap (set c.loop-next.out c.loop-next.n) (back16 (search rules)))

pub returns : goal.returns
returns c = gather_last c.loop-next.invariant c.in_default.ensures (c.then_some.ensures ∙ ap (λ (t : Bool). then_some t c.loop-next.n) c.is_zero.ensures)
