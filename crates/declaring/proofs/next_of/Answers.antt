-- `next_of`: the parts that are lent are those of the cells.
use mathlib.Core.Path.{ap}
use Rattle.refusal.specs.Refusal.{fault_in}
use Rattle.state.specs.State.{State}
use Rattle.state_parts.specs.Layout.{limits_in}
use Rattle.declaring.proofs.Writing.{may_grow_by}
use Rattle.declaring.proofs.next_of.Goals as goal

pub next_level-level-requires : goal.next_level-level-requires
next_level-level-requires c =
    may_grow_by (limits_in c.args.layout) c.args.cells.now c.args.number.0 c.args.kind c.requires
    (ap (λ (x : State). x.numbers) c.parts.ensures) (ap (λ (x : State). x.levels) c.parts.ensures) (ap (λ (x : State). x.kinds) c.parts.ensures)
    c.fault_of.ensures (ap fault_in c.in_ok-fault_of.was) c.count-count.ensures
