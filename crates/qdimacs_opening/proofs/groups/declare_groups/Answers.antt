-- `declare_groups`: each turn declares the variable of one place more.
use native.Mathlib.Omega.{arith}
use Rattle.qdimacs_opening.proofs.Building.{group_declarable, group_built, groups_built}
use Rattle.qdimacs_opening.proofs.groups.declare_groups.Goals as goal

pub declare-requires : goal.declare-requires
declare-requires c =
    let (start, F, D, ready) = c.requires in
    group_declarable ready (omega (arith, c.loop-i-test.true, c.count-i-end.ensures)) (c.loop-i.invariant start F D ready) c.kind_at-kind.ensures c.entry.ensures

pub loop-i-preserved : goal.loop-i-preserved
loop-i-preserved c = λ start F D ready. group_built ready (omega (arith, c.loop-i-test.true, c.count-i-end.ensures)) (c.loop-i.invariant start F D ready) c.kind_at-kind.ensures c.entry.ensures c.declare.ensures

pub returns : goal.returns
returns c = λ start F D ready. groups_built ready (omega (arith, c.loop-i-test.false, c.count-i-end.ensures)) (c.loop-i.invariant start F D ready)
