-- `declare_groups`: each turn declares the variable of one place more.
use Rattle.std.proofs.Common.{List, ℕ, ◌++◌, take}
use Rattle.qbf.specs.Formula.{Prefix}
use Rattle.state_parts.specs.Layout.{limits_in}
use Rattle.qdimacs_opening.specs.Built.{Built, GroupsReady}
use Rattle.qdimacs_opening.proofs.groups.declare_groups.Given as goal

abbrev pub invariant-loop-i : goal.invariant-loop-i
invariant-loop-i l = (start : List ℕ) (F D : Prefix) → GroupsReady (limits_in l.layout) start F D l.initial.cells l.more.numbers.now l.more.levels.now l.more.kinds.now → Built (limits_in l.layout) start (F ++ take l.i D) l.cells
