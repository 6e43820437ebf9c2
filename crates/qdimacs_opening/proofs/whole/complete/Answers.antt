-- `complete`: the groups, set aside, and the whole prefix anew.
use mathlib.Core.Path.{refl}
use Rattle.state_parts.specs.Layout.{limits_in}
use Rattle.opening.specs.Standing.{formula_at}
use Rattle.qdimacs_opening.proofs.Completing.{grouped_room, regroupable, completed_at}
use Rattle.qdimacs_opening.proofs.whole.complete.Goals as goal

pub set_aside-groups-requires : goal.set_aside-groups-requires
set_aside-groups-requires c = grouped_room c.requires.1

pub regroup-requires : goal.regroup-requires
regroup-requires c = (
  (formula_at c.args.cells.now c.requires.0).prefix,
  regroupable c.requires.1 c.requires.2 c.set_aside-groups.ensures.0 c.set_aside-groups.ensures.1 c.set_aside-groups.ensures.2 (c.place_numbers.ensures.1 (limits_in c.args.layout) refl),
)

pub returns : goal.returns
returns c = λ literals g.
    completed_at g
    (c.regroup.ensures (formula_at c.args.cells.now literals).prefix
    (regroupable g c.requires.2 c.set_aside-groups.ensures.0 c.set_aside-groups.ensures.1 c.set_aside-groups.ensures.2 (c.place_numbers.ensures.1 (limits_in c.args.layout) refl)))
