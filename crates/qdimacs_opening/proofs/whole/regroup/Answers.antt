-- `regroup`: no variable, the flags, the groups.
use Rattle.state_parts.specs.Layout.{limits_in}
use Rattle.qdimacs_opening.specs.Built.{flags_as}
use Rattle.qdimacs_opening.proofs.Building.{none_built, flags_ready, groups_ready, regrouped}
use Rattle.qdimacs_opening.proofs.whole.regroup.Goals as goal

pub declare_flags-requires : goal.declare_flags-requires
declare_flags-requires c = flags_ready c.requires.1 c.flag_count.ensures c.crowd_of-crowd.ensures c.flag_kind.ensures (none_built (limits_in c.args.layout) c.args.cells.now c.requires.1.room)

pub declare_groups-requires : goal.declare_groups-requires
declare_groups-requires c = (
  c.args.cells.now,
  flags_as c.flag_kind.result c.args.places.now c.args.variables,
  c.requires.0,
  groups_ready c.requires.1 c.flag_count.ensures c.crowd_of-crowd.ensures c.flag_kind.ensures (none_built (limits_in c.args.layout) c.args.cells.now c.requires.1.room) c.declare_flags.ensures,
)

pub returns : goal.returns
returns c = λ D r.
    let b = none_built (limits_in c.args.layout) c.args.cells.now r.room in
    regrouped r c.flag_count.ensures c.crowd_of-crowd.ensures c.flag_kind.ensures b c.declare_flags.ensures
    (c.declare_groups.ensures c.args.cells.now (flags_as c.flag_kind.result c.args.places.now c.args.variables) D
    (groups_ready r c.flag_count.ensures c.crowd_of-crowd.ensures c.flag_kind.ensures b c.declare_flags.ensures))
