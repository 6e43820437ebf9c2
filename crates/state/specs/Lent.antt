-- The tables of a state that are lent as slices.
use Rattle.state.specs.State.{State}
use Rattle.state.specs.declared.parts.Parts.{Parts}
use Rattle.state.specs.Reading.{state_of}

abbrev pub parts_state : Parts → State
parts_state t =
    state_of
    t.variables.numbers.now
    t.variables.levels.now
    t.variables.kinds.now
    t.clauses.flat.now
    t.clauses.sizes.now
    t.learned_clauses.flat.now
    t.learned_clauses.sizes.now
    t.learned_cubes.flat.now
    t.learned_cubes.sizes.now
