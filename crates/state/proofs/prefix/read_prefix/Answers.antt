-- `read_prefix` meets its contract.
use mathlib.Core.Path.{sym, ◌∙◌}
use Rattle.state.proofs.Valid.{shown_bad, shown_end}
use Rattle.state.proofs.prefix.read_prefix.Goals as goal

pub returns-then-placed : goal.returns-then-placed
returns-then-placed c = λ L q.
    shown_end c.args.variables.numbers.now c.args.variables.levels.now c.args.variables.kinds.now L (c.place_numbers-placed.ensures.1 L q) c.if-placed.true
    (c.place_numbers-placed.ensures.0 ∙ sym c.requires.1) c.kinds_of.ensures (c.levels_ok.ensures L q)

pub returns : goal.returns
returns c = λ L q. shown_bad c.args.variables.numbers.now c.args.variables.levels.now c.args.variables.kinds.now L (c.place_numbers-placed.ensures.1 L q) c.if-placed.false
