-- `forget`: the state is malformed, or two counts are set to 0, and nothing else is written.
use native.Mathlib.Omega.{arith}
use mathlib.Core.Path.{sym}
use lib.ListN.{length-set}
use Rattle.qbf.specs.Calls.{forget}
use Rattle.state_parts.specs.Parts.{learned_clause_sizes_at, learned_cube_sizes_at}
use Rattle.state_parts.proofs.Accepted.{valid_whole}
use Rattle.rule_calls.specs.StaysAt.{forget_writes}
use Rattle.rule_calls.proofs.Calls.{placed, malformed, malformed_by}
use Rattle.rule_calls.proofs.Stays.{same_stays}
use Rattle.rule_calls.proofs.Emptied.{forgotten_at, forgotten_stays}
use Rattle.rule_calls.proofs.forget.Goals as goal

pub returns-in_default-clause-serves : goal.returns-in_default-clause-serves
returns-in_default-clause-serves c = malformed c.args.cells.now c.args.literals.now forget (malformed_by _ _ c.check.result _ _ c.check.ensures c.in_default.not-Ok)

pub returns-in_default-clause-frame : goal.returns-in_default-clause-frame
returns-in_default-clause-frame c = same_stays forget_writes c.args.cells.now c.args.literals.now

pub bounds-cells-clauses_at : goal.bounds-cells-clauses_at
bounds-cells-clauses_at c = let w = valid_whole c.args.cells.now c.args.literals.now (sym c.in-Ok.ensures.2.said) in
    omega (arith, w.cells_room, c.in-Ok.ensures.0, c.in-Ok.ensures.1, c.learned_clause_sizes_at-clauses_at.ensures)

pub bounds-cells-cubes_at : goal.bounds-cells-cubes_at
bounds-cells-cubes_at c = let w = valid_whole c.args.cells.now c.args.literals.now (sym c.in-Ok.ensures.2.said) in
    omega (arith, w.cells_room, c.in-Ok.ensures.0, c.in-Ok.ensures.1, c.learned_cube_sizes_at-cubes_at.ensures, length-set c.args.cells.now c.learned_clause_sizes_at-clauses_at.result 0)

pub returns-clause-serves : goal.returns-clause-serves
returns-clause-serves c =
    forgotten_at c.args.cells.now c.args.literals.now (sym c.in-Ok.ensures.2.said)
    (placed c.args.cells.now learned_clause_sizes_at c.in-Ok.ensures.0 c.in-Ok.ensures.1 c.learned_clause_sizes_at-clauses_at.ensures)
    (placed c.args.cells.now learned_cube_sizes_at c.in-Ok.ensures.0 c.in-Ok.ensures.1 c.learned_cube_sizes_at-cubes_at.ensures)

pub returns-clause-frame : goal.returns-clause-frame
returns-clause-frame c =
    forgotten_stays c.args.cells.now c.args.literals.now (sym c.in-Ok.ensures.2.said)
    (placed c.args.cells.now learned_clause_sizes_at c.in-Ok.ensures.0 c.in-Ok.ensures.1 c.learned_clause_sizes_at-clauses_at.ensures)
    (placed c.args.cells.now learned_cube_sizes_at c.in-Ok.ensures.0 c.in-Ok.ensures.1 c.learned_cube_sizes_at-cubes_at.ensures)
