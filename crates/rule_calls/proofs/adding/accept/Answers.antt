-- `accept` meets its contract: a part of each table is written, and then the count of the cubes.
use native.Mathlib.Omega.{arith}
use mathlib.Core.Path.{refl}
use mathlib.Core.List.{[], ◌∷◌}
use Rattle.state_parts.specs.Layout.{limits_in}
use Rattle.rule_calls.proofs.Writing.{written_at}
use Rattle.rule_calls.proofs.adding.accept.Goals as goal

pub returns : goal.returns
returns c =
    written_at (limits_in c.args.layout) c.args.cells.now c.args.literals.now c.requires.whole (c.args.rule.lits.now ∷ []) c.args.places.now refl
    c.clause_sizes_at-sizes_at.ensures
    (omega (arith, c.clause_sizes_at-sizes_at.ensures, c.learned_clause_sizes_at-sizes_end.ensures))
    c.clause_cells-rows_end.ensures
    c.learned_cube_sizes_at-cubes_at.ensures
    c.add_rule.new.cells c.add_rule.new.sizes c.add_rule.ensures
