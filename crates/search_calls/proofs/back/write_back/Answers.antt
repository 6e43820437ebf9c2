-- `search_calls::back::write_back` meets its contract: four parts are written.
use Rattle.search_calls.proofs.Writing.{back_as}
use Rattle.search_calls.proofs.back.write_back.Goals as goal

pub returns : goal.returns
returns c =
    back_as c.args.layout.numbers c.args.layout.clauses c.args.cells.now c.args.literals.now c.requires.whole c.args.learned.now
    c.clause_cells-clauses_at.ensures c.learned_cubes_at-cubes_at.ensures c.learned_cells.ensures c.learned_clause_sizes_at-sizes_at.ensures c.learned_cube_sizes_at-cube_sizes_at.ensures
    c.levels_at.ensures c.clause_sizes_at.ensures c.copy_from_slice.ensures.after _ _ _ _ c.clauses_back.ensures c.cubes_back.ensures
