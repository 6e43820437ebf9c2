-- `take_last` meets its contract: the learned clauses' part of each table is written, and then the count of the clauses.
use native.Mathlib.Omega.{arith}
use mathlib.Core.Path.{refl}
use Rattle.state_parts.specs.Layout.{limits_in}
use Rattle.rule_calls.proofs.Leaving.{left_at, learned_at}
use Rattle.rule_calls.proofs.withdrawing.take_last.Goals as goal

pub leave-requires : goal.leave-requires
leave-requires c = (
  c.args.layout.few_numbers,
  learned_at (limits_in c.args.layout) c.args.cells.now c.args.literals.now c.requires
      c.learned_clause_sizes_at-sizes_at.ensures
      (omega (arith, c.learned_clause_sizes_at-sizes_at.ensures, c.learned_cube_sizes_at-sizes_end.ensures))
      c.clause_cells-from.ensures
      (omega (arith, c.clause_cells-from.ensures, c.learned_cubes_at-end.ensures)),
)

pub returns : goal.returns
returns c =
    left_at (limits_in c.args.layout) c.args.cells.now c.args.literals.now c.requires.whole c.args.remain refl
    c.learned_clause_sizes_at-sizes_at.ensures
    (omega (arith, c.learned_clause_sizes_at-sizes_at.ensures, c.learned_cube_sizes_at-sizes_end.ensures))
    c.clause_cells-from.ensures
    (omega (arith, c.clause_cells-from.ensures, c.learned_cubes_at-end.ensures))
    c.clause_sizes_at-count_at.ensures
    c.leave.new.cells c.leave.new.sizes c.leave.ensures
