use Rattle.state_parts.proofs.Beginning.{initial_written}
use Rattle.state_parts.proofs.initial.initial.Goals as goal

pub returns : goal.returns
returns c = initial_written c.args.numbers c.args.clauses c.args.cells.now
    c.min-n.ensures
    c.min-m.ensures
    c.put.ensures
    c.put-2.ensures
    c.put-3.ensures
    c.clause_sizes_at.ensures
    c.put-4.ensures
    c.learned_clause_sizes_at.ensures
    c.put-5.ensures
    c.learned_cube_sizes_at.ensures
    c.put-6.ensures
