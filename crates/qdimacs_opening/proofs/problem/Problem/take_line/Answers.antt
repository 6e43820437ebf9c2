-- `take_line`: a line is judged by the items that the table keeps.
use Rattle.std.proofs.Common.{rules, subst}
use Rattle.qdimacs_form.specs.Lines.{line_of}
use Rattle.qdimacs_reader.specs.Lines.{LineIs}
use Rattle.qdimacs_reader.specs.declared.line.Line.{Line}
use Rattle.qdimacs_opening.proofs.Judging.{line_clause, line_group}
use Rattle.qdimacs_opening.proofs.problem.Problem.take_line.Goals as goal

pub returns-in-Group : goal.returns-in-Group
returns-in-Group c = line_group c.args.self c.requires (search rules) c.in-Group.kind c.in-Group.n c.kept.ensures (subst (λ (l : Line). LineIs (line_of c.args.line.now) l c.read_line.new.out) c.in-Group.is c.in-Some.ensures) (c.take_group.ensures c.args.literals.now c.requires)

pub returns-in-Clause : goal.returns-in-Clause
returns-in-Clause c = line_clause c.args.self c.requires (search rules) c.in-Clause.n c.kept-in-Clause.ensures (subst (λ (l : Line). LineIs (line_of c.args.line.now) l c.read_line.new.out) c.in-Clause.is c.in-Some.ensures) c.take_clause.ensures
