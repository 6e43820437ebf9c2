-- `take_line`: a line is judged by the items that the table keeps.
use Rattle.std.proofs.Common.{rules, subst}
use Rattle.layout.specs.Forms.{form_of}
use Rattle.reader.specs.Lines.{LineIs}
use Rattle.reader.specs.declared.keyword.Line.{Line}
use Rattle.opening.proofs.Judging.{line_rule, line_block}
use Rattle.opening.proofs.book.Book.take_line.Goals as goal

pub returns-in-Block : goal.returns-in-Block
returns-in-Block c = line_block c.requires (search rules) c.in-Block.kind c.in-Block.n c.kept.ensures (subst (λ (l : Line). LineIs (form_of c.args.line.now) l c.read_line.new.out) c.in-Block.is c.in-Some.ensures) (c.take_block.ensures c.args.literals.now c.requires)

pub returns-in-Rule : goal.returns-in-Rule
returns-in-Rule c = line_rule c.requires (search rules) c.in-Rule.n c.kept-in-Rule.ensures (subst (λ (l : Line). LineIs (form_of c.args.line.now) l c.read_line.new.out) c.in-Rule.is c.in-Some.ensures) c.take_rule.ensures
