-- `take_line`: a line is judged by the items that the table keeps.
use Rattle.std.proofs.Common.{rules, subst, sym}
use Rattle.std.specs.Prelude.{Result}
use Rattle.refusal.specs.declared.Refusal.{Refusal}
use Rattle.editions.specs.Lines.{line_of}
use Rattle.edition_reader.specs.Lines.{LineIs}
use Rattle.edition_reader.specs.declared.line.Line.{Line}
use Rattle.opening.specs.Stages.{rank_of}
use Rattle.opening.specs.Standing.{formula_at}
use Rattle.edition_opening.specs.Editions.{accepted, edition_of}
use Rattle.edition_opening.specs.declared.book.EditionBook.{EditionBook}
use Rattle.edition_opening.specs.Lines.{TookAt}
use Rattle.edition_opening.proofs.Lines.{line_block, line_rule, line_tagged, line_one}
use Rattle.edition_opening.proofs.book.EditionBook.take_line.Goals as goal

pub returns-in-Block : goal.returns-in-Block
returns-in-Block c =
    subst (λ (r : Result EditionBook Refusal). TookAt (accepted c.args.self.accepts) (edition_of c.args.self.edition) (rank_of c.args.self.book.stage) (formula_at c.args.cells.now c.args.literals.now) (line_of c.args.line.now) r c.take_block.new.cells c.args.literals.now) (sym c.keep.ensures)
    (line_block c.args.self c.requires (line_of c.args.line.now) c.read_line.new.out (search rules) c.take_block.result c.in-Block.kind c.in-Block.n c.take_block.new.cells c.args.literals.now c.kept.ensures
    (subst (λ (l : Line). LineIs (line_of c.args.line.now) l c.read_line.new.out) c.in-Block.is c.in-Some.ensures) (c.take_block.ensures c.args.literals.now c.requires))

pub returns-in-Rule : goal.returns-in-Rule
returns-in-Rule c =
    line_rule c.args.self c.requires (line_of c.args.line.now) c.read_line.new.out (search rules) c.take_plain.result c.in-Rule.n c.take_plain.new.cells c.take_plain.new.literals c.kept-in-Rule.ensures
    (subst (λ (l : Line). LineIs (line_of c.args.line.now) l c.read_line.new.out) c.in-Rule.is c.in-Some.ensures) c.take_plain.ensures

pub returns-in-Tagged : goal.returns-in-Tagged
returns-in-Tagged c =
    line_tagged c.args.self c.requires (line_of c.args.line.now) c.read_line.new.out (search rules) c.take_tagged.result c.in-Tagged.tag c.in-Tagged.n c.take_tagged.new.cells c.take_tagged.new.literals c.kept-in-Tagged.ensures
    (subst (λ (l : Line). LineIs (line_of c.args.line.now) l c.read_line.new.out) c.in-Tagged.is c.in-Some.ensures) c.take_tagged.ensures

pub returns-in-One : goal.returns-in-One
returns-in-One c =
    line_one c.args.self c.requires (line_of c.args.line.now) c.read_line.new.out (search rules) c.take_one.result c.in-One.n c.take_one.new.cells c.take_one.new.literals c.kept-in-One.ensures
    (subst (λ (l : Line). LineIs (line_of c.args.line.now) l c.read_line.new.out) c.in-One.is c.in-Some.ensures) c.take_one.ensures
