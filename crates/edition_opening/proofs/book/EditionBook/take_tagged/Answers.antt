-- `take_tagged`: the edition, the order, 20, 39, then as a rule.
use Rattle.std.proofs.Common.{subst, sym, ap, ◌∙◌}
use Prim.Native.Nat.{ℕ}
use mathlib.Core.Option.{some}
use lib.Dec.{leb}
use lib.ListN.{length}
use Rattle.std.specs.Prelude.{Result}
use Rattle.refusal.specs.declared.Refusal.{Refusal}
use Rattle.qbf.specs.Formula.{Limits}
use Rattle.qbf.specs.Calls.{given, ◌or_else◌}
use Rattle.opening.specs.Standing.{formula_at}
use Rattle.edition_opening.specs.declared.book.EditionBook.{EditionBook}
use Rattle.edition_opening.specs.Lines.{TaggedTookAt}
use Rattle.edition_opening.proofs.Taking.{tag_refused, tag_taken}
use Rattle.edition_opening.proofs.book.EditionBook.take_tagged.Goals as goal

pub returns-then-out_of_range : goal.returns-then-out_of_range
returns-then-out_of_range c =
    tag_refused c.args.self c.requires c.args.lits.now c.args.tag (sym c.is_of.ensures ∙ c.if-not-is_of.false) c.in_ok-place.ensures (sym c.out_of_range.ensures ∙ c.if-out_of_range.true)
    (c.tag_fault.ensures ∙ ap (λ (n : ℕ). given (leb c.args.self.book.layout.clauses n) 20 or_else some 39) (c.rules_in-rules.ensures c.args.literals.now c.requires)
    ∙ ap (λ (L : Limits). given (leb L.clauses (length (formula_at c.args.cells.now c.args.literals.now).clauses)) 20 or_else some 39) (sym c.requires.limits))

pub returns : goal.returns
returns c =
    subst (λ (r : Result EditionBook Refusal). TaggedTookAt c.args.self (formula_at c.args.cells.now c.args.literals.now) c.args.tag c.args.lits.now r c.take_rule.new.cells c.take_rule.new.literals) (sym c.keep.ensures)
    (tag_taken c.args.self c.requires c.args.lits.now c.args.tag (sym c.is_of.ensures ∙ c.if-not-is_of.false) c.in_ok-place.ensures (sym c.out_of_range.ensures ∙ c.if-out_of_range.false) c.take_rule.result c.take_rule.new.cells c.take_rule.new.literals c.take_rule.ensures)
