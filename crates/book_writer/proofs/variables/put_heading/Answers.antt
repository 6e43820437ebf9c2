-- `put_heading` meets its contract: nothing, or one of three words by the code.
use mathlib.Core.Path.{sym, ap, ◌∙◌}
use native.Mathlib.Omega.{arith}
use lib.ListN.{length}
use Rattle.state.specs.Reading.{quantifier_of}
use Rattle.book_writer.proofs.Places.{head_new, heading_flags, heading_exists, heading_forall}
use Rattle.book_writer.proofs.variables.put_heading.Goals as goal

pub put_word-requires : goal.put_word-requires
put_word-requires c = omega (arith, ap length (head_new (quantifier_of c.args.line) (quantifier_of c.args.kind) (sym c.same_kind.ensures ∙ c.if-same_kind.false) ∙ heading_flags c.args.kind c.if-kind-eq-FREE.true))

pub put_word-requires-then-kind-eq-EXISTS : goal.put_word-requires-then-kind-eq-EXISTS
put_word-requires-then-kind-eq-EXISTS c = omega (arith, ap length (head_new (quantifier_of c.args.line) (quantifier_of c.args.kind) (sym c.same_kind.ensures ∙ c.if-same_kind.false) ∙ heading_exists c.args.kind c.if-kind-eq-EXISTS.true))

pub put_word-requires-else-kind-eq-EXISTS : goal.put_word-requires-else-kind-eq-EXISTS
put_word-requires-else-kind-eq-EXISTS c = omega (arith, ap length (head_new (quantifier_of c.args.line) (quantifier_of c.args.kind) (sym c.same_kind.ensures ∙ c.if-same_kind.false) ∙ heading_forall c.args.kind c.if-kind-eq-FREE.false c.if-kind-eq-EXISTS.false))

pub returns-then-kind-eq-FREE : goal.returns-then-kind-eq-FREE
returns-then-kind-eq-FREE c = rw (head_new (quantifier_of c.args.line) (quantifier_of c.args.kind) (sym c.same_kind.ensures ∙ c.if-same_kind.false) ∙ heading_flags c.args.kind c.if-kind-eq-FREE.true) c.put_word.ensures

pub returns-then-kind-eq-EXISTS : goal.returns-then-kind-eq-EXISTS
returns-then-kind-eq-EXISTS c = rw (head_new (quantifier_of c.args.line) (quantifier_of c.args.kind) (sym c.same_kind.ensures ∙ c.if-same_kind.false) ∙ heading_exists c.args.kind c.if-kind-eq-EXISTS.true) c.put_word-then-kind-eq-EXISTS.ensures

pub returns-else-kind-eq-EXISTS : goal.returns-else-kind-eq-EXISTS
returns-else-kind-eq-EXISTS c = rw (head_new (quantifier_of c.args.line) (quantifier_of c.args.kind) (sym c.same_kind.ensures ∙ c.if-same_kind.false) ∙ heading_forall c.args.kind c.if-kind-eq-FREE.false c.if-kind-eq-EXISTS.false) c.put_word-else-kind-eq-EXISTS.ensures
