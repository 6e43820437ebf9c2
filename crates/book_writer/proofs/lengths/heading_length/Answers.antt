-- `heading_length` meets its contract: both quantifiers' words have six letters.
use mathlib.Core.Path.{sym, ◌∙◌}
use Rattle.book_writer.proofs.Digits.{counted_flags, counted_group}
use Rattle.book_writer.proofs.lengths.heading_length.Goals as goal

pub returns-then-kind-eq-FREE : goal.returns-then-kind-eq-FREE
returns-then-kind-eq-FREE c = counted_flags c.args.line c.args.kind (sym c.same_kind.ensures ∙ c.if-same_kind.false) c.if-kind-eq-FREE.true

pub returns-else-kind-eq-FREE : goal.returns-else-kind-eq-FREE
returns-else-kind-eq-FREE c = counted_group c.args.line c.args.kind (sym c.same_kind.ensures ∙ c.if-same_kind.false) c.if-kind-eq-FREE.false
