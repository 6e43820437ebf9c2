-- `trimmed` meets its contract: where the last code is of the place, it is the one that is left out.
use mathlib.Core.Path.{sym, ◌∙◌}
use native.Mathlib.Omega.{arith}
use lib.ListN.{length, length-take}
use lib.Seq.{take-length}
use Rattle.resolution.proofs.Coded.{trimmed_last, trimmed_none}
use Rattle.resolution.proofs.trimmed.Goals as goal

pub returns-then-ends_next : goal.returns-then-ends_next
returns-then-ends_next c = let row = c.args.row.now in (
  simp length-take (omega arith),
  λ D e h o l. trimmed_last D e row (length row) c.args.at (omega arith) (take-length row ∙ h) o l (sym (c.ends_next.ensures.1 D e h) ∙ c.if-ends_next.true),
)

pub returns : goal.returns
returns c = let row = c.args.row.now in (
  omega arith,
  λ D e h o l. sym (take-length row) ∙ trimmed_none D e row (length row) c.args.at (omega arith) (take-length row ∙ h) o l (sym (c.ends_next.ensures.1 D e h) ∙ c.if-ends_next.false),
)
