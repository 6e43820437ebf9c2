-- `inner::dying::clause_at` meets its contract. The part behind the length, where there is such a row and it is no longer than a clause.
use mathlib.Core.Path.{refl, ◌∙◌}
use Rattle.inner.proofs.Stepping.{clause_part}
use Rattle.inner.proofs.dying.clause_at.Goals as goal

pub returns-then-size-le-LITERALS : goal.returns-then-size-le-LITERALS
returns-then-size-le-LITERALS c = λ D e cs area few short is. (e, refl, clause_part c.args.rows.now c.args.k c.left_at-size.result c.left_at-size.ensures ∙ is)
