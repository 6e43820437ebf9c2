-- `limits` meets its contract: by what was taken.
use mathlib.Core.Path.{sym, ap, ◌∙◌}
use Rattle.arguments.specs.declared.Arguments.{Arguments}
use Rattle.arguments.specs.Read.{given, limits_in}
use Rattle.arguments.proofs.Taken.{taken_limits}
use Rattle.arguments.proofs.Arguments.limits.Goals as goal

pub returns-in-Empty : goal.returns-in-Empty
returns-in-Empty c ws e = ap (λ (a : Arguments). given (limits_in a)) (sym c.in-Empty.is ∙ e) ∙ taken_limits ws

pub returns-in-One : goal.returns-in-One
returns-in-One c ws e = ap (λ (a : Arguments). given (limits_in a)) (sym c.in-One.is ∙ e) ∙ taken_limits ws

pub returns-in-Two : goal.returns-in-Two
returns-in-Two c ws e = ap (λ (a : Arguments). given (limits_in a)) (sym c.in-Two.is ∙ e) ∙ taken_limits ws

pub returns-in-More : goal.returns-in-More
returns-in-More c ws e = ap (λ (a : Arguments). given (limits_in a)) (sym c.in-More.is ∙ e) ∙ taken_limits ws
