-- What the arguments that were taken so far say.
use Rattle.std.specs.Prelude.{ℕ, List, [], ◌∷◌}
use Rattle.std.specs.Prelude.{Option as Answer, Some, None}
use Rattle.std.proofs.Math.Option.{Option, none, some}
use Rattle.qbf.specs.Formula as formula
use Rattle.layout.specs.Words.{Bytes, number}
use Rattle.state.specs.declared.parts.Limits.{Limits}
use Rattle.arguments.specs.declared.Arguments.{Arguments}
use Rattle.arguments.specs.declared.Arguments.TheVariants as taken

abbrev pub answer_of : Option ℕ → Answer ℕ
answer_of none = None
answer_of (some n) = Some n

-- two numbers as limits, where both are numbers
abbrev pub both_of : Answer ℕ → Answer ℕ → Answer Limits
both_of None m = None
both_of (Some n) None = None
both_of (Some n) (Some m) = Some (record { numbers = n; clauses = m })

-- the limits as opening takes them
abbrev pub given : Answer Limits → Option formula.Limits
given None = none
given (Some l) = some (formula.capped l.numbers l.clauses)

-- a list of arguments, in order
abbrev pub taken_of : List Bytes → Arguments
taken_of [] = taken.Empty
taken_of (n ∷ []) = taken.One (answer_of (number n))
taken_of (n ∷ m ∷ []) = taken.Two (both_of (answer_of (number n)) (answer_of (number m)))
taken_of (n ∷ m ∷ w ∷ ws) = taken.More

-- the limits that they give
abbrev pub limits_in : Arguments → Answer Limits
limits_in taken.Empty = Some (record { numbers = formula.paper.numbers; clauses = formula.paper.clauses })
limits_in (taken.One n) = None
limits_in (taken.Two l) = l
limits_in taken.More = None
