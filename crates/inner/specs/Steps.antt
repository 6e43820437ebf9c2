-- Steps 1 to 4 of a visit in two parts, as `leaf` of qbf has them.
use Rattle.std.specs.Prelude.{ℕ, Bool, true, cond, List, []}
use Rattle.std.proofs.Math.Option.{Option, none, some}
use Rattle.qbf.specs.Formula.{Prefix, Clause, Node, all, satisfied}
use Rattle.qbf.specs.Truth.{Outcome}
use Rattle.qbf.specs.Learning.{Constraint, conclude_by, reduce, implicant, eligible_match}

-- steps 1 and 2: the first that is found
abbrev pub first_of : Option Constraint → Option Constraint → Option Constraint
first_of none b = b
first_of (some e) b = some e

-- step 4, and step 3 before what follows it
abbrev pub matched : Prefix → (ℕ → ℕ → Bool) → Node → List Constraint → Option (Outcome Constraint)
matched D eligible s cubes = conclude_by true (eligible_match D eligible true s cubes) none

abbrev pub satisfied_or : Prefix → List Clause → Node → Option (Outcome Constraint) → Option (Outcome Constraint)
satisfied_or D R s next = conclude_by true (cond (all (satisfied D s) R) (some (reduce D true (implicant D s R []))) none) next
