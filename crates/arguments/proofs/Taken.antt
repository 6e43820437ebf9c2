-- Arguments one after another.
use Prim.Native.Nat.{ℕ}
use mathlib.Core.Path.{◌≡◌, refl, ap}
use mathlib.Core.List.{List, [], ◌∷◌}
use mathlib.Core.Option.{Option, none, some}
use Rattle.std.specs.Prelude.{Option as Answer, Some, None}
use Rattle.layout.specs.Words.{Bytes, number}
use Rattle.reader.specs.Numbers.{num_of}
use Rattle.arguments.specs.Arguments.{limits_of}
use Rattle.qbf.specs.Formula.{capped}
use Rattle.layout.specs.Forms.{then}
use Rattle.arguments.specs.Read.{answer_of, both_of, given, taken_of, limits_in}

-- the answer of a number
pub answer_is : (r : Answer ℕ) (o : Option ℕ) → num_of r ≡ o → r ≡ answer_of o
answer_is None o e = ap answer_of e
answer_is (Some n) o e = ap answer_of e

-- ---- the limits of a list
two_limits : (o p : Option ℕ) → given (both_of (answer_of o) (answer_of p)) ≡ then o (λ a. then p (λ b. some (capped a b)))
two_limits none p = refl
two_limits (some n) none = refl
two_limits (some n) (some m) = refl

pub taken_limits : (ws : List Bytes) → given (limits_in (taken_of ws)) ≡ limits_of ws
unfolding limits_of
taken_limits [] = refl
taken_limits (n ∷ []) = refl
taken_limits (n ∷ m ∷ []) = two_limits (number n) (number m)
taken_limits (n ∷ m ∷ w ∷ ws) = refl
