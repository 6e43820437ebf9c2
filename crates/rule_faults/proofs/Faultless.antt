-- What a rule or an exactly-one form without a fault has, under any limits: room for its clauses, few literals, and numbers in range.
use Prim.Native.Nat.{ℕ, zero, suc, ◌+◌, ◌≤◌, ◌<◌}
use native.Mathlib.Omega.{arith}
use mathlib.Core.Path.{◌≡◌, sym}
use mathlib.Core.Bool.{false, ◌||◌}
use mathlib.Core.List.{List, [], ◌∷◌}
use mathlib.Core.Option.{Option, none}
use lib.Dec.{leb, ltb, eqb}
use lib.IntN.{pos}
use lib.ListN.{length, get_or}
use borrow.Author.Tests.{leb-false, ltb-false}
use Rattle.qbf.specs.Formula.{Limits, Prefix, Literal, number_of, place_of, any}
use Rattle.qbf.specs.One.{one_count}
use Rattle.qbf.specs.Calls.{◌or_else◌, given, literal_fault}
use Rattle.theory.proofs.Basics.{or_false_right}
use Rattle.theory.proofs.AcceptedRule.{given_none}
use Rattle.rule_faults.specs.Faults.{fault_under, one_fault_under}

-- ---- a rule without a fault: there is room for its clause, and in the area for its literals
module _ (L : Limits) (count : ℕ) (D : Prefix) (ls : List Literal) (fine : none ≡ fault_under L count D ls) where
  abbrev long : Option ℕ
  long = given (eqb (length ls) 0 || ltb L.literals (length ls)) 7 or_else literal_fault L D [] ls

  full : (leb L.clauses count ≡ false) × (long ≡ none)
  full = given_none (leb L.clauses count) 20 long (sym fine)

  pub fine_room : count < L.clauses
  fine_room = leb-false L.clauses count full.0

  pub fine_length : length ls ≤ L.literals
  fine_length = ltb-false L.literals (length ls) (or_false_right (eqb (length ls) 0) (ltb L.literals (length ls)) (given_none (eqb (length ls) 0 || ltb L.literals (length ls)) 7 (literal_fault L D [] ls) full.1).0)

-- ---- each number of literals without a fault is in range
module _ (L : Limits) (D : Prefix) (seen : List ℕ) (l : Literal) (ls : List Literal) (e : literal_fault L D seen (l ∷ ls) ≡ none) where
  abbrev later : Option ℕ
  later = literal_fault L D (number_of l ∷ seen) ls

  declared : ((eqb (number_of l) 0 || ltb L.numbers (number_of l)) ≡ false) × ((given (eqb (place_of D (number_of l)) 0) 5 or_else given (any (eqb (number_of l)) seen) 6 or_else later) ≡ none)
  declared = given_none (eqb (number_of l) 0 || ltb L.numbers (number_of l)) 3 (given (eqb (place_of D (number_of l)) 0) 5 or_else given (any (eqb (number_of l)) seen) 6 or_else later) e

  in_range : number_of l ≤ L.numbers
  in_range = ltb-false L.numbers (number_of l) (or_false_right (eqb (number_of l) 0) (ltb L.numbers (number_of l)) declared.0)

  none_later : later ≡ none
  none_later = (given_none (any (eqb (number_of l)) seen) 6 later (given_none (eqb (place_of D (number_of l)) 0) 5 (given (any (eqb (number_of l)) seen) 6 or_else later) declared.1).1).1

named : (L : Limits) (D : Prefix) (seen : List ℕ) (ls : List Literal) → literal_fault L D seen ls ≡ none → (k : ℕ) → k < length ls → number_of (get_or ls k (pos 0)) ≤ L.numbers
named L D seen [] e k h = absurd (omega (arith, h))
named L D seen (l ∷ ls) e zero h = in_range L D seen l ls e
named L D seen (l ∷ ls) e (suc k) h = named L D (number_of l ∷ seen) ls (none_later L D seen l ls e) k (omega (arith, h))

-- ---- an exactly-one form without a fault: there is room for its clauses, and each number is in range
module _ (L : Limits) (count : ℕ) (D : Prefix) (ls : List Literal) (fine : none ≡ one_fault_under L count D ls) where
  abbrev counted : Option ℕ
  counted = given (ltb L.clauses (count + one_count (length ls))) 20 or_else literal_fault L D [] ls

  lengthy : ((ltb (length ls) 2 || ltb L.literals (length ls)) ≡ false) × (counted ≡ none)
  lengthy = given_none (ltb (length ls) 2 || ltb L.literals (length ls)) 7 counted (sym fine)

  together : (ltb L.clauses (count + one_count (length ls)) ≡ false) × (literal_fault L D [] ls ≡ none)
  together = given_none (ltb L.clauses (count + one_count (length ls))) 20 (literal_fault L D [] ls) lengthy.1

  pub one_fine_room : count + one_count (length ls) ≤ L.clauses
  one_fine_room = ltb-false L.clauses (count + one_count (length ls)) together.0

  pub one_fine_length : length ls ≤ L.literals
  one_fine_length = ltb-false L.literals (length ls) (or_false_right (ltb (length ls) 2) (ltb L.literals (length ls)) lengthy.0)

  pub one_fine_named : (k : ℕ) → k < length ls → number_of (get_or ls k (pos 0)) ≤ L.numbers
  one_fine_named = named L D [] ls together.1
