-- No refusal of a rule or an exactly-one form has the number 0, whatever the formula.
use Prim.Native.Nat.{ℕ, suc, ◌+◌}
use mathlib.Core.Bool.{Bool, true, false, ◌||◌}
use mathlib.Core.List.{List, [], ◌∷◌}
use mathlib.Core.Option.{Option}
use lib.Dec.{eqb, leb, ltb}
use lib.ListN.{length}
use Rattle.qbf.specs.Formula.{Limits, Prefix, Literal, Formula, number_of, any, place_of}
use Rattle.qbf.specs.Calls.{given, literal_fault, rule_fault, one_fault, ◌or_else◌}
use Rattle.qbf.specs.One.{one_count}
use Rattle.serving.proofs.Numbered.{Numbered}

pub numbered_given : (t : Bool) (n : ℕ) (o : Option ℕ) → Numbered o → Numbered (given t (suc n) or_else o)
numbered_given true n o h = tt
numbered_given false n o h = h

numbered_literals : (L : Limits) (D : Prefix) (seen : List ℕ) (ls : List Literal) → Numbered (literal_fault L D seen ls)
numbered_literals L D seen [] = tt
numbered_literals L D seen (l ∷ ls) =
    numbered_given (eqb (number_of l) 0 || ltb L.numbers (number_of l)) 2 _
    (numbered_given (eqb (place_of D (number_of l)) 0) 4 _ (numbered_given (any (eqb (number_of l)) seen) 5 _ (numbered_literals L D (number_of l ∷ seen) ls)))

pub rule_numbered : (b : Formula) (ls : List Literal) → Numbered (rule_fault b ls)
rule_numbered b ls =
    numbered_given (leb b.limits.clauses (length b.clauses)) 19 _
    (numbered_given (eqb (length ls) 0 || ltb b.limits.literals (length ls)) 6 _ (numbered_literals b.limits b.prefix [] ls))

pub one_numbered : (b : Formula) (ls : List Literal) → Numbered (one_fault b ls)
one_numbered b ls =
    numbered_given (ltb (length ls) 2 || ltb b.limits.literals (length ls)) 6 _
    (numbered_given (ltb b.limits.clauses (length b.clauses + one_count (length ls))) 19 _ (numbered_literals b.limits b.prefix [] ls))
