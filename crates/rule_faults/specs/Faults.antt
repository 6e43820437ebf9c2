-- The faults of a rule and of an exactly-one form, in their order, under any limits.
use Rattle.std.specs.Prelude.{ℕ, ◌+◌, Bool, ◌||◌, List, [], leb, ltb, eqb, length}
use Rattle.std.proofs.Math.Option.{Option}
use Rattle.qbf.specs.Formula.{Limits, Literal, Prefix}
use Rattle.qbf.specs.One.{one_count}
use Rattle.qbf.specs.Calls.{◌or_else◌, given, literal_fault}

-- the fault of a literal's number, from the highest that there may be, its place and whether the rule has named it
abbrev pub number_fault : ℕ → ℕ → ℕ → Bool → Option ℕ
number_fault most n place named =
    given (eqb n 0 || ltb most n) 3 or_else given (eqb place 0) 5 or_else given named 6

-- the fault of a rule where that many clauses stand
abbrev pub fault_under : Limits → ℕ → Prefix → List Literal → Option ℕ
fault_under L count D ls =
    given (leb L.clauses count) 20
    or_else given (eqb (length ls) 0 || ltb L.literals (length ls)) 7
    or_else literal_fault L D [] ls

-- that of an exactly-one form
abbrev pub one_fault_under : Limits → ℕ → Prefix → List Literal → Option ℕ
one_fault_under L count D ls =
    given (ltb (length ls) 2 || ltb L.literals (length ls)) 7
    or_else given (ltb L.clauses (count + one_count (length ls))) 20
    or_else literal_fault L D [] ls
