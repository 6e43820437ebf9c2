use Rattle.reader.proofs.Digits.{Valued}
use Rattle.reader.proofs.number.value.Given as goal

-- `value` meets its contract: the loop has the value of the digits passed, below ten to the power of their count.
abbrev pub invariant-loop-b : goal.invariant-loop-b
invariant-loop-b l = Valued l.w l.b-index l.v
