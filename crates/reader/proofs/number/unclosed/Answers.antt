-- `unclosed` meets its contract: a last byte that is the bracket, another, or none.
use native.Mathlib.Omega.{arith}
use borrow.Author.Tests.{ltb-true}
use Rattle.reader.proofs.Digits.{closed_none, closed_other, closed_is}
use Rattle.reader.proofs.number.unclosed.Goals as goal
use Rattle.reader.proofs.number.unclosed.Goals.{in_default-via-then-w-lt1, in_default-via-else-w-lt1+in_default-1}

pub returns-in-41 : goal.returns-in-41
returns-in-41 c = closed_is c.args.w.now (omega arith)

pub returns-in_default : goal.returns-in_default
returns-in_default c =
    elim c.in_default.branch [
      | in_default-via-then-w-lt1 w ↦ closed_none c.args.w.now (omega (arith, ltb-true))
      | in_default-via-else-w-lt1+in_default-1 w ↦ closed_other c.args.w.now (λ e. omega arith)
    ]
