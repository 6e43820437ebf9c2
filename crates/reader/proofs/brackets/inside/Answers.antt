-- `inside` meets its contract: a line of two bytes at least, the first of which opens and the last closes.
use native.Mathlib.Omega.{arith}
use borrow.Author.Tests.{ltb-true, ltb-false}
use Rattle.reader.proofs.Lines.{inside_short, inside_open, inside_last, inside_other}
use Rattle.reader.proofs.brackets.inside.Goals as goal
use Rattle.reader.proofs.brackets.inside.Goals.{in_default-via-then-l-lt2, in_default-via-else-l-lt2+in-40+in_default-1, in_default-via-else-l-lt2+in_default-1}

pub returns-in-40 : goal.returns-in-40
returns-in-40 c = inside_last c.args.l.now (omega arith) (omega arith) (omega arith)

pub returns-in_default : goal.returns-in_default
returns-in_default c =
    elim c.in_default.branch [
      | in_default-via-then-l-lt2 w ↦ inside_short c.args.l.now (omega (arith, ltb-true))
      | in_default-via-else-l-lt2+in-40+in_default-1 w ↦ inside_other c.args.l.now (omega (arith, ltb-false)) (omega arith) (λ e. omega arith)
      | in_default-via-else-l-lt2+in_default-1 w ↦ inside_open c.args.l.now (λ e. omega arith)
    ]
