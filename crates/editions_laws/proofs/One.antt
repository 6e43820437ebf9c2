-- What code keeps of an exactly-one form's literals is judged as they are.
use Prim.Native.Nat.{◌+◌, ◌<◌}
use mathlib.Core.Path.{◌≡◌, refl}
use mathlib.Core.Bool.{Bool, true, false, ◌||◌}
use mathlib.Core.List.{List, []}
use mathlib.Core.Option.{some}
use borrow.Author.Tests.{lt-ltb}
use lib.ListN.{length}
use lib.Dec.{ltb}
use Rattle.qbf.specs.Formula.{Literal, Formula}
use Rattle.qbf.specs.One.{one_count}
use Rattle.qbf.specs.Calls.{given, literal_fault, one_fault, ◌or_else◌}

-- as many literals with the same fault, as narrowed ones have
pub one_judged : (b : Formula) (ls ms : List Literal) → length ls ≡ length ms → literal_fault b.limits b.prefix [] ls ≡ literal_fault b.limits b.prefix [] ms → one_fault b ls ≡ one_fault b ms
one_judged b ls ms e f = rw (e, f)

-- too many literals, of which not all may stand in the table
pub one_long : (b : Formula) (ls : List Literal) → b.limits.literals < length ls → one_fault b ls ≡ some 7
one_long b ls h = rw (lt-ltb b.limits.literals (length ls) h) (by (ltb (length ls) 2))
  where
    by : (t : Bool) → (given (t || true) 7 or_else given (ltb b.limits.clauses (length b.clauses + one_count (length ls))) 20 or_else literal_fault b.limits b.prefix [] ls) ≡ some 7
    by true = refl
    by false = refl
