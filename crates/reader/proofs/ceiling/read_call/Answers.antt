-- `read_call` meets its contract: the length, the brackets, then what stands between them.
use mathlib.Core.Path.{sym, subst}
use mathlib.Core.Option.{Option}
use native.Mathlib.Omega.{arith}
use Rattle.qbf.specs.Calls.{Call}
use Rattle.reader.specs.Ceilings.{CeiledRead}
use Rattle.reader.proofs.Calls.{call_long, call_out, call_in}
use Rattle.reader.proofs.ceiling.read_call.Goals as goal

pub returns-then-l-gt-TEXT : goal.returns-then-l-gt-TEXT
returns-then-l-gt-TEXT c = call_long c.args.l.now (omega arith)

pub returns-in_err-inside : goal.returns-in_err-inside
returns-in_err-inside c = rw c.from_residual.ensures (call_out c.args.l.now (omega arith) c.in_err-inside.ensures)

pub returns : goal.returns
returns c = subst (λ (o : Option Call). CeiledRead o c.read_ceiled.result c.read_ceiled.new.out) (sym (call_in c.args.l.now (omega arith) c.in_ok-inside.ensures)) c.read_ceiled.ensures
