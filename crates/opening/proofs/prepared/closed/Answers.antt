-- `closed`: the limit for numbers is one that no state may have.
use mathlib.Core.Path.{sym, subst, ◌∙◌}
use mathlib.Core.List.{List}
use Prim.Native.Nat.{ℕ}
use Rattle.opening.specs.Opened.{ClosedFor}
use Rattle.opening.proofs.Preparing.{closed_for}
use Rattle.opening.proofs.prepared.closed.Goals as goal

pub returns-then-is_err-clause-left : goal.returns-then-is_err-clause-left
returns-then-is_err-clause-left c = subst (λ (t : List ℕ). ClosedFor c.args.read c.args.cells.now t) (sym c.put.ensures) (closed_for c.args.read c.args.cells.now (sym c.is_err.ensures.value ∙ c.if-is_err.true))
