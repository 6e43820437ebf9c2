-- `goes_up` meets its contract, by the laws of Sides.
use Prim.Native.Nat.{suc}
use mathlib.Core.Path.{sym, ◌∙◌}
use native.Mathlib.Omega.{arith}
use Rattle.node.proofs.Sides.{not_mixed, up_lacking}
use Rattle.node.proofs.goes_up.Goals as goal

pub returns-else-is_enough : goal.returns-else-is_enough
returns-else-is_enough c = let unmixed = sym c.is_mixed.ensures ∙ c.if-is_mixed.false in (
  λ D κ o k r w h.
      up_lacking D κ (suc c.args.at) c.args.row.now o c.args.off.verdict
      unmixed (sym (c.is_enough.ensures κ k) ∙ c.if-is_enough.false)
      (λ e x. c.ends_next.ensures.1 D e x) (omega arith) r w,
  λ m z. absurd (not_mixed c.args.off.verdict unmixed m),
)
