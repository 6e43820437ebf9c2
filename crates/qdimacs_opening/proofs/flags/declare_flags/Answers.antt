-- `declare_flags`: each turn judges one number more.
use mathlib.Core.Path.{sym, subst, ◌∙◌}
use mathlib.Core.List.{List}
use Prim.Native.Nat.{ℕ, ◌+◌}
use native.Mathlib.Numerals.{add-one}
use Rattle.state_parts.specs.Layout.{limits_in}
use Rattle.qdimacs_opening.specs.Built.{Built, flags_as}
use Rattle.qdimacs_opening.proofs.Building.{flag_declarable, flag_built, flag_passed}
use Rattle.qdimacs_opening.proofs.flags.declare_flags.Goals as goal
use Rattle.qdimacs_opening.proofs.flags.declare_flags.Goals.{then-cell_at-eq0, else-cell_at-eq0}

pub declare-requires : goal.declare-requires
declare-requires c = flag_declarable c.requires c.loop-i-test.true (add-one c.loop-i.i) c.loop-i.invariant (sym c.cell_at.ensures ∙ c.if-cell_at-eq0.true)

pub loop-i-preserved : goal.loop-i-preserved
loop-i-preserved c =
    elim c.if-cell_at-eq0.branch [
      | then-cell_at-eq0 w ↦ subst (λ (t : List ℕ). Built (limits_in c.args.layout) c.args.cells.now (flags_as c.args.kind c.args.places.now (c.loop-i.i + 1)) t) (sym w.cells-is) (flag_built c.requires c.loop-i-test.true (add-one c.loop-i.i) c.loop-i.invariant (sym c.cell_at.ensures ∙ w.if-cell_at-eq0.true) w.declare.ensures)
      | else-cell_at-eq0 w ↦ subst (λ (t : List ℕ). Built (limits_in c.args.layout) c.args.cells.now (flags_as c.args.kind c.args.places.now (c.loop-i.i + 1)) t) (sym w.cells-is) (flag_passed c.requires c.loop-i-test.true (add-one c.loop-i.i) c.loop-i.invariant (λ z. w.if-cell_at-eq0.false (c.cell_at.ensures ∙ z)))
    ]
