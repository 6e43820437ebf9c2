-- `start_rows` meets its contract: before the turn of a place the rows and marks of the places before it are there.
use Rattle.std.proofs.Common.{rules}
use Prim.Native.Nat.{ℕ}
use native.Mathlib.Omega.{arith}
use mathlib.Core.Path.{◌≡◌, sym, subst}
use Rattle.tables.specs.Sets.{Descended}
use Rattle.loading_start.specs.Started.{FirstRow}
use Rattle.loading_start.proofs.Starting.{descended_next, descended_none}
use Rattle.loading_start.proofs.start_rows.Goals as goal

pub loop-at-init : goal.loop-at-init
loop-at-init c = (omega arith, λ D R s shown e. descended_none s (subst (λ (n : ℕ). FirstRow n c.args.start.words c.args.trail.now.sat c.first_row.new.sat) (sym e) c.first_row.ensures))

pub loop-at-preserved : goal.loop-at-preserved
loop-at-preserved c = (omega (arith, c.loop-at-test.true), λ D R s shown e. descended_next (c.step.ensures D R s c.args.start.at shown c.loop-at-test.true (c.loop-at.invariant.1 D R s shown e)))

pub returns : goal.returns
returns c = λ D R s shown e. subst (Descended D s R c.args.start.words c.loop-at.trail.sat c.loop-at.trail.marks) (omega (arith, shown.long, c.loop-at-test.false, c.loop-at.invariant.0)) (c.loop-at.invariant.1 D R s shown e)

pub returns-2 : goal.returns-2
returns-2 c = let last : c.loop-at.at ≡ c.args.start.at = search rules in
    λ D R s shown e. subst (Descended D s R c.args.start.words c.step.new.trail.sat c.step.new.trail.marks) (omega (arith, shown.long, last)) (c.step.ensures D R s c.args.start.at shown c.loop-at-test.true (c.loop-at.invariant.1 D R s shown e))
