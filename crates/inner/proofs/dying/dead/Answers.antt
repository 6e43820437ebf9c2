-- `inner::dying::dead` meets its contract. The least clause that can die by the value and was not satisfied above is the first dead one.
use native.Mathlib.Omega.{arith}
use Prim.Native.Nat.{◌-◌, ◌*◌}
use mathlib.Core.Path.{sym, subst, ◌∙◌}
use Rattle.tables.specs.Sets.{dying_row}
use Rattle.bitset.proofs.Parts.{least_outside}
use Rattle.inner.specs.Inner.{FoundCoded}
use Rattle.inner.proofs.Stepping.{none_least, one_least}
use Rattle.inner.proofs.dying.dead.Goals as goal

pub returns-then-g-k : goal.returns-then-g-k
returns-then-g-k c D R s st k marks cs area given shown formed entered =
    let g = c.args.g in
    let least = c.first_outside-k.ensures
    ∙ least_outside c.args.matrix.now.sets (dying_row g.words g.code) c.args.sat.now ((g.at - 1) * g.words) g.words c.dying_row-dying.ensures.0 c.row_above-above.ensures.0 c.dying_row-dying.ensures.1 in
    none_least given shown formed entered least (omega arith)

pub returns : goal.returns
returns c D R s st k marks cs area given shown formed entered =
    let g = c.args.g in
    let least = c.first_outside-k.ensures
    ∙ least_outside c.args.matrix.now.sets (dying_row g.words g.code) c.args.sat.now ((g.at - 1) * g.words) g.words c.dying_row-dying.ensures.0 c.row_above-above.ensures.0 c.dying_row-dying.ensures.1 in
    let w = one_least given shown formed entered least (omega arith) in
    subst (FoundCoded D c.clause_at.result c.args.matrix.now.rows cs area) (sym w.1)
    (c.clause_at.ensures D _ cs area (omega (arith, w.0, shown.few)) (shown.short _ w.0) (shown.dying _ w.0))
