-- `inner::dying::any_dies` meets its contract. Both rows are parts of their tables.
use Prim.Native.Nat.{ℕ, ◌-◌, ◌*◌}
use mathlib.Core.Path.{ap, ◌∙◌}
use lib.Dec.{ltb}
use Rattle.bitset.specs.Rows.{width}
use Rattle.tables.specs.Sets.{dying_row}
use Rattle.bitset.proofs.Parts.{least_outside, some_outside}
use Rattle.inner.specs.Inner.{killing}
use Rattle.inner.proofs.Tested.{some_least}
use Rattle.inner.proofs.dying.any_dies.Goals as goal

pub returns-then-whole : goal.returns-then-whole
returns-then-whole c =
    let g = c.args.g in
    c.any_outside_blocks.ensures
    ∙ some_outside c.args.sets.now (dying_row g.words g.code) c.args.sat.now ((g.at - 1) * g.words) g.words c.dying_row-dying.ensures.0 c.row_above-above.ensures.0 c.dying_row-dying.ensures.1

pub returns : goal.returns
returns c =
    let g = c.args.g in
    let least = c.first_outside.ensures
    ∙ least_outside c.args.sets.now (dying_row g.words g.code) c.args.sat.now ((g.at - 1) * g.words) g.words c.dying_row-dying.ensures.0 c.row_above-above.ensures.0 c.dying_row-dying.ensures.1 in
    ap (λ (k : ℕ). ltb k (g.words * width)) least ∙ some_least (killing c.args.sets.now c.args.sat.now g.code g.at g.words) (g.words * width)
