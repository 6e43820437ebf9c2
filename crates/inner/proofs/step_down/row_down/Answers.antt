-- `inner::step_down::row_down` meets its contract. The clauses that the value satisfies are a part of their table.
use Prim.Native.Nat.{◌-◌, ◌*◌}
use Rattle.tables.specs.Sets.{satisfying_row}
use Rattle.bitset.proofs.Parts.{united_part}
use Rattle.inner.proofs.step_down.row_down.Goals as goal

pub returns-then-whole : goal.returns-then-whole
returns-then-whole c =
    let g = c.args.g in
    let by = c.satisfying_row-by.ensures in
    united_part ((g.at - 1) * g.words) (g.at * g.words) (satisfying_row g.words g.code) g.words c.args.sets.now c.args.sat.now _ _ _ by.0 by.1 c.unite_blocks.ensures

pub returns : goal.returns
returns c =
    let g = c.args.g in
    let by = c.satisfying_row-by.ensures in
    united_part ((g.at - 1) * g.words) (g.at * g.words) (satisfying_row g.words g.code) g.words c.args.sets.now c.args.sat.now _ _ _ by.0 by.1 c.unite.ensures
