-- `inner::conflict` meets its contract. The clause that dies, else the learned clause that is false.
use mathlib.Core.Bool.{false}
use lib.Dec.{eqb}
use Rattle.qbf.specs.Learning.{eligible_match, lowest_dead, reduced_found}
use Rattle.inner.proofs.Conclusions.{dying_found}
use Rattle.inner.proofs.conflict.Goals as goal

pub returns-in-Some : goal.returns-in-Some
returns-in-Some c = let cls = c.args.matrix.now.rows in
    let cs = c.args.learned.now.cells.now in
    λ D R s st k marks area shown given worded matrix formed entered learned.
    dying_found D (reduced_found D false (lowest_dead D s R)) (eligible_match D eqb false s st.clauses) cls cs area (c.dead.ensures D R s st k marks cs area given matrix formed entered) c.in-Some.is
