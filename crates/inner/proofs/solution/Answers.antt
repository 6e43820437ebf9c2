-- `solution` meets its contract: step 3 where every clause is satisfied, else step 4.
use native.Mathlib.Omega.{arith}
use mathlib.Core.Path.{sym, ◌∙◌}
use lib.Dec.{eqb}
use Rattle.inner.specs.Steps.{matched}
use Rattle.search_entry.specs.declared.bounds.Bounds.{Bounds}
use Rattle.search_entry.specs.declared.Source.TheVariants.{Area}
use Rattle.inner.proofs.Conclusions.{reached_all}
use Rattle.inner.proofs.solution.Goals as goal

pub returns-then-step_down-clause-leaf_coded : goal.returns-then-step_down-clause-leaf_coded
returns-then-step_down-clause-leaf_coded c =
    let short = c.cube-n.ensures.0 in
    let at : Bounds = record { source = Area; start = 0; len = c.cube-n.result; inside = record { short = short; inside = omega (arith, short) } } in
    λ D R s st k cls cs quantified shown formed given worded rows by entered.
    let down = c.step_down.ensures.descended D R s k given by entered in (
      down.0,
      reached_all D R s (matched D eqb s st.cubes) down.1 cls cs c.args.cubes.now.cells.now c.cube-n.new.up c.if-step_down.true at
          (c.cube-n.ensures.1 D R s st shown quantified formed given.long down.0.marked (sym down.1 ∙ c.if-step_down.true)),
    )
