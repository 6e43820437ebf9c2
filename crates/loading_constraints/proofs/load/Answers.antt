-- `load` meets its contract: after k turns the first k rows stand on the shelf.
use native.Mathlib.Omega.{arith}
use Prim.Native.Nat.{suc}
use mathlib.Core.Path.{ap, ◌∙◌}
use mathlib.Core.List.{List}
use lib.IntN.{ℤ}
use Rattle.qbf.specs.Formula.{paper}
use Rattle.qbf.specs.Learning.{push}
use Rattle.tables.specs.Codes.{codes}
use Rattle.tables.specs.Shelves.{entries_of}
use Rattle.loading_constraints.proofs.Loading.{load_none, load_more}
use Rattle.loading_constraints.proofs.load.Goals as goal

pub loop-k-init : goal.loop-k-init
loop-k-init c = load_none c.args.table.width c.args.table.cells.now c.args.table.sizes.now c.args.places.now c.args.shelf.now.cells.now c.args.shelf.now.links.now c.args.shelf.now.agree c.requires.2

pub loop-k-preserved : goal.loop-k-preserved
loop-k-preserved c =
    load_more c.loop-k.invariant (omega (arith, c.loop-k-test.true, c.count-count.ensures, c.requires.0.few)) _ _ c.push_literals.new.self.agree (c.push_literals.ensures.0 ∙ ap suc c.loop-k.invariant.newest)
    (λ D p few. c.push_literals.ensures.1 D p few ∙ ap (λ (x : List ℤ). push paper.constraints (codes D x) (entries_of c.loop-k.shelf.cells.now c.loop-k.shelf.links.now)) c.row.ensures)
