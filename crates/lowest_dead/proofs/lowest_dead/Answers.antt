-- `lowest_dead::lowest_dead` meets its contract: `best` is the lowest dead clause before `from`.
use Rattle.std.proofs.Common.{rules, ◌≡◌, ◌+◌, ◌∙◌, sym, ap, subst, Some, option_map}
use Rattle.qbf.specs.Learning.{reach}
use Rattle.lowest_dead.specs.declared.Lowest.{Lowest}
use Rattle.lowest_dead.proofs.Lowering.{Lowering, lowering_start, lowering_more, lowering_end}
use Rattle.lowest_dead.proofs.lowest_dead.Goals as goal

pub loop-k-init : goal.loop-k-init
loop-k-init c = lowering_start

pub loop-k-preserved : goal.loop-k-preserved
loop-k-preserved c =
    subst (λ (b : Lowest). Lowering c.args.clauses.width c.args.clauses.cells.now c.args.clauses.sizes.now c.args.shown.places.now c.args.shown.kinds.now c.args.shown.values.now (Some b) (c.in-Some.k + 1)) (sym c.lower.ensures)
    (lowering_more c.loop-k.invariant c.in-Some.ensures (λ D p q. c.reach_of-reach.ensures D p q ∙ ap (reach D) c.row.ensures))

pub returns : goal.returns
returns c =
    let e : c.map.result ≡ option_map (λ (b : Lowest). b.at) c.loop-k.best = search rules in
    rw e (lowering_end c.loop-k.invariant c.in_default.ensures)
