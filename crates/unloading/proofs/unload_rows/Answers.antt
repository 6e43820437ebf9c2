-- `unload_rows` meets its contract: after k turns the first k rows that stand are written.
use native.Mathlib.Omega.{arith}
use Prim.Native.Nat.{ℕ, ◌-◌}
use mathlib.Core.Path.{refl, ap, subst, ◌∙◌}
use lib.ListN.{length-set}
use Rattle.qbf.specs.Formula.{paper}
use Rattle.unloading.specs.Written.{entry_at, Unloaded}
use Rattle.unloading.proofs.Unloading.{same_table, same_then, unload_none, unload_more, unload_end}
use Rattle.unloading.proofs.unload_rows.Goals as goal

pub loop-k-init : goal.loop-k-init
loop-k-init c = (same_table, unload_none c.args.table.now.width c.args.numbers.now c.args.shelf.now.cells.now c.args.shelf.now.links.now c.args.table.now.cells.now c.args.table.now.sizes.now c.args.table.now.room c.args.table.now.counted, refl)

pub loop-k-preserved : goal.loop-k-preserved
loop-k-preserved c = (
  same_then c.loop-k.invariant.0 c.unload_row.ensures.same,
  unload_more c.args.shelf.now.cells.now c.args.shelf.now.links.now c.loop-k.invariant.1 (omega (arith, c.loop-k-test.true, c.standing-count.ensures.1)) _ _
      (subst (λ (w : ℕ). Unloaded w c.args.numbers.now (entry_at c.args.shelf.now.cells.now c.args.shelf.now.links.now c.loop-k.k) c.loop-k.k c.loop-k.table.cells.now c.loop-k.table.sizes.now c.unload_row.new.table.cells.now c.unload_row.new.table.sizes.now)
      c.loop-k.invariant.0.width c.unload_row.ensures.unloaded),
  c.unload_row.ensures.unloaded.room ∙ c.loop-k.invariant.2,
)

pub returns-clause-unloaded : goal.returns-clause-unloaded
returns-clause-unloaded c = let e = unload_end c.args.shelf.now.cells.now c.args.shelf.now.links.now c.loop-k.invariant.1 c.standing-count.result (omega arith) (c.standing-count.ensures.0 ∙ ap (λ (n : ℕ). n - (n - paper.constraints)) c.newest.ensures) in
    (e.0, e.1, e.2, e.3, c.loop-k.invariant.2, length-set c.loop-k.table.sizes.now 0 c.standing-count.result ∙ c.loop-k.invariant.1.size)
