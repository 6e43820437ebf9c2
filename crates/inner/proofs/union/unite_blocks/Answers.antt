-- The blocks before are written: what their words have in common and what is new in them.
use Rattle.std.proofs.Common.{rules, ◌≡◌, ◌*◌, arith, refl, subst, length, ℕ}
use Rattle.bitset.proofs.Uniting.{Uniting, uniting_none, united}
use Rattle.inner.proofs.Blocks.{as_far, uniting_block}
use Rattle.inner.proofs.union.unite_blocks.Goals as goal

pub loop-i-init : goal.loop-i-init
loop-i-init c = (refl, uniting_none c.args.t.now c.args.from c.args.to c.args.by.now)

pub loop-i-preserved : goal.loop-i-preserved
loop-i-preserved c = (
  search rules,
  as_far c.args.t.now c.args.from c.args.to c.args.by.now (omega arith)
      (uniting_block c.args.t.now c.args.from c.args.to c.args.by.now (c.loop-i.i * 4) c.loop-i.t c.loop-i.common c.loop-i.new (omega arith) c.loop-i.invariant.1),
)

pub returns : goal.returns
returns c =
    let end : c.loop-i.i * 4 ≡ length c.args.by.now = omega arith in
    united c.args.t.now c.args.from c.args.to c.args.by.now (λ k. search rules) (λ k. (c.type_inv.by k).fits) (length c.args.by.now) c.loop-i.t c.loop-i.common c.loop-i.new (omega arith)
    (subst (λ (j : ℕ). Uniting c.args.t.now c.args.from c.args.to c.args.by.now j c.loop-i.t c.loop-i.common c.loop-i.new) end c.loop-i.invariant.1)
