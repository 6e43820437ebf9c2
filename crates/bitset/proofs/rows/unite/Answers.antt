-- The words before are written: what they have in common and what is new in them.
use Rattle.std.proofs.Common.{rules, ◌≡◌, arith, refl, subst, length, ℕ}
use Rattle.bitset.proofs.Uniting.{Uniting, uniting_none, uniting_more, united}
use Rattle.bitset.proofs.rows.unite.Goals as goal

pub loop-k-init : goal.loop-k-init
loop-k-init c = (refl, uniting_none c.args.t.now c.args.from c.args.to c.args.by.now)

pub loop-k-preserved : goal.loop-k-preserved
loop-k-preserved c = (
  search rules,
  uniting_more c.args.t.now c.args.from c.args.to c.args.by.now c.loop-k.k c.loop-k.t c.loop-k.common c.loop-k.new _ _ (omega arith) c.loop-k.invariant.1 refl refl,
)

pub returns : goal.returns
returns c =
    let end : c.loop-k.k ≡ length c.args.by.now = omega arith in
    united c.args.t.now c.args.from c.args.to c.args.by.now (λ k. search rules) (λ k. (c.type_inv.by k).fits) (length c.args.by.now) c.loop-k.t c.loop-k.common c.loop-k.new (omega arith)
    (subst (λ (j : ℕ). Uniting c.args.t.now c.args.from c.args.to c.args.by.now j c.loop-k.t c.loop-k.common c.loop-k.new) end c.loop-k.invariant.1)
