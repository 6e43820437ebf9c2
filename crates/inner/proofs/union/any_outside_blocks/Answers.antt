-- What is outside in the words of the blocks before is gathered: nothing, or a block has a number, which the row then has.
use Rattle.std.proofs.Common.{◌≡◌, ◌∙◌, ◌+◌, ◌*◌, sym, refl, arith, ap, length, ℕ}
use mathlib.Core.Bool.{not}
use lib.Dec.{eqb}
use borrow.Author.Tests.{ne_eqb}
use lib.Bits.{bit_or}
use Rattle.bitset.specs.Rows.{outside, width}
use Rattle.bitset.proofs.Below.{some_at, some_found}
use Rattle.bitset.proofs.Gathered.{gathered, gathered_none}
use Rattle.bitset.proofs.Outside.{rests, gathers_all}
use Rattle.inner.proofs.Blocks.{gathered_block}
use Rattle.inner.proofs.union.any_outside_blocks.Goals as goal

pub loop-i-init : goal.loop-i-init
loop-i-init c = (gathered_none bit_or 0 (rests c.args.a.now c.args.b.now), refl)

pub loop-i-preserved : goal.loop-i-preserved
loop-i-preserved c = (
  gathered_block c.args.a.now c.args.b.now (c.loop-i.i * 4) c.loop-i.w c.loop-i.invariant.0 ∙ ap (gathered bit_or 0 (rests c.args.a.now c.args.b.now)) (omega arith),
  omega (arith, c.if-found.false),
)

pub returns-then-found : goal.returns-then-found
returns-then-found c =
    let f = outside c.args.a.now 0 c.args.b.now 0 in
    let n = c.loop-i.i * 4 + 1 + 1 + 1 + 1 in
    let some = gathers_all c.args.a.now c.args.b.now (λ k. (c.type_inv.a k).fits) (λ k. (c.type_inv.b k).fits) n _
    (gathered_block c.args.a.now c.args.b.now (c.loop-i.i * 4) c.loop-i.w c.loop-i.invariant.0) in
    let at = some_found f (n * width) (sym some ∙ ap not (ne_eqb _ 0 c.if-found.true)) in
    sym (some_at f (length c.args.a.now * width) at.0 (omega (arith, at.1)) at.2)

pub returns : goal.returns
returns c =
    let end : c.loop-i.i * 4 ≡ length c.args.a.now = omega arith in
    sym (ap (λ (w : ℕ). not (eqb w 0)) c.loop-i.invariant.1)
    ∙ gathers_all c.args.a.now c.args.b.now (λ k. (c.type_inv.a k).fits) (λ k. (c.type_inv.b k).fits) (length c.args.a.now) c.loop-i.w
    (c.loop-i.invariant.0 ∙ ap (gathered bit_or 0 (rests c.args.a.now c.args.b.now)) end)
