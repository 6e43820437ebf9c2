-- What is outside in the words before is gathered.
use Rattle.std.proofs.Common.{◌≡◌, ◌∙◌, sym, arith, ap, ap₂, length}
use Rattle.std.proofs.lemmas.Slice.Zip.{zip_turn, zip_end}
use Rattle.std.proofs.lemmas.List.{length_push}
use lib.Bits.{bit_or}
use Rattle.bitset.specs.Words.{rest}
use Rattle.bitset.proofs.Gathered.{gathered_none, gathered_more, gathered}
use Rattle.bitset.proofs.Outside.{rests, gathers_all}
use Rattle.bitset.proofs.rows.any_outside.Goals as goal

pub loop-x-init : goal.loop-x-init
loop-x-init c = gathered_none bit_or 0 (rests c.args.a.now c.args.b.now)

pub loop-x-preserved : goal.loop-x-preserved
loop-x-preserved c =
    let t = zip_turn c.args.a.now c.args.b.now c.loop-x.yielded c.into_iter-x-iterator.result c.loop-x.x-iterator c.next.new.self _ (cc) (cc) c.loop-x.yielded_by _ c.in-Some.is c.next.ensures.steps in
    let n = length_push c.loop-x.yielded (c.in-Some.x, c.in-Some.y) in
    gathered_more bit_or 0 (rests c.args.a.now c.args.b.now) (length c.loop-x.yielded) _ _ c.loop-x.invariant (c.rest-w.ensures ∙ ap₂ rest (t.2 0) (t.3 0))
    ∙ ap (gathered bit_or 0 (rests c.args.a.now c.args.b.now)) (sym n)

pub returns : goal.returns
returns c =
    let e = zip_end c.args.a.now c.args.b.now c.loop-x.yielded c.into_iter-x-iterator.result c.loop-x.x-iterator c.next.new.self _ (cc) (cc) c.loop-x.yielded_by c.in-None.is c.next.ensures.steps in
    let end : length c.loop-x.yielded ≡ length c.args.a.now = omega (arith, e, c.requires) in
    gathers_all c.args.a.now c.args.b.now (λ k. (c.type_inv.a k).fits) (λ k. (c.type_inv.b k).fits) (length c.args.a.now) c.loop-x.w
    (c.loop-x.invariant ∙ ap (gathered bit_or 0 (rests c.args.a.now c.args.b.now)) end)
