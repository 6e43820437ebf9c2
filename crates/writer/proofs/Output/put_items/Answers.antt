-- `put_items` writes one item after the other.
use Rattle.std.proofs.Common.{◌≡◌, ℕ, length, take, drop, ap, sym, ◌∙◌, arith}
use lib.ListN.{length-drop}
use lib.Seq.{take-length}
use Rattle.std.proofs.lemmas.Slice.Zip.{either_empty_from_Zip}
use Rattle.writer.proofs.Appending.{left_all, left_room, left_more, left_none, left_as}
use Rattle.writer.proofs.Written.{items_start, items_step, items_end}
use Rattle.writer.proofs.Output.put_items.Goals as goal

pub loop-number-init : goal.loop-number-init
loop-number-init c =
    let ns : c.into_iter-number-iterator.result.a.rest.now ≡ drop 1 c.args.numbers.now =
    ap (λ z. z.a.rest.now) c.into_iter-number-iterator.ensures.into_iter_gives ∙ ap (λ i. i.rest.now) c.zip-number-items.ensures.first ∙ c.iter.ensures.rest
    ∙ ap (λ (k : ℕ). take k (drop 1 c.args.numbers.now)) (sym (length-drop 1 c.args.numbers.now)) ∙ take-length (drop 1 c.args.numbers.now) in
    let vs : c.into_iter-number-iterator.result.b.rest.now ≡ c.args.row.now =
    ap (λ z. z.b.rest.now) c.into_iter-number-iterator.ensures.into_iter_gives ∙ c.zip-number-items.ensures.second.0 in (
      omega (arith, ap length ns, ap length vs, length-drop 1 c.args.numbers.now, c.requires.row_in_bounds),
      left_as (items_start _ _ _ _ ns vs c.requires.row_in_bounds) (left_all _ _),
    )

pub put_item-requires : goal.put_item-requires
put_item-requires c =
    let s = c.in-Some.ensures.steps in
    left_room _ _ (left_as (items_step _ _ _ _ _ _ s.0 s.1) c.loop-number.invariant.1) c.requires.room

pub loop-number-preserved : goal.loop-number-preserved
loop-number-preserved c =
    let s = c.in-Some.ensures.steps in (
      omega (arith, ap length s.0, ap length s.1, c.loop-number.invariant.0),
      left_more (left_as (items_step _ _ _ _ _ _ s.0 s.1) c.loop-number.invariant.1) c.put_item.ensures,
    )

pub returns : goal.returns
returns c =
    let e = either_empty_from_Zip c.loop-number.number-iterator c.next.new.self c.next.result c.in-None.is c.next.ensures.steps in
    left_none (left_as (items_end _ _ c.loop-number.invariant.0 e) c.loop-number.invariant.1)
