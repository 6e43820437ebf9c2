-- `put_places` writes one place after the other.
use native.Mathlib.Omega.{arith}
use borrow.Author.Rules.{rules}
use lib.ListN.{get_or}
use Rattle.writer.proofs.Appending.{left_all, left_more, left_none, left_as}
use Rattle.day_writer.proofs.Places.{places_step, places_end}
use Rattle.day_writer.proofs.Rooms.{share_room}
use Rattle.day_writer.proofs.shares_line.put_places.Goals as goal

pub loop-i-init : goal.loop-i-init
loop-i-init c = record { items = search rules; room = omega (arith, c.requires); within = omega arith; wrote = left_all _ _ }

pub put_share-requires : goal.put_share-requires
put_share-requires c = omega (arith, c.loop-i.invariant.room, share_room c.args.total c.args.used c.loop-i.i (get_or c.args.used c.loop-i.i 0) c.left.result (omega (arith, c.ranges.total)) (omega arith) (search rules) c.left.ensures)

pub loop-i-preserved : goal.loop-i-preserved
loop-i-preserved c =
    let short = share_room c.args.total c.args.used c.loop-i.i (get_or c.args.used c.loop-i.i 0) c.left.result (omega (arith, c.ranges.total)) (omega arith) (search rules) c.left.ensures in
    record {
      items = c.loop-i.invariant.items;
      room = omega (arith, c.loop-i.invariant.room, short, c.put_share.ensures.wrote.size, c.put_share.ensures.wrote.next);
      within = omega (arith, c.loop-i.invariant.within, short, c.put_share.ensures.wrote.next);
      wrote = left_more (left_as (places_step _ _ _ _ (search rules) c.left.ensures) c.loop-i.invariant.wrote) c.put_share.ensures;
    }

pub returns : goal.returns
returns c = (left_none (left_as (places_end _ _ _ (search rules)) c.loop-i.invariant.wrote), omega (arith, c.loop-i.invariant.within))
