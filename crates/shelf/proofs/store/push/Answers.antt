-- `push` meets its contract: the row takes the slot of its number, and the links name it the newest.
use native.Mathlib.Omega.{arith}
use Prim.Native.Nat.{suc}
use mathlib.Core.Path.{sym, ap, subst, ◌∙◌}
use Rattle.qbf.specs.Learning.{push}
use Rattle.shelf.proofs.Marking.{marked_shelf, marked_rows, as_before, linked_before}
use Rattle.shelf.specs.Masks.{Masks}
use Rattle.shelf.proofs.Masking.{masked_put}
use Rattle.shelf.proofs.Pushing.{pushing}
use Rattle.shelf.proofs.store.push.Goals as goal

pub returns : goal.returns
returns c =
    let links' = c.mark_up_to.new.links in
    let code = c.last_code-code.result in
    let slot = c.next_slot-slot.result in
    let m = c.mark_up_to.ensures in
    let p = pushing (marked_shelf c.args.stride c.args.slots c.args.cells.now c.args.links.now links' code m c.requires.0) c.requires.2 c.args.row.now slot code _ _
    (as_before slot c.args.slots c.args.links.now links' c.next_slot-slot.ensures.0 m.newest) c.last_code-code.ensures (omega (arith, c.last_code-code.type_inv)) m.above c.requires.4 c.write_row.ensures
    (linked_before c.args.links.now links' _ code slot c.write_links.ensures m.newest) in
    (p.stands, masked_put c.requires.1 c.write_row.new.cells slot c.mask_of.result p.low (subst (Masks c.mask_of.result) (sym p.is) c.mask_of.ensures) p.others, p.rows ∙ ap (push c.args.slots c.args.row.now) (marked_rows c.args.stride c.args.slots c.args.cells.now c.args.links.now links' code m), p.newest ∙ ap suc m.newest, p.low, p.kept)
