-- `push_literals` meets its contract: the row takes the slot of its number, and the links name it the newest.
use native.Mathlib.Omega.{arith}
use Prim.Native.Nat.{ℕ, suc, ◌*◌, ◌+◌, ◌-◌}
use mathlib.Core.List.{List}
use mathlib.Core.Path.{sym, ap, subst, ◌∙◌}
use lib.ListN.{length}
use Rattle.qbf.specs.Learning.{push}
use Rattle.tables.specs.Shelves.{shelf_rows}
use Rattle.shelf.specs.Coded.{row_behind}
use Rattle.shelf.specs.Masks.{Masks}
use Rattle.shelf.proofs.Masking.{masked_put}
use Rattle.shelf.proofs.Encoding.{row_taken, coded_pushed}
use Rattle.shelf.proofs.Marking.{marked_shelf, marked_rows, as_before, linked_before}
use Rattle.shelf.proofs.store.push_literals.Goals as goal

pub returns : goal.returns
returns c =
    let at = c.next_slot-slot.result * (c.args.stride + 1) in
    let links' = c.mark_up_to.new.links in
    let code = c.last_code-code.result in
    let slot = c.next_slot-slot.result in
    let m = c.mark_up_to.ensures in
    let p = coded_pushed (marked_shelf c.args.stride c.args.slots c.args.cells.now c.args.links.now links' code m c.requires.0) c.requires.2 c.args.literals.now c.args.places.now slot
    (at + 1 + length c.args.literals.now - (at + 1)) _ _ (as_before slot c.args.slots c.args.links.now links' c.next_slot-slot.ensures.0 m.newest) c.requires.4 c.encode_row.ensures (omega arith)
    c.last_code-code.ensures m.above (linked_before c.args.links.now links' _ code slot c.write_links.ensures m.newest) in
    let made = row_behind c.args.literals.now at c.encode_row.new.cells in (
      p.stands,
      masked_put c.requires.1 c.encode_row.new.cells slot c.mask_of.result p.low (subst (Masks c.mask_of.result) (sym p.is) (subst (Masks c.mask_of.result) (row_taken c.args.literals.now at (at + 1 + length c.args.literals.now - (at + 1)) c.encode_row.new.cells (omega arith)) c.mask_of.ensures)) p.others,
      p.newest ∙ ap suc m.newest,
      λ D s few.
          p.rows
          ∙ ap (push c.args.slots made) (marked_rows c.args.stride c.args.slots c.args.cells.now c.args.links.now links' code m)
          ∙ ap (λ (r : List ℕ). push c.args.slots r (shelf_rows c.args.stride c.args.slots c.args.cells.now c.args.links.now)) (c.encode_row.ensures.coded D s few),
    )
