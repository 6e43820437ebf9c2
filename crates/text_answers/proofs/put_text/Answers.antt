-- `put_text` meets its contract: the text, or the refusal written over the table.
use Prim.Native.Nat.{◌≤◌, min}
use native.Mathlib.Omega.{arith}
use mathlib.Core.Path.{◌≡◌}
use lib.ListN.{length, take, length-take}
use Rattle.qbf.specs.Formula.{highest}
use Rattle.booktext.specs.Books.{text_room}
use Rattle.answer_text.proofs.Room.{longest_book}
use Rattle.text_answers.proofs.Texts.{text_shown, text_refused}
use Rattle.text_answers.proofs.put_text.Goals as goal

pub returns-then-written-ne-NONE-clause-text : goal.returns-then-written-ne-NONE-clause-text
returns-then-written-ne-NONE-clause-text c =
    let room : text_room highest ≤ length c.args.out.now.bytes.now = omega (arith, longest_book, c.args.out.now.room) in
    let asked : length (take c.min-room.result c.args.out.now.bytes.now) ≡ min c.args.size (length c.args.out.now.bytes.now) = omega (arith, length-take c.min-room.result c.args.out.now.bytes.now, c.min-room.ensures) in
    text_refused c.args.cells.now c.args.literals.now c.args.line c.args.size c.write_at-written.result.refusal room asked c.write_at-written.ensures c.if-written-ne-NONE.true c.refuse.ensures.wrote

pub returns-clause-text : goal.returns-clause-text
returns-clause-text c =
    let room : text_room highest ≤ length c.args.out.now.bytes.now = omega (arith, longest_book, c.args.out.now.room) in
    let asked : length (take c.min-room.result c.args.out.now.bytes.now) ≡ min c.args.size (length c.args.out.now.bytes.now) = omega (arith, length-take c.min-room.result c.args.out.now.bytes.now, c.min-room.ensures) in
    text_shown c.args.cells.now c.args.literals.now c.args.line c.args.size c.write_at-written.result.refusal c.if-written-ne-NONE.false room asked _ c.write_at-written.ensures
