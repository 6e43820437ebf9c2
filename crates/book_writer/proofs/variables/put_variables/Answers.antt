-- `put_variables` writes one place after the other, and the line of the last one stands open.
use mathlib.Core.Path.{sym, ◌∙◌}
use mathlib.Core.List.{[], append-nil}
use native.Mathlib.Omega.{arith}
use Rattle.layout.specs.Words.{ascii}
use Rattle.writer.proofs.Appending.{left_room, left_more, left_none, left_as}
use Rattle.book_writer.proofs.Places.{places_next, places_end}
use Rattle.book_writer.proofs.variables.put_variables.Goals as goal

pub put_variable-requires : goal.put_variable-requires
put_variable-requires c =
    left_room _ _
    (left_as (places_next c.args.variables.numbers.now c.args.variables.levels.now c.args.variables.kinds.now _ (omega (arith, c.loop-i-test.true, c.cell_at-count.ensures)) c.kind_at-kind.ensures c.cell_at-n.ensures) c.loop-i.invariant)
    c.requires

pub loop-i-preserved : goal.loop-i-preserved
loop-i-preserved c =
    left_more
    (left_as (places_next c.args.variables.numbers.now c.args.variables.levels.now c.args.variables.kinds.now _ (omega (arith, c.loop-i-test.true, c.cell_at-count.ensures)) c.kind_at-kind.ensures c.cell_at-n.ensures) c.loop-i.invariant)
    c.put_variable.ensures

pub put_word-requires : goal.put_word-requires
put_word-requires c =
    left_room (ascii ")\n") []
    (left_as (places_end c.args.variables.numbers.now c.args.variables.levels.now c.args.variables.kinds.now _ (omega (arith, c.loop-i-test.false, c.cell_at-count.ensures)) ∙ sym (append-nil _)) c.loop-i.invariant)
    c.requires

pub returns : goal.returns
returns c =
    left_none
    (left_more
    (left_as (places_end c.args.variables.numbers.now c.args.variables.levels.now c.args.variables.kinds.now _ (omega (arith, c.loop-i-test.false, c.cell_at-count.ensures)) ∙ sym (append-nil _)) c.loop-i.invariant)
    c.put_word.ensures)
