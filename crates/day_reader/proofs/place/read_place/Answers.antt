-- `read_place` meets its contract: the brackets, the word, and what is left behind it.
use mathlib.Core.Path.{sym, ap, ◌∙◌}
use Rattle.std.specs.Prelude.{Option as Answer}
use Rattle.std.specs.Borrow.{Bor}
use Rattle.layout.specs.Words.{Bytes, space}
use Rattle.reader.specs.Pieces.{pieces}
use Rattle.day_text.specs.Lines.{place_items}
use Rattle.day_reader.proofs.Lines.{place_out, place_said, place_other}
use Rattle.day_reader.proofs.place.read_place.Goals as goal

pub returns-in_err-inside : goal.returns-in_err-inside
returns-in_err-inside c = rw c.from_residual.ensures (sym (place_out c.args.l.now c.in_err-inside.ensures))

pub returns-in_err-left : goal.returns-in_err-left
returns-in_err-left c =
    rw c.from_residual-in_err-left.ensures (sym (place_said c.args.l.now c.in_ok-inside.ensures c.cut.ensures (sym c.same_word.ensures ∙ c.if-same_word.true) ∙ ap (λ (l : Answer (Bor Bytes)). place_items (pieces space l)) c.in_err-left.was))

pub returns-then-same_word : goal.returns-then-same_word
returns-then-same_word c =
    c.read_items.ensures
    ∙ sym (place_said c.args.l.now c.in_ok-inside.ensures c.cut.ensures (sym c.same_word.ensures ∙ c.if-same_word.true) ∙ ap (λ (l : Answer (Bor Bytes)). place_items (pieces space l)) c.in_ok-left.was)

pub returns : goal.returns
returns c = sym (place_other c.args.l.now c.in_ok-inside.ensures c.cut.ensures (sym c.same_word.ensures ∙ c.if-same_word.false))
