-- `put_shown` meets its contract: the rows by the table are the card.
use native.Mathlib.Omega.{arith}
use Rattle.answer_text.proofs.Room.{wrote_as}
use Rattle.card_answers.proofs.CardTexts.{card_written}
use Rattle.card_answers.proofs.card.put_shown.Goals as goal

pub invariant_of-lines : goal.invariant_of-lines
invariant_of-lines c = let w = card_written c.args.filled.sought.ceiling c.args.filled.sought.yes c.requires.read c.args.filled.table.now c.args.lines c.args.visits c.requires.said c.args.filled.small (omega (arith, c.ranges.visits)) c.args.names.numbers.now c.args.names.free c.requires.names in
    record { within = (w.named, w.room) }

pub put_card-requires : goal.put_card-requires
put_card-requires c = let w = card_written c.args.filled.sought.ceiling c.args.filled.sought.yes c.requires.read c.args.filled.table.now c.args.lines c.args.visits c.requires.said c.args.filled.small (omega (arith, c.ranges.visits)) c.args.names.numbers.now c.args.names.free c.requires.names in
    w.short

pub returns : goal.returns
returns c = λ h n.
    let w = card_written c.args.filled.sought.ceiling c.args.filled.sought.yes h.read c.args.filled.table.now c.args.lines c.args.visits h.said c.args.filled.small (omega (arith, c.ranges.visits)) c.args.names.numbers.now c.args.names.free h.names in
    record { held = c.put_card.ensures.held; wrote = wrote_as (w.text n) c.put_card.ensures.wrote }
