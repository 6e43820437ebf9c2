-- A call that changes the rules or the store: the line of one that is done, and the card that it leaves.
use Rattle.std.specs.Prelude.{ℕ, cond, eqb}
use Rattle.qbf.specs.Calls as call
use Rattle.layout.specs.Words.{Bytes}
use Rattle.layout.specs.Output.{accepted_text, withdrawn_text, forgotten_text}
use Rattle.answer_text.specs.declared.shown.Shown.{Shown}
use Rattle.answer_text.specs.Shown.{no_card}
use Rattle.line_turns.specs.declared.change.Change.{Change}
use Rattle.line_turns.specs.declared.change.Change.TheVariants as change

abbrev pub changes : Change → call.Call
changes (change.Rule ls) = call.rule ls.now
changes (change.One ls) = call.one ls.now
changes change.Withdraw = call.withdraw
changes change.Forget = call.forget

abbrev pub done_word : Change → Bytes
done_word (change.Rule ls) = accepted_text
done_word (change.One ls) = accepted_text
done_word change.Withdraw = withdrawn_text
done_word change.Forget = forgotten_text

-- by the number of the refusal: what was added or withdrawn leaves no card
abbrev pub card_left : Change → Shown → ℕ → Shown
card_left (change.Rule ls) s n = cond (eqb n 0) no_card s
card_left (change.One ls) s n = cond (eqb n 0) no_card s
card_left change.Withdraw s n = cond (eqb n 0) no_card s
card_left change.Forget s n = s
