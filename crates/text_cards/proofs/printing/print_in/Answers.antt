-- `printing::print_in` meets its contract.
use borrow.Author.Rules.{rules}
use mathlib.Core.Path.{◌≡◌, ◌∙◌, ap}
use mathlib.Core.Bool.{true}
use mathlib.Core.Option.{some}
use lib.ListN.{length}
use Rattle.qbf.specs.Ceiling.{highest_ceiling}
use Rattle.qbf.specs.Calls.{card}
use Rattle.serving.specs.Serves.{said_of, out_of}
use Rattle.state_parts.specs.Parts.{read_at}
use Rattle.card_answers.specs.Lines.{line_answer}
use Rattle.answer_text.proofs.Room.{wrote_as}
use Rattle.card_answers.proofs.Kept.{card_kept, names_before}
use Rattle.text_cards.proofs.Cards.{shown_on, refused_printed, shown_printed}
use Rattle.text_cards.proofs.printing.print_in.Goals as goal

pub put_shown-requires : goal.put_shown-requires
put_shown-requires c = shown_on (read_at c.args.cells.now c.args.literals.now) c.names_at-names.result
    (names_before (card highest_ceiling (length c.args.table.now)) (card_kept true highest_ceiling (length c.args.table.now)) (read_at c.args.cells.now c.args.literals.now) _ c.card_of-listed.ensures.serves.next c.names_at-names.result (λ y i g. c.names_at-names.ensures _ y i g))
    _ c.card_of-listed.result.lines c.in-Ok.lines c.card_of-listed.result.visits
    (c.card_of-listed.ensures.serves.answered ∙ ap (λ m. said_of (out_of (read_at c.args.cells.now c.args.literals.now) (card highest_ceiling m))) (search rules)) c.in-Ok.is

pub returns-in-Ok-clause-held : goal.returns-in-Ok-clause-held
returns-in-Ok-clause-held c = (c.put_shown.ensures (shown_on (read_at c.args.cells.now c.args.literals.now) c.names_at-names.result
    (names_before (card highest_ceiling (length c.args.table.now)) (card_kept true highest_ceiling (length c.args.table.now)) (read_at c.args.cells.now c.args.literals.now) _ c.card_of-listed.ensures.serves.next c.names_at-names.result (λ y i g. c.names_at-names.ensures _ y i g))
    _ c.card_of-listed.result.lines c.in-Ok.lines c.card_of-listed.result.visits
    (c.card_of-listed.ensures.serves.answered ∙ ap (λ m. said_of (out_of (read_at c.args.cells.now c.args.literals.now) (card highest_ceiling m))) (search rules)) c.in-Ok.is) 0).held

pub returns-in-Ok-clause-printed : goal.returns-in-Ok-clause-printed
returns-in-Ok-clause-printed c = λ b e ok.
    let s = c.card_of-listed.ensures.serves in
    let o = read_at c.args.cells.now c.args.literals.now in
    let size = length c.args.table.now in
    let r = c.card_of-listed.result in
    let long : length c.card_of-listed.new.table ≡ length c.args.table.now = search rules in
    wrote_as
    (ap (λ m. line_answer o 0 (some (card highest_ceiling m))) long ∙ shown_printed o size r.lines r.visits c.card_of-listed.new.table s.answered b e ok c.in-Ok.lines c.in-Ok.is 0)
    (c.put_shown.ensures (shown_on (read_at c.args.cells.now c.args.literals.now) c.names_at-names.result
    (names_before (card highest_ceiling (length c.args.table.now)) (card_kept true highest_ceiling (length c.args.table.now)) (read_at c.args.cells.now c.args.literals.now) _ c.card_of-listed.ensures.serves.next c.names_at-names.result (λ y i g. c.names_at-names.ensures _ y i g))
    _ c.card_of-listed.result.lines c.in-Ok.lines c.card_of-listed.result.visits
    (c.card_of-listed.ensures.serves.answered ∙ ap (λ m. said_of (out_of (read_at c.args.cells.now c.args.literals.now) (card highest_ceiling m))) (search rules)) c.in-Ok.is) 0).wrote

pub returns-in-Err-clause-printed : goal.returns-in-Err-clause-printed
returns-in-Err-clause-printed c = λ b e ok.
    let r = c.card_of-listed.result in
    wrote_as
    (refused_printed (read_at c.args.cells.now c.args.literals.now) (length c.args.table.now) r.lines r.visits c.card_of-listed.new.table c.card_of-listed.ensures.serves.answered b e ok c.in-Err.refusal c.in-Err.is c.number.result c.number.ensures)
    c.refuse_card.ensures.wrote
