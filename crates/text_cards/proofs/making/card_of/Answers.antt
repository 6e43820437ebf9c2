-- `making::card_of` meets its contract.
use mathlib.Core.Bool.{true}
use lib.ListN.{length}
use Rattle.qbf.specs.Ceiling.{highest_ceiling}
use Rattle.qbf.specs.Calls.{card}
use Rattle.state_parts.specs.Parts.{read_at}
use Rattle.card_answers.proofs.Kept.{card_kept, names_before}
use Rattle.text_cards.proofs.Cards.{frees_are, lines_made}
use Rattle.text_cards.proofs.making.card_of.Goals as goal

pub returns-in-Ok : goal.returns-in-Ok
returns-in-Ok c = λ b e ok.
    let s = c.card_of-listed.ensures.serves in
    let o = read_at c.args.cells.now c.args.literals.now in
    let size = length c.args.table.now in
    let r = c.card_of-listed.result in
    let n = c.names_at-names.result in
    let names = names_before (card highest_ceiling size) (card_kept true highest_ceiling size) o _ s.next n (λ y i g. c.names_at-names.ensures _ y i g) in
    lines_made o size r.lines r.visits c.card_of-listed.new.table s.answered b e ok c.in-Ok.lines c.in-Ok.is n.free (frees_are o size r.lines r.visits c.card_of-listed.new.table s.answered b e ok n names)
