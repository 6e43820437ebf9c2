-- `asking::card::card_of` meets its contract.
use mathlib.Core.Path.{ap, refl, sym, ◌∙◌}
use mathlib.Core.List.{[]}
use lib.Dec.{leb}
use Prim.Native.Nat.{◌*◌}
use lib.ListN.{length}
use Rattle.qbf.specs.Calls.{card_of}
use Rattle.qbf.specs.Card.{zero_table}
use Rattle.cover.proofs.Laws.{covers_none}
use Rattle.asking.proofs.Asking.{cleared_length, answered_as, open_node, halted_card, shown_card, full_card}
use Rattle.asking.proofs.Finding.{search_of}
use Rattle.asking.proofs.card.card_of.Goals as goal

pub returns-then-left-eq0-clause-answered : goal.returns-then-left-eq0-clause-answered
returns-then-left-eq0-clause-answered c = let k = c.args.checked in
    let frees = c.free-free.ensures.0 in
    let sized = c.run-found.ensures.table_len_unchanged.0 ∙ cleared_length (length c.args.table.now) c.clear.ensures in
    let found = search_of k c.given.ensures c.run-found.ensures.ran [] k.placed k.kinded (open_node _ _ c.clear-2.ensures) refl frees (covers_none c.free-free.result (length c.args.table.now) _ c.clear.ensures) in
    answered_as _ _ (card_of c.args.yes c.args.ceiling _) (c.stopped-listed.ensures c.clear-then-left-eq0.new.table)
    (halted_card _ _ _ k.accepted k.few_numbers k.few_clauses c.args.yes c.args.ceiling _ c.free-free.result c.budget_of.result c.run-found.result.answer c.run-found.result.learned _ frees sized c.budget_of.ensures.0 found c.if-left-eq0.true _
    (c.clear-then-left-eq0.ensures ∙ ap zero_table sized))

pub returns-then-fits-clause-answered : goal.returns-then-fits-clause-answered
returns-then-fits-clause-answered c = let k = c.args.checked in
    let frees = c.free-free.ensures.0 in
    let sized = c.run-found.ensures.table_len_unchanged.0 ∙ cleared_length (length c.args.table.now) c.clear.ensures in
    let found = search_of k c.given.ensures c.run-found.ensures.ran [] k.placed k.kinded (open_node _ _ c.clear-2.ensures) refl frees (covers_none c.free-free.result (length c.args.table.now) _ c.clear.ensures) in
    let lines = c.total_lines-lines in
    answered_as _ _ (card_of c.args.yes c.args.ceiling _) (c.of-listed.ensures _)
    (shown_card _ _ _ k.accepted k.few_numbers k.few_clauses c.args.yes c.args.ceiling _ c.free-free.result c.budget_of.result c.run-found.result.answer c.run-found.result.learned _ frees sized c.budget_of.ensures.0 found c.if-left-eq0.false
    c.visits_of-visits.result c.visits_of-visits.ensures lines.result lines.ensures (ap (λ i. leb (lines.result * c.free-free.result) i) (sym sized) ∙ sym c.fits.ensures ∙ c.if-fits.true))

pub returns-clause-answered : goal.returns-clause-answered
returns-clause-answered c = let k = c.args.checked in
    let frees = c.free-free.ensures.0 in
    let sized = c.run-found.ensures.table_len_unchanged.0 ∙ cleared_length (length c.args.table.now) c.clear.ensures in
    let found = search_of k c.given.ensures c.run-found.ensures.ran [] k.placed k.kinded (open_node _ _ c.clear-2.ensures) refl frees (covers_none c.free-free.result (length c.args.table.now) _ c.clear.ensures) in
    let lines = c.total_lines-lines in
    answered_as _ _ (card_of c.args.yes c.args.ceiling _) (c.too_many_lines-listed.ensures c.clear-3.new.table)
    (full_card _ _ _ k.accepted k.few_numbers k.few_clauses c.args.yes c.args.ceiling _ c.free-free.result c.budget_of.result c.run-found.result.answer c.run-found.result.learned _ frees sized c.budget_of.ensures.0 found c.if-left-eq0.false
    c.visits_of-visits.result c.visits_of-visits.ensures lines.result lines.ensures _ (c.clear-3.ensures ∙ ap zero_table sized) (ap (λ i. leb (lines.result * c.free-free.result) i) (sym sized) ∙ sym c.fits.ensures ∙ c.if-fits.false))
