-- `serve_overspent` meets its contract.
use mathlib.Core.Path.{sym, ◌∙◌}
use Rattle.sessions.specs.Session.{request_of}
use Rattle.reader.specs.Requests.{from_line}
use Rattle.day_lines.specs.Asked.{kind_read}
use Rattle.day_lines.proofs.Requests.{asks}
use Rattle.day_lines.proofs.Placed.{asked_reads, asked_lists, asked_calls}
use Rattle.day_lines.proofs.place.serve_overspent.Goals as goal

pub returns-in-Reads : goal.returns-in-Reads
returns-in-Reads c =
    asked_reads c.args.kept.now c.args.cells.now c.args.literals.now c.args.cards.now c.args.request.place (request_of c.args.request.asked.bytes.now) (kind_read c.args.request.asked.line) (asks (from_line c.args.request.asked.bytes.now) c.args.request.asked.line c.args.request.asked.lits.now c.requires.2) c.args.request.number c.requires.0 (sym c.kind_of.ensures ∙ c.in-Reads.is) c.serve_book.ensures

pub returns-in-Lists : goal.returns-in-Lists
returns-in-Lists c =
    asked_lists c.args.kept.now c.args.cells.now c.args.literals.now c.args.cards.now c.args.request.place (request_of c.args.request.asked.bytes.now) (kind_read c.args.request.asked.line) (asks (from_line c.args.request.asked.bytes.now) c.args.request.asked.line c.args.request.asked.lits.now c.requires.2) c.args.request.number c.requires.0 (sym c.kind_of.ensures ∙ c.in-Lists.is)
    c.drop_card.new.kept c.drop_card.ensures c.number.result c.number.ensures c.write_refusal.ensures

pub returns-in-Calls : goal.returns-in-Calls
returns-in-Calls c =
    asked_calls c.args.kept.now c.args.cells.now c.args.literals.now c.args.cards.now c.args.request.place (request_of c.args.request.asked.bytes.now) (kind_read c.args.request.asked.line) (asks (from_line c.args.request.asked.bytes.now) c.args.request.asked.line c.args.request.asked.lits.now c.requires.2) c.args.request.number c.requires.0 (sym c.kind_of.ensures ∙ c.in-Calls.is)
    c.number-in-Calls.result c.number-in-Calls.ensures c.write_refusal-in-Calls.ensures
