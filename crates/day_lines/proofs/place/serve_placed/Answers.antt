-- `serve_placed` meets its contract.
use native.Mathlib.Omega.{arith}
use mathlib.Core.Path.{sym}
use Rattle.reader.specs.Requests.{from_line}
use Rattle.day_lines.specs.Asked.{kind_read}
use Rattle.day_lines.proofs.Requests.{asks}
use Rattle.day_lines.proofs.Placed.{overspent_here, asked_shared, asked_nowhere}
use Rattle.day_lines.proofs.place.serve_placed.Goals as goal

pub serve_overspent-requires : goal.serve_overspent-requires
serve_overspent-requires c =
    let b = overspent_here c.args.kept.now c.args.cells.now c.args.literals.now c.args.cards.now c.args.request.place c.in-Err.refusal (sym c.in-Err.ensures) (omega (arith, c.if-number.true, c.number.ensures, c.number-in-Err.ensures)) in
    ((b.inside, b.stands, b.over), c.requires.0, c.requires.1)

pub returns-in-Ok : goal.returns-in-Ok
returns-in-Ok c =
    asked_shared c.args.kept.now c.args.cells.now c.args.literals.now c.args.cards.now c.args.request.place _ (kind_read c.args.request.asked.line) (asks (from_line c.args.request.asked.bytes.now) c.args.request.asked.line c.args.request.asked.lits.now c.requires.1) c.args.request.number c.in-Ok.share (sym c.in-Ok.ensures) c.serve_book.ensures

pub returns-else-number : goal.returns-else-number
returns-else-number c =
    asked_nowhere c.args.kept.now c.args.cells.now c.args.literals.now c.args.cards.now c.args.request.place _ (kind_read c.args.request.asked.line) (asks (from_line c.args.request.asked.bytes.now) c.args.request.asked.line c.args.request.asked.lits.now c.requires.1) c.args.request.number c.in-Err.refusal (sym c.in-Err.ensures)
    (λ z. c.if-number.false (omega (arith, z, c.number.ensures, c.number-in-Err.ensures))) _ c.number-in-Err-2.ensures c.write_refusal.ensures
