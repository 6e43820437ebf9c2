-- `serve_day_line` meets its contract.
use native.Mathlib.Omega.{arith}
use mathlib.Core.Path.{sym, ◌∙◌}
use borrow.Rule.Slice.PartMut.{mid_len}
use Rattle.day_text.specs.Lines.{At}
use Rattle.day_lines.proofs.Lines.{asks_shares, no_at, no_request, asks_place, line_refused, line_shares, line_placed}
use Rattle.reader.specs.Requests.{from_line}
use Rattle.day_lines.specs.Served.{served_in}
use Rattle.day_lines.proofs.Requests.{asks}
use Rattle.day_lines.proofs.serve_day_line.Goals as goal

pub returns-then-is_shares : goal.returns-then-is_shares
returns-then-is_shares c =
    line_shares c.args.line.number (served_in c.args.kept.now c.args.cells.now c.args.literals.now c.args.cards.now) c.args.line.bytes.now
    (asks_shares c.args.line.bytes.now (sym c.is_shares.ensures ∙ c.if-is_shares.true)) c.write_shares.ensures

pub returns-in_default : goal.returns-in_default
returns-in_default c =
    let l = c.args.line.bytes.now in
    line_refused c.args.line.number (served_in c.args.kept.now c.args.cells.now c.args.literals.now c.args.cards.now) l
    (no_at l (sym c.is_shares.ensures ∙ c.if-is_shares.false) (sym c.in_default.ensures)) c.number.result c.number.ensures c.write_refusal.ensures

pub returns-in_default-read_line : goal.returns-in_default-read_line
returns-in_default-read_line c =
    let l = c.args.line.bytes.now in
    line_refused c.args.line.number (served_in c.args.kept.now c.args.cells.now c.args.literals.now c.args.cards.now) l
    (no_request l (sym c.is_shares.ensures ∙ c.if-is_shares.false) (record { place = c.in-Some.at.place; call = c.in-Some.at.call.now }) (sym c.in-Some.ensures) c.in_default-read_line.ensures)
    c.number-in_default-read_line.result c.number-in_default-read_line.ensures c.write_refusal-in_default-read_line.ensures

pub serve_placed-length-requires : goal.serve_placed-length-requires
serve_placed-length-requires c = (omega (arith, c.write_place-before.ensures.few, c.write_place-before.ensures.wrote.size, c.told-out, mid_len c.write_place-before.result 1114188 c.write_place-before.new.out (omega (arith, c.write_place-before.ensures.wrote.size, c.told-out))), c.in-Some-read_line.ensures)

pub returns : goal.returns
returns c =
    let l = c.args.line.bytes.now in
    let a : At = record { place = c.in-Some.at.place; call = c.in-Some.at.call.now } in
    let k = asks (from_line c.in-Some.at.call.now) c.in-Some-read_line.read c.read_line.new.lits c.in-Some-read_line.ensures in
    line_placed c.args.line.number (served_in c.args.kept.now c.args.cells.now c.args.literals.now c.args.cards.now) l a k.0 k.1
    (asks_place l (sym c.is_shares.ensures ∙ c.if-is_shares.false) a (sym c.in-Some.ensures) k.0 k.1)
    c.write_place-before.ensures.wrote _ c.serve_placed-length.result c.serve_placed-length.new.out _ c.serve_placed-length.ensures
