-- `bullacetop_day_open` meets its contract.
use mathlib.Core.Path.{sym, ◌∙◌}
use Rattle.qbf.specs.Formula.{capped}
use Rattle.editions.specs.Opening.{both, open_editions}
use Rattle.day_calls.proofs.Texts.{opened_at}
use Rattle.day_calls.proofs.loading.bullacetop_day_open.Goals as goal

pub returns : goal.returns
returns c =
    opened_at c.args.rooms.now c.args.accounts.now c.args.cells.now c.args.literals.now c.args.place (sym c.is_outside.ensures ∙ c.if-is_outside.false) c.seat.ensures.eight c.cells_at-cells_at.result c.literals_at-literals_at.result
    c.cells_at-cells_at.ensures c.literals_at-literals_at.ensures c.open-read.new.cells c.open-read.new.literals c.open-read.auto.cells c.open-read.auto.literals
    (capped c.args.limits.numbers c.args.limits.clauses) (open_editions both (capped c.args.limits.numbers c.args.limits.clauses) c.args.text.now)
    c.open-read.result c.from.result c.is_ok.result c.is_ok.ensures.value c.open-read.ensures c.from.ensures c.seat.new.self c.seat.ensures.seats
