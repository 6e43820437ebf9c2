-- `bullacetop_day_forget` meets its contract.
use mathlib.Core.List.{[]}
use Rattle.qbf.specs.Calls.{forget}
use Rattle.day_calls.proofs.Served.{refused_call, forgotten}
use Rattle.day_calls.proofs.changes.bullacetop_day_forget.Goals as goal

pub returns-in-Err : goal.returns-in-Err
returns-in-Err c = refused_call c.args.rooms.now c.args.accounts.now c.args.cells.now c.args.literals.now c.args.place forget c.in-Err.refusal c.in-Err.ensures _ (c.refused.ensures [])

pub returns : goal.returns
returns c =
    forgotten c.args.rooms.now c.args.accounts.now c.args.cells.now c.args.literals.now c.args.place c.in-Ok.at.may c.in-Ok.at.cells c.in-Ok.at.literals c.in-Ok.ensures c.bullacetop_book_forget.new.cells c.bullacetop_book_forget.auto.cells _ c.bullacetop_book_forget.ensures.serves
