-- `bullacetop_day_withdraw` meets its contract.
use mathlib.Core.Path.{refl}
use mathlib.Core.List.{[]}
use Rattle.qbf.specs.Calls.{withdraw}
use Rattle.day_calls.proofs.Served.{refused_call, changed}
use Rattle.day_calls.proofs.changes.bullacetop_day_withdraw.Goals as goal

pub returns-in-Err : goal.returns-in-Err
returns-in-Err c = refused_call c.args.rooms.now c.args.accounts.now c.args.cells.now c.args.literals.now c.args.place withdraw c.in-Err.refusal c.in-Err.ensures _ (c.refused.ensures [])

pub returns : goal.returns
returns c =
    changed c.args.rooms.now c.args.accounts.now c.args.cells.now c.args.literals.now c.args.place c.in-Ok.at.may c.in-Ok.at.cells c.in-Ok.at.literals c.in-Ok.ensures c.bullacetop_book_withdraw.new.cells c.bullacetop_book_withdraw.new.literals c.bullacetop_book_withdraw.auto.cells c.bullacetop_book_withdraw.auto.literals withdraw refl _ c.bullacetop_book_withdraw.ensures.serves
