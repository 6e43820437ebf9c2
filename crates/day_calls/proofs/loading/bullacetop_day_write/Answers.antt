-- `bullacetop_day_write` meets its contract.
use Rattle.day_calls.proofs.Texts.{written_there}
use Rattle.day_calls.proofs.loading.bullacetop_day_write.Goals as goal

pub returns : goal.returns
returns c =
    written_there c.args.rooms.now c.args.cells.now c.args.literals.now c.args.place _ c.in-Ok.at.may c.in-Ok.ensures.0 c.in-Ok.at.cells c.in-Ok.at.literals c.in-Ok.ensures.1 c.in-Ok.ensures.2 _ _ _
    c.bullacetop_book_write.ensures
