-- `take_one`: the order, then the call.
use mathlib.Core.Path.{ap}
use Rattle.std.proofs.lemmas.Result.{err_from_is_err_and}
use Rattle.state_parts.specs.Layout.{limits_in}
use Rattle.opening.specs.Stages.{rank_of}
use Rattle.edition_opening.proofs.Taking.{one_refused, one_taken}
use Rattle.edition_opening.proofs.book.EditionBook.take_one.Goals as goal

pub returns-in_err-one : goal.returns-in_err-one
returns-in_err-one c =
    let p = err_from_is_err_and c.from_residual-in_err-one.result c.from_residual-in_err-one.ensures.1 in
    rw (p.1, p.2) (one_refused c.args.self c.requires c.args.lits.now c.in_ok-place.ensures c.one.result c.one.ensures.serves c.in_err-one.was)

pub returns : goal.returns
returns c =
    one_taken c.args.self c.requires c.args.lits.now c.in_ok-place.ensures c.one.result c.one.ensures.serves c.in_ok-one.was c.at.result c.at.ensures.0 c.at.ensures.1
    (ap rank_of c.at.ensures.2) (ap limits_in c.at.ensures.3)
