-- `names_at` meets its contract: limits that are too high are no valid state's, and else the parts give the names.
use Rattle.state.specs.Lent.{parts_state}
use Rattle.card_answers.proofs.NamesRead.{low_limits, names_read}
use Rattle.card_answers.proofs.names.names_at.Goals as goal

pub returns-in_default : goal.returns-in_default
returns-in_default c = λ literals y i g. low_limits c.args.cells.now literals y i g c.in_default.ensures

pub returns : goal.returns
returns c = λ literals y i g.
    names_read c.args.cells.now literals y i g c.in-Some.layout c.in-Some.ensures.0 c.in-Some.ensures.1 (parts_state c.parts-parts.result) c.parts-parts.ensures c.free_count.ensures
