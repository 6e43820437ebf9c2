-- `edition_tags::line::is_lost`: a rule form loses a tag that it does not begin with.
use Rattle.edition_tags.proofs.Tags.{lost_as}
use Rattle.edition_tags.proofs.line.is_lost.Goals as goal

pub returns-in-Some : goal.returns-in-Some
returns-in-Some c = lost_as c.args.tag.now.number c.args.l.now c.in-Some.ensures.0 c.in-Some.ensures.1 c.text.ensures c.strip_prefix.result c.strip_prefix.ensures.cases c.is_none.result c.is_none.ensures
