-- `edition_tags::line::rule_rest`: by the first five bytes.
use Rattle.edition_tags.proofs.Tags.{rest_is}
use Rattle.edition_tags.proofs.line.rule_rest.Goals as goal

pub returns : goal.returns
returns c = rest_is c.args.l.now c.strip_prefix.result c.strip_prefix.ensures.cases
