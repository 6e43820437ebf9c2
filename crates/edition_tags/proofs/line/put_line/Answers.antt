-- `edition_tags::line::put_line`: byte 10, then a rule form changed, or another line as it is.
use Rattle.edition_tags.proofs.Appending.{appended_then, appended_as}
use Rattle.edition_tags.proofs.Tags.{rule_line_lem}
use Rattle.edition_tags.proofs.line.put_line.Goals as goal

pub returns-in-Some : goal.returns-in-Some
returns-in-Some c = appended_then c.append-p.ensures (appended_as (rule_line_lem c.args.to c.args.tag.now.number c.args.l.now c.in-Some.ensures.0 c.in-Some.ensures.1) c.put_rule.ensures)
