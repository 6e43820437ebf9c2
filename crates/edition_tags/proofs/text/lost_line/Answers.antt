-- `edition_tags::text::lost_line`: by the lines that are left.
use Rattle.edition_tags.proofs.Texts.{lose_end, lose_found, lose_more}
use Rattle.edition_tags.proofs.text.lost_line.Goals as goal

pub returns-then-is_lost : goal.returns-then-is_lost
returns-then-is_lost c = lose_found c.loop-number.invariant c.in-Some.ensures.steps.1 c.of-tag.ensures c.is_lost.ensures c.in-Some.ensures.steps.0.0 c.if-is_lost.true

pub loop-number-preserved : goal.loop-number-preserved
loop-number-preserved c = lose_more c.loop-number.invariant c.in-Some.ensures.steps.1 c.of-tag.ensures c.is_lost.ensures c.in-Some.ensures.steps.0.0 c.if-is_lost.false c.in-Some.ensures.steps.0.1 c.next-k.ensures

pub returns : goal.returns
returns c = lose_end c.loop-number.invariant c.args.text.short c.in-None.ensures.steps
