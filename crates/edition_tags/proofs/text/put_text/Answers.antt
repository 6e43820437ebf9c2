-- `edition_tags::text::put_text`: by the lines that are left; none takes more than 13 bytes for one of its own.
use borrow.Author.Rules.{rules}
use Rattle.edition_tags.proofs.Texts.{put_end, put_more}
use Rattle.edition_tags.proofs.text.put_text.Goals as goal

pub loop-line-preserved : goal.loop-line-preserved
loop-line-preserved c = put_more c.loop-line.invariant c.in-Some.ensures.steps c.args.text.short c.of-tag.ensures c.put_line-n.ensures c.next-k.ensures

pub returns : goal.returns
returns c = put_end c.loop-line.invariant c.in-None.ensures.steps (search rules) c.cut.ensures c.put_heading-n.ensures
