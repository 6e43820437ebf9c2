-- `edition_tags::tag::put_tag`: no tag is longer than its table.
use mathlib.Core.Path.{sym}
use native.Mathlib.Omega.{arith}
use borrow.Author.Rules.{rules}
use Rattle.writer.proofs.Appending.{appended_then, wrote_lent}
use Rattle.edition_tags.proofs.Tags.{tag_length, tag_short, tagged_as}
use Rattle.edition_tags.proofs.tag.put_tag.Goals as goal

pub put_number-requires : goal.put_number-requires
put_number-requires c = omega (arith, tag_length c.args.k, tag_short c.args.k c.requires)

pub put_word-requires-2 : goal.put_word-requires-2
put_word-requires-2 c = omega (arith, tag_length c.args.k, tag_short c.args.k c.requires)

pub returns : goal.returns
returns c =
    let wrote = appended_then (appended_then c.put_word.ensures c.put_number.ensures) c.put_word-2.ensures in
    tagged_as c.args.k c.requires (wrote_lent wrote.wrote (search (rules, sym wrote.same)))
