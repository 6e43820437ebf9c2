-- `edition_tags::text::put_text`: by the lines that are left.
use Rattle.edition_tags.proofs.Texts.{Putting}
use Rattle.edition_tags.proofs.text.put_text.Given as goal

abbrev pub invariant-loop-line : goal.invariant-loop-line
invariant-loop-line l = Putting l.to l.text.bytes.now l.initial.d l.initial.n l.initial.line-iterator.left l.line-iterator.left l.n l.k l.d
