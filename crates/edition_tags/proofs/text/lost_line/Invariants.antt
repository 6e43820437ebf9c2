-- `edition_tags::text::lost_line`: by the lines that are left.
use Rattle.std.specs.Iterator.Adapters.{zip_first, zip_second}
use Rattle.edition_tags.proofs.Texts.{Losing}
use Rattle.edition_tags.proofs.text.lost_line.Given as goal

abbrev pub invariant-loop-number : goal.invariant-loop-number
invariant-loop-number l = Losing l.text.bytes.now (zip_second l.number-iterator).left l.k (zip_first l.number-iterator).start
