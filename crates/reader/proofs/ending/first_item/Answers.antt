-- `first_item` meets its contract: no word passed is the item's.
use mathlib.Core.Path.{refl, sym, ◌∙◌}
use Rattle.reader.proofs.Endings.{scan_more, scan_found, scan_end}
use Rattle.reader.proofs.ending.first_item.Goals as goal

pub returns-then-same_word : goal.returns-then-same_word
returns-then-same_word c = scan_found c.loop-left.invariant c.in-Some.is c.cut.ensures (sym c.same_word.ensures ∙ c.if-same_word.true) (record { before = c.before-then-same_word.result; left = c.cut.result.1 }) c.before-then-same_word.ensures refl

pub loop-left-preserved : goal.loop-left-preserved
loop-left-preserved c = scan_more c.loop-left.invariant c.in-Some.is c.cut.ensures (sym c.same_word.ensures ∙ c.if-same_word.false)

pub returns : goal.returns
returns c = scan_end c.loop-left.invariant c.in_default.is
