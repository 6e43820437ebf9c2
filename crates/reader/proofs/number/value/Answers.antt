-- `value` meets its contract: digit by digit, and then what fits 32 bits.
use borrow.Author.Rules.{rules}
use mathlib.Core.Path.{sym, ◌∙◌}
use Rattle.reader.proofs.Digits.{value_more, value_bad, value_all}
use Rattle.reader.proofs.number.value.Goals as goal

pub returns-then-not-is_ascii_digit : goal.returns-then-not-is_ascii_digit
returns-then-not-is_ascii_digit c = value_bad c.loop-b.invariant (search rules) (sym c.is_ascii_digit.ensures.value ∙ c.if-not-is_ascii_digit.true)

pub loop-b-preserved : goal.loop-b-preserved
loop-b-preserved c = value_more c.loop-b.invariant (search rules) (sym c.is_ascii_digit.ensures.value ∙ c.if-not-is_ascii_digit.false)

pub returns : goal.returns
returns c = value_all c.loop-b.invariant c.try_from.result c.loop-b-test.false c.try_from.ensures c.ok.ensures.value
