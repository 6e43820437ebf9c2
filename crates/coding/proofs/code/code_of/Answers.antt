-- `coding::code::code_of` meets its contract. By the sign of the literal; a place past the numbers is none.
use native.Mathlib.Omega.{arith}
use Rattle.coding.proofs.Decoded.{code_none}
use Rattle.coding.proofs.code.code_of.Goals as goal

pub returns-then-place-gt-HIGHEST_NUMBERS : goal.returns-then-place-gt-HIGHEST_NUMBERS
returns-then-place-gt-HIGHEST_NUMBERS c = (omega arith, λ D s h. code_none D c.ranges.lit (c.literal_place-place.ensures.1 D s) c.if-place-gt-HIGHEST_NUMBERS.true h)
