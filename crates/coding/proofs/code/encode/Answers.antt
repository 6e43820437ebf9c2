-- `coding::code::encode` meets its contract. The loop keeps the codes of the first literals.
use native.Mathlib.Omega.{arith}
use Rattle.tables.specs.Shelves.{code_count}
use Rattle.coding.proofs.Coded.{last_below}
use Rattle.coding.proofs.Decoded.{codes_all}
use Rattle.coding.proofs.code.encode.Goals as goal

pub returns : goal.returns
returns c = (c.loop-i.invariant.2, λ n m. last_below c.loop-i.cells n code_count (omega arith) (omega (arith, c.loop-i.invariant.2)) (λ j q. c.loop-i.invariant.3 j (omega arith)), λ D s h. codes_all D c.loop-i.cells c.args.lits.now c.loop-i.i (c.loop-i.invariant.4 D s h) (omega arith))
