-- `clear_part` meets its contract: the part is filled with 0.
use native.Mathlib.Omega.{arith}
use Prim.Native.Nat.{◌-◌}
use Rattle.shelf.proofs.Marking.{part_cleared}
use Rattle.shelf.proofs.store.clear_part.Goals as goal

pub returns : goal.returns
returns c = part_cleared c.args.links.now c.fill.new.self c.args.from (c.args.to - c.args.from) (omega arith) (c.fill.ensures.after (λ y e. e)) (omega arith)
