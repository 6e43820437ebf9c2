-- `move_row`: the literals are copied, and then the size, the count and the record are written.
use Prim.Native.Nat.{ℕ}
use native.Mathlib.Numerals.{add-one}
use mathlib.Core.Path.{ap}
use lib.ListN.{get_or}
use Rattle.withdrawal.proofs.Kept.{moved_row}
use Rattle.withdrawal.proofs.move_row.Goals as goal

pub returns : goal.returns
returns c = moved_row c.args.width c.args.cells.now c.args.sizes.now c.args.i c.requires (ap (λ (k : ℕ). get_or c.args.sizes.now k 0) (add-one c.args.i)) c.copy_within.ensures.after
