-- `mask_of` meets its contract: one code more brings its bit.
use native.Mathlib.Omega.{arith}
use Rattle.shelf.proofs.Masking.{masks_next}
use Rattle.shelf.proofs.mask.mask_of.Goals as goal

pub loop-code-preserved : goal.loop-code-preserved
loop-code-preserved c = masks_next c.args.row.now c.loop-code.code-index c.loop-code.invariant (omega arith) c.bit-mask.ensures
