-- `bit` meets its contract: the shift loses nothing.
use Rattle.std.proofs.Common.{arith}
use Rattle.std.proofs.lemmas.Grind.{common_steps}
use Rattle.shelf.specs.Masks.{bit}
use Rattle.shelf.proofs.mask.bit.Goals as goal

pub returns : goal.returns
unfolding bit
returns c = grind (arith, common_steps)
