-- The word has the bits of the codes before.
use Rattle.std.proofs.Common.{take}
use Rattle.shelf.specs.Masks.{Masks}
use Rattle.shelf.proofs.mask.mask_of.Given as goal

abbrev pub invariant-loop-code : goal.invariant-loop-code
invariant-loop-code l = Masks l.mask (take l.code-index l.row)
