-- `unloading::decode` meets its contract: after i turns the first i literals are written.
use borrow.Author.Rules.{sfits_of}
use native.Mathlib.Omega.{arith}
use mathlib.Core.Path.{◌∙◌}
use Rattle.literal.proofs.Signed.{back}
use Rattle.unloading.proofs.Unloading.{decode_more}
use Rattle.unloading.proofs.decode.Goals as goal

pub loop-i-preserved : goal.loop-i-preserved
loop-i-preserved c = decode_more c.loop-i.invariant (omega arith) (omega arith) (λ D l n o e p. back (sfits_of c.literal_of.type_inv) ∙ c.literal_of.ensures D l n o e p)
