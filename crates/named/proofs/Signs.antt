-- The sign and the number of a literal, by its bits.
use Prim.Native.Nat.{ℕ, ◌≤◌}
use native.Mathlib.Omega.{arith}
use mathlib.Core.Path.{◌≡◌, ap, ◌∙◌}
use lib.IntN.{ℤ, pos, negsuc}
use mir.Syntax.{w16}
use mir.Val.{SFits, to_z, of_z}
use Rattle.qbf.specs.Formula.{Literal, number_of}
use Rattle.literal.proofs.Signed.{back}
use Rattle.reader.specs.Items.{narrow}

pub number_fits : (l : Literal) → SFits w16 l → number_of l ≤ 32768
number_fits (pos n) f = omega (arith, f.sfits)
number_fits (negsuc n) f = omega (arith, f.sfits)

pub narrow_back : {z : ℤ} (k : ℕ) → z ≡ pos (narrow k) → to_z w16 (of_z w16 z) ≡ pos (narrow k)
narrow_back k e = ap (λ (y : ℤ). to_z w16 (of_z w16 y)) e ∙ back (record { sfits = omega arith })
