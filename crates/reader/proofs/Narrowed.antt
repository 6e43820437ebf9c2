-- Literals in 16 bits, and a literal that is narrowed.
use Prim.Native.Nat.{ℕ, zero, suc, ◌<◌, ◌≤◌, min}
use mathlib.Core.Path.{◌≡◌, refl, ap, ◌∙◌}
use native.Mathlib.Omega.{arith}
use lib.IntN.{ℤ, pos}
use lib.Signed.{mag}
use mir.Syntax.{w16}
use mir.Val.{to_z, of_z}
use mir.Facts.{to_z-of_z}
use Rattle.qbf.specs.Formula.{highest}
use Rattle.layout.specs.Forms.{off}
use Rattle.reader.specs.Items.{narrow, narrowed}

-- a signed number of 16 bits is read back from its bits
pub back16 : {z : ℤ} → mag z < 32768 → to_z w16 (of_z w16 z) ≡ z
back16 h = to_z-of_z {w = w16} (record { sfits = h })

-- ---- narrowed literals
pub narrow_small : (v : ℕ) {n : ℕ} → n ≡ narrow v → n ≤ suc highest.numbers
narrow_small v e = omega arith

pub narrowed_on : (v : ℕ) {n : ℕ} {r : ℤ} → n ≡ narrow v → r ≡ pos n → r ≡ narrowed (pos v)
narrowed_on v e h = h ∙ ap pos e

pub narrowed_off : (v : ℕ) {n : ℕ} {r : ℤ} → n ≡ narrow v → r ≡ off n → r ≡ narrowed (off v)
narrowed_off v e h = h ∙ ap off e ∙ by v
  where
    by : (v : ℕ) → off (narrow v) ≡ narrowed (off v)
    by zero = refl
    by (suc k) = let e : narrow (suc k) ≡ suc (min k highest.numbers) = omega arith in ap off e
