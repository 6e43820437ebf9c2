-- Signed 16-bit literals: what is read back from a local's bits, and the number of a literal's variable.
use mathlib.Core.Path.{◌≡◌, refl, sym, ap, subst, ◌∙◌}
use mathlib.Core.Bool.{Bool, true, false}
use native.Mathlib.Omega.{arith}
use native.Mathlib.Nat.{not-suc-le-zero}
use borrow.Author.Tests.{ltb-true}
use lib.Dec.{T}
use lib.IntN.{ℤ, pos, negsuc, neg_ℤ, nat_abs, ◌-ℤ◌, +ℤ_idl}
use lib.Signed.{lt_z, non_neg}
use mir.Syntax.{w16, w64}
use mir.Val.{SFits, Fits, to_z, of_z}
use mir.Facts.{to_z-of_z}
use Rattle.qbf.specs.Formula.{number_of}

-- the bits of z, read back
pub back : {z : ℤ} → SFits w16 z → to_z w16 (of_z w16 z) ≡ z
back f = to_z-of_z {w = w16} f

-- the literal whose negation is not a signed 16-bit number
pub number_least : (z : ℤ) → SFits w16 z → of_z w16 z ≡ 32768 → 32768 ≡ number_of z
number_least (pos n) f h = omega (arith, f.sfits)
number_least (negsuc n) f h = omega (arith, f.sfits)

-- ---- a negative literal, and what `-lit` computes at its bits
negative_sfits : (z : ℤ) → lt_z z (pos 0) ≡ true → SFits w16 z → (of_z w16 z ≡ 32768 → ⊥) → SFits w16 (neg_ℤ z)
negative_sfits (pos n) e f h = absurd (not-suc-le-zero (ltb-true n 0 e))
negative_sfits (negsuc n) e f h = record { sfits = omega (arith, f.sfits) }

negative_number : (z : ℤ) → lt_z z (pos 0) ≡ true → nat_abs (neg_ℤ z) ≡ number_of z
negative_number (pos n) e = absurd (not-suc-le-zero (ltb-true n 0 e))
negative_number (negsuc n) e = refl

negative_cast : (z : ℤ) → lt_z z (pos 0) ≡ true → SFits w16 z → T (non_neg (neg_ℤ z)) × Fits w64 (nat_abs (neg_ℤ z))
negative_cast (pos n) e f = absurd (not-suc-le-zero (ltb-true n 0 e))
negative_cast (negsuc n) e f = (tt, record { fits = omega (arith, f.sfits) })

positive_cast : (z : ℤ) → lt_z z (pos 0) ≡ false → SFits w16 z → T (non_neg z) × Fits w64 (nat_abs z)
positive_cast (pos n) e f = (tt, record { fits = omega (arith, f.sfits) })
positive_cast (negsuc n) e f = absurd (subst T e tt)

positive_number : (z : ℤ) → lt_z z (pos 0) ≡ false → nat_abs z ≡ number_of z
positive_number (pos n) e = refl
positive_number (negsuc n) e = refl

-- a literal's bits tested against 0
module _ {z : ℤ} (f : SFits w16 z) where
  pub tested : {b : Bool} → lt_z (to_z w16 (of_z w16 z)) (to_z w16 0) ≡ b → lt_z z (pos 0) ≡ b
  tested {b} e = subst (λ (y : ℤ). lt_z y (pos 0) ≡ b) (back f) e

  pub number_from_zero : lt_z (to_z w16 (of_z w16 z)) (to_z w16 0) ≡ false → T (non_neg (to_z w16 (of_z w16 z))) × Fits w64 (nat_abs (to_z w16 (of_z w16 z)))
  number_from_zero e = subst (λ (y : ℤ). T (non_neg y) × Fits w64 (nat_abs y)) (sym (back f)) (positive_cast z (tested e) f)

  module _ (h : of_z w16 z ≡ 32768 → ⊥) (e : lt_z (to_z w16 (of_z w16 z)) (to_z w16 0) ≡ true) where
    is : to_z w16 0 -ℤ to_z w16 (of_z w16 z) ≡ neg_ℤ z
    is = ap (λ (y : ℤ). pos 0 -ℤ y) (back f) ∙ +ℤ_idl (neg_ℤ z)

    pub negation_fits : SFits w16 (to_z w16 0 -ℤ to_z w16 (of_z w16 z))
    negation_fits = subst (SFits w16) (sym is) (negative_sfits z (tested e) f h)

    read : to_z w16 (of_z w16 (to_z w16 0 -ℤ to_z w16 (of_z w16 z))) ≡ neg_ℤ z
    read = back negation_fits ∙ is

    pub negation_cast :
        let y = to_z w16 (of_z w16 (to_z w16 0 -ℤ to_z w16 (of_z w16 z))) in
        T (non_neg y) × Fits w64 (nat_abs y)
    negation_cast = subst (λ (y : ℤ). T (non_neg y) × Fits w64 (nat_abs y)) (sym read) (negative_cast z (tested e) f)

    pub negation_number : nat_abs (to_z w16 (of_z w16 (to_z w16 0 -ℤ to_z w16 (of_z w16 z)))) ≡ number_of z
    negation_number = ap nat_abs read ∙ negative_number z (tested e)
