-- The negation of a variable's literal in 16 bits, and a pair of literals with both negated.
use Prim.Native.Nat.{zero, suc, ◌≤◌}
use mathlib.Core.Path.{◌≡◌, sym, ap, ◌∙◌, subst}
use mathlib.Core.List.{[], ◌∷◌}
use native.Mathlib.Omega.{arith}
use lib.IntN.{ℤ, pos, negsuc, neg_ℤ, ◌-ℤ◌, +ℤ_idl}
use mir.Syntax.{w16}
use mir.Val.{SFits, to_z, of_z}
use Rattle.qbf.specs.Formula.{number_of, highest}
use Rattle.qbf.specs.One.{both_negated}
use Rattle.literal.proofs.Signed.{back}

-- ---- what `-lit` computes at the bits of a literal
module _ {z : ℤ} (f : SFits w16 z) where
  module _ (least : of_z w16 z ≡ 32768 → ⊥) where
    is : to_z w16 0 -ℤ to_z w16 (of_z w16 z) ≡ neg_ℤ z
    is = ap (λ (y : ℤ). pos 0 -ℤ y) (back f) ∙ +ℤ_idl (neg_ℤ z)

    fits : SFits w16 (neg_ℤ z)
    fits = by z f least
      where
        by : (z : ℤ) → SFits w16 z → (of_z w16 z ≡ 32768 → ⊥) → SFits w16 (neg_ℤ z)
        by (pos zero) f h = record { sfits = omega arith }
        by (pos (suc n)) f h = record { sfits = omega (arith, f.sfits) }
        by (negsuc n) f h = record { sfits = omega (arith, f.sfits) }

    pub negation_fits : SFits w16 (to_z w16 0 -ℤ to_z w16 (of_z w16 z))
    negation_fits = subst (SFits w16) (sym is) fits

-- ---- a pair, both negated: the bits of what `negation` answers
negated_back : {l : ℤ} → SFits w16 l → {a : ℤ} → (number_of (to_z w16 (of_z w16 l)) ≤ highest.numbers → a ≡ neg_ℤ (to_z w16 (of_z w16 l))) → number_of l ≤ highest.numbers → to_z w16 (of_z w16 a) ≡ neg_ℤ l
negated_back {l} f {a} e h = ap (λ (y : ℤ). to_z w16 (of_z w16 y)) is ∙ back (small l h)
  where
    is : a ≡ neg_ℤ l
    is = e (subst (λ (y : ℤ). number_of y ≤ highest.numbers) (sym (back f)) h) ∙ ap neg_ℤ (back f)

    small : (z : ℤ) → number_of z ≤ highest.numbers → SFits w16 (neg_ℤ z)
    small (pos zero) h = record { sfits = omega arith }
    small (pos (suc n)) h = record { sfits = omega (arith, h) }
    small (negsuc n) h = record { sfits = omega (arith, h) }

pub pair_is : {l m : ℤ} → SFits w16 l → SFits w16 m → {a b : ℤ} → (number_of (to_z w16 (of_z w16 l)) ≤ highest.numbers → a ≡ neg_ℤ (to_z w16 (of_z w16 l)))
    → (number_of (to_z w16 (of_z w16 m)) ≤ highest.numbers → b ≡ neg_ℤ (to_z w16 (of_z w16 m))) → number_of l ≤ highest.numbers → number_of m ≤ highest.numbers
    → to_z w16 (of_z w16 a) ∷ to_z w16 (of_z w16 b) ∷ [] ≡ both_negated l m
pair_is f g e d h k = λ i. negated_back f e h i ∷ negated_back g d k i ∷ []
