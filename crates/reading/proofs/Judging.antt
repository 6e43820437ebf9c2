-- One literal of a query: the tests of it, in their order.
use Prim.Native.Nat.{ℕ, ◌<◌}
use native.Mathlib.Nat.{not-suc-le-zero}
use mathlib.Core.Path.{◌≡◌, refl, sym, ap, ◌∙◌, subst}
use mathlib.Core.Bool.{Bool, true, false, not, ◌||◌}
use mathlib.Core.List.{List}
use lib.ListN.{get_or}
use lib.Dec.{T, eqb, ltb}
use lib.IntN.{pos, negsuc}
use lib.Signed.{lt_z}
use mir.Syntax.{w16}
use mir.Val.{SFits, to_z, of_z}
use borrow.Author.Tests.{ltb-true, eq-eqb, ne_eqb, lt-ltb, le-ltb}
use Prim.Native.Nat.{◌≤◌}
use Rattle.qbf.specs.Formula.{Literal, number_of, positive}
use Rattle.literal.proofs.Signed.{tested}
use Rattle.reading.specs.Marking.{barred}

is_positive : (l : Literal) → lt_z l (pos 0) ≡ false → positive l ≡ true
is_positive (pos n) e = refl
is_positive (negsuc n) e = absurd (subst T e tt)

negative_barred : (places : List ℕ) (free : ℕ) (values : List ℕ) (l : Literal) → lt_z l (pos 0) ≡ true → true ≡ barred places free values l
unfolding barred
negative_barred places free values (pos n) e = absurd (not-suc-le-zero (ltb-true n 0 e))
negative_barred places free values (negsuc n) e = refl

-- by the literal's bits
module _ (places : List ℕ) (free : ℕ) (values : List ℕ) {l : Literal} (f : SFits w16 l) where
  pub barred_negative : lt_z (to_z w16 (of_z w16 l)) (to_z w16 0) ≡ true → true ≡ barred places free values l
  barred_negative e = negative_barred places free values l (tested f e)

  -- p is the place of its variable
  module _ (e : lt_z (to_z w16 (of_z w16 l)) (to_z w16 0) ≡ false) {p : ℕ} (is : p ≡ get_or places (number_of l) 0) where
    abbrev again : Bool
    again = not (eqb (get_or values (number_of l) 0) 0)

    by_place : barred places free values l ≡ (eqb p 0 || ltb free p || again)
    unfolding barred
    by_place =
        ap (λ (b : Bool). not b || eqb (get_or places (number_of l) 0) 0 || ltb free (get_or places (number_of l) 0) || again) (is_positive l (tested f e))
        ∙ ap (λ (q : ℕ). eqb q 0 || ltb free q || again) (sym is)

    pub barred_undeclared : p ≡ 0 → true ≡ barred places free values l
    barred_undeclared z = sym (by_place ∙ ap (λ (b : Bool). b || ltb free p || again) (eq-eqb p 0 z))

    module _ (n : p ≡ 0 → ⊥) where
      declared : barred places free values l ≡ (ltb free p || again)
      declared = by_place ∙ ap (λ (b : Bool). b || ltb free p || again) (ne_eqb p 0 n)

      pub barred_bound : free < p → true ≡ barred places free values l
      barred_bound h = sym (declared ∙ ap (λ (b : Bool). b || again) (lt-ltb free p h))

      pub barred_again : p ≤ free → again ≡ barred places free values l
      barred_again h = sym (declared ∙ ap (λ (b : Bool). b || again) (le-ltb free p h))
