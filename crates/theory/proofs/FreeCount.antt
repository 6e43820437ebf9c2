-- One variable more at the end of a prefix: how many are free then.
use Prim.Native.Nat.{ℕ, suc, ◌≤◌, ◌<◌, zero-le, suc-le-suc}
use native.Mathlib.Nat.{le_refl}
use native.Mathlib.Omega.{arith}
use mathlib.Core.Path.{◌≡◌, refl, sym, ap, ◌∙◌}
use mathlib.Core.Bool.{Bool, true, false, ◌&&◌, false≢true}
use mathlib.Core.List.{List, [], ◌∷◌, ◌++◌, map-append}
use lib.Dec.{leb}
use borrow.Author.Tests.{le-leb, leb-false}
use Rattle.qbf.specs.Formula.{most_free, Quantifier, free, exists, forall, is_free, Variable, Prefix, quantifiers}
use Rattle.qbf.specs.Truth.{free_count, free_variables}
use Rattle.qbf.specs.Calls.{free_is_ok}

free_snoc : (ks : List Quantifier) (κ : Quantifier) → free_count (ks ++ (κ ∷ [])) ≤ suc (free_count ks)
free_snoc [] free = le_refl 1
free_snoc [] exists = zero-le
free_snoc [] forall = zero-le
free_snoc (free ∷ ks) κ = suc-le-suc (free_snoc ks κ)
free_snoc (exists ∷ ks) κ = zero-le
free_snoc (forall ∷ ks) κ = zero-le

bound_snoc : (ks : List Quantifier) (κ : Quantifier) → is_free κ ≡ false → free_count (ks ++ (κ ∷ [])) ≡ free_count ks
bound_snoc [] free e = absurd (false≢true (sym e))
bound_snoc [] exists e = refl
bound_snoc [] forall e = refl
bound_snoc (free ∷ ks) κ e = ap suc (bound_snoc ks κ e)
bound_snoc (exists ∷ ks) κ e = refl
bound_snoc (forall ∷ ks) κ e = refl

-- there are no more than there may be where a free one is added to fewer
pub free_more : (D : Prefix) (d : Variable) → (is_free d.quantifier && leb most_free (free_variables D)) ≡ false → free_is_ok D ≡ true → free_is_ok (D ++ (d ∷ [])) ≡ true
free_more D d e h = by (is_free d.quantifier) refl
  where
    said : free_variables (D ++ (d ∷ [])) ≡ free_count (quantifiers D ++ (d.quantifier ∷ []))
    said = ap free_count (map-append (λ x. x.quantifier) D (d ∷ []))

    by : (t : Bool) → is_free d.quantifier ≡ t → free_is_ok (D ++ (d ∷ [])) ≡ true
    by true f =
        let few : free_variables D < most_free = leb-false most_free (free_variables D) (sym (ap (λ (b : Bool). b && leb most_free (free_variables D)) f) ∙ e) in
        le-leb (free_variables (D ++ (d ∷ []))) most_free (omega (arith, said, free_snoc (quantifiers D) d.quantifier, few))
    by false f = ap (λ (k : ℕ). leb k most_free) (said ∙ bound_snoc (quantifiers D) d.quantifier f) ∙ h
