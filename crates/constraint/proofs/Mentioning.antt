-- The last place of a constraint.
use Prim.Native.Nat.{ℕ, suc, ◌-◌, ◌<◌}
use native.Mathlib.Omega.{arith}
use mathlib.Core.Path.{◌≡◌, refl, sym, ap, ◌∙◌}
use mathlib.Core.List.{[], ◌∷◌, ◌++◌}
use lib.ListN.{length, get_or, take}
use lib.Seq.{take-length, take-suc}
use Rattle.qbf.specs.Formula.{Prefix, Literal, place}
use Rattle.qbf.specs.Learning.{Constraint, last_place, last_place_from}

-- a constraint with its last literal apart
last_apart : (e : Constraint) (d : Literal) → 0 < length e → e ≡ take (length e - 1) e ++ (get_or e (length e - 1) d ∷ [])
last_apart e d h =
    sym (take-length e)
    ∙ ap (λ (m : ℕ). take m e) (let n : length e ≡ suc (length e - 1) = omega arith in n)
    ∙ take-suc e (length e - 1) d (omega arith)

module _ (D : Prefix) where
  last_of : (q : ℕ) (e : Constraint) (l : Literal) → last_place_from D q (e ++ (l ∷ [])) ≡ place D l
  last_of q [] l = refl
  last_of q (k ∷ e) l = last_of (place D k) e l

  pub last_place_none : (e : Constraint) → length e ≡ 0 → 0 ≡ last_place D e
  last_place_none [] h = refl
  last_place_none (k ∷ e) h = absurd (omega (arith, h))

  pub last_place_some : (e : Constraint) (d : Literal) → (length e ≡ 0 → ⊥) → {x : Literal} → x ≡ get_or e (length e - 1) d → {q : ℕ} → q ≡ place D x → q ≡ last_place D e
  last_place_some e d h is found =
      found ∙ ap (place D) is
      ∙ sym (last_of 0 (take (length e - 1) e) (get_or e (length e - 1) d))
      ∙ ap (last_place D) (sym (last_apart e d (omega (arith, h))))
