-- Literals in place order, literal by literal; the last literal, which says whether a constraint is reduced.
use Prim.Native.Nat.{ℕ, suc, ◌-◌, ◌≤◌, ◌<◌}
use native.Mathlib.Nat.{not-suc-le-zero}
use native.Mathlib.Omega.{arith}
use mathlib.Core.Path.{◌≡◌, refl, sym, ap, ◌∙◌}
use mathlib.Core.Bool.{Bool, not, ◌&&◌}
use mathlib.Core.List.{List, [], ◌∷◌}
use lib.ListN.{length, get_or, drop}
use lib.Seq.{drop-cons}
use lib.IntN.{ℤ, pos}
use lib.Dec.{ltb}
use Rattle.qbf.specs.Formula.{Quantifier, Prefix, number_of, place, quantifier_at}
use Rattle.qbf.specs.Learning.{Polarity, Constraint, dropped, last_place, last_place_from}
use Rattle.qbf.specs.Calls.{in_order}
use Rattle.tables.specs.Views.{quantifier_code, Places, Kinds}

pub record Ordering (places : List ℕ) (lits : List ℤ) (last i : ℕ) : Type 0 where
  pub low : i ≤ length lits
  pub judged : (D : Prefix) → Places D places → in_order D 0 lits ≡ in_order D last (drop i lits)

module _ {places : List ℕ} {lits : List ℤ} {last i : ℕ} (w : Ordering places lits last i) where
  -- p is the place of the next literal
  module _ (more : i < length lits) {p : ℕ} (is : (D : Prefix) → Places D places → p ≡ place D (get_or lits i (pos 0))) where
    next : (D : Prefix) → Places D places → in_order D 0 lits ≡ (ltb last p && in_order D p (drop (suc i) lits))
    next D shown =
        w.judged D shown
        ∙ ap (in_order D last) (drop-cons lits i (pos 0) more)
        ∙ ap (λ (n : ℕ). ltb last n && in_order D n (drop (suc i) lits)) (sym (is D shown))

-- ---- constraints
module _ (D : Prefix) where
  last_place_lem : (d : ℕ) (e : Constraint) → 0 < length e → last_place_from D d e ≡ place D (get_or e (length e - 1) (pos 0))
  last_place_lem d [] h = absurd (not-suc-le-zero h)
  last_place_lem d (l ∷ []) h = refl
  last_place_lem d (l ∷ m ∷ ms) h =
      let e : suc (length (m ∷ ms) - 1) ≡ length (l ∷ m ∷ ms) - 1 = omega arith in
      last_place_lem (place D l) (m ∷ ms) (omega arith) ∙ ap (λ (i : ℕ). place D (get_or (l ∷ m ∷ ms) i (pos 0))) e

  -- k is the code of the last literal's quantifier, and b whether reduction drops it
  pub reduced_last : (ks : List ℕ) → Kinds D ks → (v : Polarity) (e : Constraint) → (length e ≡ 0 → ⊥)
      → {k : ℕ} → k ≡ get_or ks (number_of (get_or e (length e - 1) (pos 0))) 0 → {b : Bool} → ((κ : Quantifier) → k ≡ quantifier_code κ → b ≡ dropped v κ)
      → not b ≡ not (dropped v (quantifier_at D (last_place D e)))
  reduced_last ks shown v e n is said =
      ap not (said (quantifier_at D (place D (get_or e (length e - 1) (pos 0)))) (is ∙ shown.at (number_of (get_or e (length e - 1) (pos 0)))))
      ∙ ap (λ (p : ℕ). not (dropped v (quantifier_at D p))) (sym (last_place_lem 0 e (omega (arith, n))))
