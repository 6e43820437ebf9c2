-- The recorded values by place: the loop after the first i, and the reading that they show.
use Prim.Native.Nat.{ℕ, zero, suc, ◌≤◌, ◌<◌}
use native.Mathlib.Omega.{arith}
use mathlib.Core.Path.{◌≡◌, refl, sym, ap, ◌∙◌}
use mathlib.Core.Logic.{◌⊎◌, inl, inr}
use mathlib.Core.Bool.{true}
use mathlib.Core.List.{List, [], ◌∷◌}
use mathlib.Core.Option.{none}
use lib.ListN.{length, get_or, length-map, get_or-eq_default}
use Rattle.qbf.specs.Formula.{Limits, Prefix, quantifiers}
use Rattle.qbf.specs.Truth.{free_variables}
use Rattle.qbf.specs.Open.{Reading}
use Rattle.qbf.specs.Calls.{numbers_are_ok, prefix_is_ok, free_first}
use Rattle.theory.proofs.Basics.{and_left, le_or_lt}
use Rattle.theory.proofs.Prefixes.{numbers, place_of_number}
use Rattle.theory.proofs.Starting.{free_fit}
use Rattle.tables.specs.Views.{value_code, Numbers, Recorded}
use Rattle.reading.specs.Placed.{Placed, ShownByPlace}

-- ---- the loop
module _ (values ns start : List ℕ) (free : ℕ) where
  pub record Placing (t : List ℕ) (i : ℕ) : Type 0 where
    pub low : i ≤ free
    pub room : length t ≡ length start
    pub so_far : Placed values ns i start t

-- ---- the reading that they show
pub placed_reading : (L : Limits) (D : Prefix) → prefix_is_ok L D ≡ true → (ns : List ℕ) → Numbers D ns → (os : Reading) → length os ≡ free_variables D
    → (values : List ℕ) → Recorded D os values → (start t : List ℕ) → ((p : ℕ) → get_or start p 0 ≡ 0) → Placed values ns (free_variables D) start t → ShownByPlace os t
placed_reading L D good ns numbered os long values shown start t opened placed p = by p (le_or_lt p (free_variables D))
  where
    f : ℕ
    f = free_variables D

    low : (i : ℕ) → i < f → i < length D
    low i h = omega (arith, h, free_fit (quantifiers D), length-map D (λ d. d.quantifier))

    by : (p : ℕ) → (p ≤ f) ⊎ (f < p) → get_or t p 0 ≡ value_code (get_or (none ∷ os) p none)
    by zero h = placed.rest zero (inl refl) ∙ opened zero
    by (suc i) (inl h) =
        placed.at i h
        ∙ ap (λ (n : ℕ). get_or values n 0) (numbered.at i (low i h))
        ∙ shown.at (get_or (numbers D) i 0)
        ∙ ap (λ (q : ℕ). value_code (get_or (none ∷ os) q none)) (place_of_number L D (and_left (numbers_are_ok L [] D) (free_first (quantifiers D)) good) i (low i h))
    by (suc i) (inr h) =
        placed.rest (suc i) (inr h)
        ∙ opened (suc i)
        ∙ sym (ap value_code (get_or-eq_default os none {n = i} (omega (arith, h, long))))
