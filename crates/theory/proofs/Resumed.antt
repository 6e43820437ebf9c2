-- Step 3 goes on where the parent's stopped: clauses that are satisfied at a node are so at a longer one, by the same literals.
use Prim.Native.Nat.{ℕ, ◌≤◌, ◌<◌}
use native.Mathlib.Omega.{arith}
use mathlib.Core.Path.{◌≡◌, refl, ap, ◌∙◌}
use mathlib.Core.Logic.{◌⊎◌, inl, inr}
use mathlib.Core.Bool.{Bool, true, false, cond, ◌||◌}
use mathlib.Core.List.{List, [], ◌∷◌, ◌++◌}
use mathlib.Core.Option.{some}
use lib.ListN.{length}
use Rattle.qbf.specs.Formula.{Clause, Node, Prefix, ◌▹◌, all, any, has, place, satisfied}
use Rattle.qbf.specs.Learning.{Constraint, first, implicant, insert_found}
use Rattle.theory.proofs.Basics.{any→, has_le, has_low, has_up, le_or_lt}
use Rattle.theory.proofs.Game.{Rising, rising_above, satisfied_up}

-- clauses that are satisfied stay so one place below
pub satisfied_stays : (D : Prefix) (s : Node) (b : Bool) (R : List Clause) → all (satisfied D s) R ≡ true → all (satisfied D (s ▹ b)) R ≡ true
satisfied_stays D s b R e = satisfied_up D R s b e

module _ (D : Prefix) (s : Node) (b : Bool) where
  -- the true literal of smallest place of a satisfied clause is the same one place below
  pub first_stays : (d : ℕ) (r : Clause) → Rising D d r → satisfied D s r ≡ true → first (has D true (s ▹ b)) r ≡ first (has D true s) r
  first_stays d [] up e = refl
  first_stays d (l ∷ r) up e = by (has D true s l) refl (first_stays (place D l) r up.1) (le_or_lt (place D l) (length s)) e
    where
      far : length s < place D l → any (has D true s) r ≡ true → ⊥
      far h q = let w = any→ (has D true s) r q in omega (arith, h, has_le D true s w.0 w.2, rising_above D (place D l) r up.1 w.0 w.1)

      by : (x : Bool) → has D true s l ≡ x → (satisfied D s r ≡ true → first (has D true (s ▹ b)) r ≡ first (has D true s) r)
          → (place D l ≤ length s) ⊎ (length s < place D l) → (x || any (has D true s) r) ≡ true → first (has D true (s ▹ b)) (l ∷ r) ≡ cond x (some l) (first (has D true s) r)
      by true h ih q t = ap (λ (y : Bool). cond y (some l) (first (has D true (s ▹ b)) r)) (has_up D true s b l h)
      by false h ih (inl q) t = ap (λ (y : Bool). cond y (some l) (first (has D true (s ▹ b)) r)) (has_low D true s b l q ∙ h) ∙ ih t
      by false h ih (inr q) t = absurd (far q t)

-- a cube made of some clauses and then of the rest
pub implicant_append : (D : Prefix) (s : Node) (xs ys : List Clause) (E : Constraint) → implicant D s (xs ++ ys) E ≡ implicant D s ys (implicant D s xs E)
implicant_append D s [] ys E = refl
implicant_append D s (r ∷ xs) ys E = implicant_append D s xs ys (insert_found D (first (has D true s) r) E)
