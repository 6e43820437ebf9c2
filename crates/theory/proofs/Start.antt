-- A start node has free variables only: a valid constraint that ends at most there is good there.
use Prim.Native.Nat.{ℕ, zero, suc, ◌+◌, ◌-◌, ◌≤◌, ◌<◌}
use native.Mathlib.Nat.{suc_inj}
use native.Mathlib.Omega.{arith}
use mathlib.Core.Path.{◌≡◌, refl, sym, ap, ◌∙◌, subst}
use mathlib.Core.Bool.{Bool, true}
use mathlib.Core.List.{List, [], ◌∷◌}
use lib.ListN.{length, get_or, drop}
use lib.Dec.{leb}
use Rattle.qbf.specs.Formula.{Clause, Node, Prefix, Quantifier, ◌▹◌, free, has, quantifiers}
use Rattle.qbf.specs.Learning.{Constraint, last_place}
use Rattle.theory.proofs.Basics.{length-▹, has_low}
use Rattle.theory.proofs.Rest.{drop_cons}
use Rattle.theory.proofs.Game.{Win, win_down}
use Rattle.theory.proofs.Constraints.{last_max}
use Rattle.theory.proofs.Claim.{Wins}
use Rattle.theory.proofs.Shape.{Holds}
use Rattle.theory.proofs.Leaves.{Valid, Fair}

pub snoc : (t : Node) (n : ℕ) → length t ≡ suc n → (u : Node) × (b : Bool) × (t ≡ u ▹ b)
snoc [] n e = absurd (omega (arith, e))
snoc (x ∷ []) n e = ([], x, refl)
snoc (x ∷ y ∷ t) zero e = absurd (omega (arith, e))
snoc (x ∷ y ∷ t) (suc n) e = let w = snoc (y ∷ t) n (suc_inj e) in (x ∷ w.0, w.1, ap {B = Node} (λ r. x ∷ r) w.2)

module _ (D : Prefix) (R : List Clause) where
  module _ (s : Node) (small : length s ≤ length (quantifiers D)) (frees : (i : ℕ) → i < length s → get_or (quantifiers D) i free ≡ free) where
    climb : (v : Bool) (E : Constraint) → Valid D R v E → (d : ℕ) (t : Node) → length t ≡ last_place D E + d → length t ≤ length s → Holds D v E t → Wins D R v t
    climb v E w zero t e le h = w.exact t (omega (arith, e)) h
    climb v E w (suc d) t e le h =
        let c = snoc t (last_place D E + d) (omega (arith, e)) in
        subst (Wins D R v) (sym c.2) (step c.0 c.1 c.2 (λ p q r. climb v E w d c.0 p q r))
      where
        step : (u : Node) (b : Bool) → t ≡ u ▹ b → (length u ≡ last_place D E + d → length u ≤ length s → Holds D v E u → Wins D R v u) → Wins D R v (u ▹ b)
        step u b q ih =
            subst (λ (i : ℕ). Win D R v (drop i (quantifiers D)) (u ▹ b)) (sym (length-▹ u b))
            (win_down D R v (drop (suc (length u)) (quantifiers D)) u b
            (subst (λ (κ : Quantifier). Win D R v (κ ∷ drop (suc (length u)) (quantifiers D)) u) (frees (length u) (omega (arith, le, len)))
            (subst (λ (x : List Quantifier). Win D R v x u) (drop_cons (quantifiers D) (length u) (omega (arith, le, len, small)))
            (ih (omega (arith, e, len)) (omega (arith, le, len))
            (λ l m. sym (has_low D v u b l (omega (arith, e, len, last_max D 0 E w.formed.rising l m))) ∙ subst (λ (x : Node). has D v x l ≡ true) q (h l m))))))
          where
            len : length t ≡ suc (length u)
            len = ap length q ∙ length-▹ u b

    pub fair_start : Fair D R leb s
    fair_start v E w e t ge le h agree = climb v E w (length t - last_place D E) t (omega (arith, ge)) le h
