-- What is left of the prefix after a node: the quantifiers of the places beyond it.
use Prim.Native.Nat.{ℕ, zero, suc, ◌≤◌, ◌<◌, suc-le-suc, zero-le}
use native.Mathlib.Nat.{le_of_suc-le-suc, not-suc-le-zero}
use native.Mathlib.Omega.{arith}
use mathlib.Core.Path.{◌≡◌, refl, ap, ◌∙◌}
use mathlib.Core.Bool.{Bool}
use mathlib.Core.List.{List, [], ◌∷◌}
use lib.ListN.{length, get_or, drop}
use Rattle.qbf.specs.Formula.{Node, Prefix, Quantifier, ◌▹◌, free, quantifier_at, quantifiers}
use Rattle.theory.proofs.Basics.{length-▹}

pub nil_cons : (κ : Quantifier) (ks : List Quantifier) → ◌≡◌ {A = List Quantifier} [] (κ ∷ ks) → ⊥
nil_cons κ ks e = let z : ◌≡◌ {A = ℕ} 0 1 = cc in omega arith

cons_nil : (κ : Quantifier) (ks : List Quantifier) → ◌≡◌ {A = List Quantifier} (κ ∷ ks) [] → ⊥
cons_nil κ ks e = let z : ◌≡◌ {A = ℕ} 0 1 = cc in omega arith

-- one place is left at least: its quantifier, and what is left after it
pub drop_step : (K : List Quantifier) (i : ℕ) (κ : Quantifier) (ks : List Quantifier) → drop i K ≡ κ ∷ ks → (get_or K i free ≡ κ) × (drop (suc i) K ≡ ks)
drop_step [] zero κ ks e = absurd (nil_cons κ ks e)
drop_step [] (suc i) κ ks e = absurd (nil_cons κ ks e)
drop_step (x ∷ K) zero κ ks e = (cc, cc)
drop_step (x ∷ K) (suc i) κ ks e = drop_step K i κ ks e

pub drop_cons : (K : List Quantifier) (i : ℕ) → i < length K → drop i K ≡ get_or K i free ∷ drop (suc i) K
drop_cons [] i h = absurd (not-suc-le-zero h)
drop_cons (κ ∷ K) zero h = refl
drop_cons (κ ∷ K) (suc i) h = drop_cons K i (le_of_suc-le-suc h)

pub drop_lt : (K : List Quantifier) (i : ℕ) (κ : Quantifier) (ks : List Quantifier) → drop i K ≡ κ ∷ ks → i < length K
drop_lt [] zero κ ks e = absurd (nil_cons κ ks e)
drop_lt [] (suc i) κ ks e = absurd (nil_cons κ ks e)
drop_lt (x ∷ K) zero κ ks e = suc-le-suc zero-le
drop_lt (x ∷ K) (suc i) κ ks e = suc-le-suc (drop_lt K i κ ks e)

pub drop_all : (K : List Quantifier) (i : ℕ) → i ≤ length K → drop i K ≡ [] → i ≡ length K
drop_all [] zero h e = refl
drop_all [] (suc i) h e = absurd (not-suc-le-zero h)
drop_all (x ∷ K) zero h e = absurd (cons_nil x K e)
drop_all (x ∷ K) (suc i) h e = ap suc (drop_all K i (le_of_suc-le-suc h) e)

-- past the end every place counts as free
pub drop_end : (K : List Quantifier) (i : ℕ) → drop i K ≡ [] → (j : ℕ) → i ≤ j → get_or K j free ≡ free
drop_end [] i e j h = refl
drop_end (x ∷ K) zero e j h = absurd (cons_nil x K e)
drop_end (x ∷ K) (suc i) e zero h = absurd (not-suc-le-zero h)
drop_end (x ∷ K) (suc i) e (suc j) h = drop_end K i e j (le_of_suc-le-suc h)

module _ (D : Prefix) where
  abbrev pub Rest : Node → List Quantifier → Type 0
  Rest s ks = drop (length s) (quantifiers D) ≡ ks

  pub rest_up : (s : Node) (b : Bool) (κ : Quantifier) (ks : List Quantifier) → Rest s (κ ∷ ks) → Rest (s ▹ b) ks
  rest_up s b κ ks e = ap (λ (i : ℕ). drop i (quantifiers D)) (length-▹ s b) ∙ (drop_step (quantifiers D) (length s) κ ks e).1

  pub rest_kind : (s : Node) (κ : Quantifier) (ks : List Quantifier) → Rest s (κ ∷ ks) → quantifier_at D (suc (length s)) ≡ κ
  rest_kind s κ ks e = (drop_step (quantifiers D) (length s) κ ks e).0

  -- the node's sides are no longer than the prefix
  pub rest_small : (s : Node) (b : Bool) (κ : Quantifier) (ks : List Quantifier) → Rest s (κ ∷ ks) → length (s ▹ b) ≤ length (quantifiers D)
  rest_small s b κ ks e = omega (arith, length-▹ s b, drop_lt (quantifiers D) (length s) κ ks e)
