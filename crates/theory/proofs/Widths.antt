-- Widths, once over the limits: declarations, and the literals of a clause or constraint.
use Prim.Native.Nat.{ℕ, zero, suc, ◌+◌, ◌≤◌, min, suc-le-suc, zero-le}
use native.Mathlib.Nat.{min-le_right}
use native.Mathlib.Omega.{arith}
use mathlib.Core.Path.{◌≡◌, refl, sym, ap, ◌∙◌}
use mathlib.Core.Logic.{inl, inr}
use mathlib.Core.Bool.{Bool, true, false, cond}
use mathlib.Core.List.{List, [], ◌∷◌}
use lib.ListN.{length, length-map}
use lib.Dec.{eqb, leb}
use borrow.Author.Tests.{le-leb}
use Rattle.qbf.specs.Formula.{Limits, Literal, Prefix, capped, highest, most_free, paper, place, quantifiers}
use Rattle.qbf.specs.Truth.{free_variables}
use Rattle.qbf.specs.Card.{Mem}
use Rattle.qbf.specs.Calls.{free_is_ok, limits_are_ok, numbers_are_ok}
use Rattle.theory.proofs.Basics.{and_both, eqb_true, false_eqb}
use Rattle.theory.proofs.Game.{Rising}
use Rattle.theory.proofs.WellFormed.{inside}
use Rattle.theory.proofs.Prefixes.{Distinct, numbers, fine}
use Rattle.theory.proofs.Starting.{free_fit}

-- ---- distinct numbers from 1 to n are at most n
remove : ℕ → List ℕ → List ℕ
remove n [] = []
remove n (x ∷ xs) = cond (eqb x n) (remove n xs) (x ∷ remove n xs)

module _ (n : ℕ) where
  remove_sub : (xs : List ℕ) (y : ℕ) → Mem y (remove n xs) → Mem y xs × (y ≡ n → ⊥)
  unfolding remove
  remove_sub [] y m = absurd m
  remove_sub (x ∷ xs) y m = by (eqb x n) refl m (remove_sub xs y)
    where
      by : (b : Bool) → eqb x n ≡ b → Mem y (cond b (remove n xs) (x ∷ remove n xs)) → (Mem y (remove n xs) → Mem y xs × (y ≡ n → ⊥)) → Mem y (x ∷ xs) × (y ≡ n → ⊥)
      by true e k ih = (inr (ih k).0, (ih k).1)
      by false e (inl p) ih = (inl p, λ q. false_eqb x n e (sym p ∙ q))
      by false e (inr k) ih = (inr (ih k).0, (ih k).1)

  remove_distinct : (xs : List ℕ) → Distinct xs → Distinct (remove n xs)
  unfolding remove
  remove_distinct [] h = tt
  remove_distinct (x ∷ xs) h = by (eqb x n) (remove_distinct xs h.1)
    where
      by : (b : Bool) → Distinct (remove n xs) → Distinct (cond b (remove n xs) (x ∷ remove n xs))
      by true ih = ih
      by false ih = (λ y m. h.0 y (remove_sub xs y m).0, ih)

  remove_absent : (xs : List ℕ) → ((y : ℕ) → Mem y xs → y ≡ n → ⊥) → length (remove n xs) ≡ length xs
  unfolding remove
  remove_absent [] h = refl
  remove_absent (x ∷ xs) h = by (eqb x n) refl (remove_absent xs (λ y m. h y (inr m)))
    where
      by : (b : Bool) → eqb x n ≡ b → length (remove n xs) ≡ length xs → length (cond b (remove n xs) (x ∷ remove n xs)) ≡ suc (length xs)
      by true e ih = absurd (h x (inl refl) (eqb_true x n e))
      by false e ih = ap suc ih

  remove_one : (xs : List ℕ) → Distinct xs → length xs ≤ suc (length (remove n xs))
  unfolding remove
  remove_one [] h = zero-le
  remove_one (x ∷ xs) h = by (eqb x n) refl (remove_one xs h.1)
    where
      by : (b : Bool) → eqb x n ≡ b → length xs ≤ suc (length (remove n xs)) → suc (length xs) ≤ suc (length (cond b (remove n xs) (x ∷ remove n xs)))
      by true e ih = omega (arith, remove_absent xs (λ y m q. h.0 y m (q ∙ sym (eqb_true x n e))))
      by false e ih = suc-le-suc ih

at_most : (n : ℕ) (xs : List ℕ) → Distinct xs → ((y : ℕ) → Mem y xs → (1 ≤ y) × (y ≤ n)) → length xs ≤ n
at_most zero [] d h = zero-le
at_most zero (x ∷ xs) d h = absurd (omega (arith, (h x (inl refl)).0, (h x (inl refl)).1))
at_most (suc n) xs d h = omega (arith, remove_one (suc n) xs d, at_most n (remove (suc n) xs) (remove_distinct (suc n) xs d) lower)
  where
    lower : (y : ℕ) → Mem y (remove (suc n) xs) → (1 ≤ y) × (y ≤ n)
    lower y m = let w = remove_sub (suc n) xs y m in less y (h y w.0) w.1
      where
        less : (y : ℕ) → (1 ≤ y) × (y ≤ suc n) → (y ≡ suc n → ⊥) → (1 ≤ y) × (y ≤ n)
        less y k q = omega (arith, k.0, k.1, q)

-- ---- declarations
module _ (L : Limits) where
  pub prefix_width : (D : Prefix) → numbers_are_ok L [] D ≡ true → length (quantifiers D) ≤ L.numbers
  prefix_width D e =
      let f = fine L [] D e in
      omega (arith, at_most L.numbers (numbers D) f.distinct f.ranged, length-map D (λ d. d.number), length-map D (λ d. d.quantifier))

-- ---- what is in place order
from_width : (D : Prefix) (d : ℕ) (ls : List Literal) → d ≤ length (quantifiers D) → Rising D d ls → length ls + d ≤ length (quantifiers D)
from_width D d [] h up = omega (arith, h)
from_width D d (l ∷ ls) h up = omega (arith, up.0, from_width D (place D l) ls (inside D l) up.1)

pub constraint_width : (L : Limits) (D : Prefix) (ls : List Literal) → numbers_are_ok L [] D ≡ true → Rising D 0 ls → length ls ≤ L.numbers
constraint_width L D ls e up = omega (arith, prefix_width L D e, from_width D 0 ls zero-le up)

-- the paper's instance, and that of the highest limits
pub constraint_40 : (D : Prefix) (ls : List Literal) → numbers_are_ok paper [] D ≡ true → Rising D 0 ls → length ls ≤ 40
constraint_40 D ls e up = constraint_width paper D ls e up

pub constraint_1000 : (L : Limits) → L.numbers ≤ highest.numbers → (D : Prefix) (ls : List Literal) → numbers_are_ok L [] D ≡ true → Rising D 0 ls → length ls ≤ 1000
constraint_1000 L h D ls e up = omega (arith, h, constraint_width L D ls e up)

-- where numbers run to 40 at most, "flags stay at most 40" by themselves
pub free_fits : (L : Limits) → L.numbers ≤ most_free → (D : Prefix) → numbers_are_ok L [] D ≡ true → free_is_ok D ≡ true
free_fits L h D e = le-leb (free_variables D) most_free (omega (arith, h, prefix_width L D e, free_fit (quantifiers D)))

-- a formula is opened with limits that are well formed: "capped at these"
pub capped_ok : (n m : ℕ) → limits_are_ok (capped n m) ≡ true
capped_ok n m =
    and_both (leb (min n highest.numbers) highest.numbers) (leb (min m highest.clauses) highest.clauses)
    (le-leb (min n highest.numbers) highest.numbers (min-le_right n highest.numbers)) (le-leb (min m highest.clauses) highest.clauses (min-le_right m highest.clauses))
