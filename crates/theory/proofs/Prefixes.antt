-- The prefix by numbers and places: of a prefix that no refusal stops, a number's place and the number at a place are inverse.
use Prim.Native.Nat.{ℕ, zero, suc, ◌≤◌, ◌<◌, suc-le-suc, zero-le}
use native.Mathlib.Nat.{le_of_suc-le-suc, not-suc-le-zero}
use native.Mathlib.Omega.{arith}
use mathlib.Core.Path.{◌≡◌, refl, sym, ap, ◌∙◌, subst}
use mathlib.Core.Logic.{◌⊎◌, inl, inr}
use mathlib.Core.Bool.{Bool, true, false, cond, not, ◌&&◌}
use mathlib.Core.List.{List, [], ◌∷◌, map}
use mathlib.Core.Option.{some}
use lib.ListN.{length, get_or}
use lib.Dec.{eqb, leb, leb→le}
use Rattle.qbf.specs.Formula.{Limits, Node, Prefix, Variable, ◌▹◌, any, place_from, place_of, value_at}
use Rattle.qbf.specs.Card.{Mem}
use Rattle.qbf.specs.Calls.{numbers_are_ok}
use Rattle.theory.proofs.Basics.{≡→T, and_left, and_right, not_true, or_false_right, any_false→, dichotomy, eqb_true, true_eqb, false_eqb, le_or_lt, length-▹, value_low, value_top, value_high}

abbrev pub numbers : Prefix → List ℕ
numbers D = map (λ d. d.number) D

abbrev pub Distinct : List ℕ → Type 0
Distinct [] = Unit {0}
Distinct (x ∷ xs) = ((y : ℕ) → Mem y xs → y ≡ x → ⊥) × Distinct xs

-- ---- what the test of a prefix's numbers says
module _ (L : Limits) where
  pub record Fine (seen : List ℕ) (D : Prefix) : Type 0 where
    pub ranged : (y : ℕ) → Mem y (numbers D) → (1 ≤ y) × (y ≤ L.numbers)
    pub fresh : (y : ℕ) → Mem y (numbers D) → any (eqb y) seen ≡ false
    pub distinct : Distinct (numbers D)

  pub fine : (seen : List ℕ) (D : Prefix) → numbers_are_ok L seen D ≡ true → Fine seen D
  fine seen [] e = record { ranged = λ y m. absurd m; fresh = λ y m. absurd m; distinct = tt }
  fine seen (d ∷ D) e = by (fine (d.number ∷ seen) D (and_right (p && q && r) (numbers_are_ok L (d.number ∷ seen) D) e))
    where
      p : Bool
      p = leb 1 d.number

      q : Bool
      q = leb d.number L.numbers

      r : Bool
      r = not (any (eqb d.number) seen)

      pq : (p && q) ≡ true
      pq = and_left (p && q) r (and_left (p && q && r) (numbers_are_ok L (d.number ∷ seen) D) e)

      new : any (eqb d.number) seen ≡ false
      new = not_true (any (eqb d.number) seen) (and_right (p && q) r (and_left (p && q && r) (numbers_are_ok L (d.number ∷ seen) D) e))

      by : Fine (d.number ∷ seen) D → Fine seen (d ∷ D)
      by f = record { ranged = range; fresh = unseen; distinct = (λ y m z. absurd (apart y (f.fresh y m) z), f.distinct) }
        where
          range : (y : ℕ) → Mem y (numbers (d ∷ D)) → (1 ≤ y) × (y ≤ L.numbers)
          range y (inl z) = subst (λ (n : ℕ). (1 ≤ n) × (n ≤ L.numbers)) (sym z) (leb→le 1 d.number (≡→T p (and_left p q pq)), leb→le d.number L.numbers (≡→T q (and_right p q pq)))
          range y (inr m) = f.ranged y m

          apart : (y : ℕ) → any (eqb y) (d.number ∷ seen) ≡ false → y ≡ d.number → ⊥
          apart y g z = false_eqb y d.number (any_false→ (eqb y) (d.number ∷ seen) g d.number (inl refl)) z

          unseen : (y : ℕ) → Mem y (numbers (d ∷ D)) → any (eqb y) seen ≡ false
          unseen y (inl z) = ap (λ (n : ℕ). any (eqb n) seen) z ∙ new
          unseen y (inr m) = or_false_right (eqb y d.number) (any (eqb y) seen) (f.fresh y m)

-- ---- the place of a number
abbrev later : ℕ → ℕ
later zero = 0
later (suc k) = suc (suc k)

from_later : (p n : ℕ) (D : Prefix) → place_from (suc (suc p)) n D ≡ later (place_from (suc p) n D)
from_later p n [] = refl
from_later p n (d ∷ D) = by (eqb n d.number) (from_later (suc p) n D)
  where
    by : (x : Bool) → place_from (suc (suc (suc p))) n D ≡ later (place_from (suc (suc p)) n D)
        → cond x (suc (suc p)) (place_from (suc (suc (suc p))) n D) ≡ later (cond x (suc p) (place_from (suc (suc p)) n D))
    by true h = refl
    by false h = h

place_none : (n : ℕ) → place_of [] n ≡ 0
unfolding place_of
place_none n = refl

place_here : (d : Variable) (D : Prefix) (n : ℕ) → n ≡ d.number → place_of (d ∷ D) n ≡ 1
unfolding place_of
place_here d D n e = ap (λ (x : Bool). cond x 1 (place_from 2 n D)) (true_eqb n d.number e)

place_later : (d : Variable) (D : Prefix) (n : ℕ) → eqb n d.number ≡ false → place_of (d ∷ D) n ≡ later (place_of D n)
unfolding place_of
place_later d D n e = ap (λ (x : Bool). cond x 1 (place_from 2 n D)) e ∙ from_later 0 n D

-- a number has the place that it stands at
pub number_at : (D : Prefix) (n i : ℕ) → place_of D n ≡ suc i → (i < length D) × (get_or (numbers D) i 0 ≡ n)
number_at [] n i e = absurd (omega (arith, e, place_none n))
number_at (d ∷ D) n i e = by (dichotomy (eqb n d.number)) (λ j. number_at D n j)
  where
    by : (eqb n d.number ≡ true) ⊎ (eqb n d.number ≡ false) → ((j : ℕ) → place_of D n ≡ suc j → (j < length D) × (get_or (numbers D) j 0 ≡ n))
        → (i < suc (length D)) × (get_or (numbers (d ∷ D)) i 0 ≡ n)
    by (inl q) ih = first i (omega (arith, e, place_here d D n (eqb_true n d.number q)))
      where
        first : (k : ℕ) → k ≡ 0 → (k < suc (length D)) × (get_or (numbers (d ∷ D)) k 0 ≡ n)
        first zero z = (suc-le-suc zero-le, sym (eqb_true n d.number q))
        first (suc k) z = absurd (omega (arith, z))
    by (inr q) ih = rest (place_of D n) refl (sym (place_later d D n q) ∙ e)
      where
        rest : (p : ℕ) → place_of D n ≡ p → later p ≡ suc i → (i < suc (length D)) × (get_or (numbers (d ∷ D)) i 0 ≡ n)
        rest zero h z = absurd (omega (arith, z))
        rest (suc k) h z =
            let w = ih k h in
            subst (λ (m : ℕ). (m < suc (length D)) × (get_or (numbers (d ∷ D)) m 0 ≡ n)) (omega (arith, z)) (suc-le-suc w.0, w.1)

-- a number that is not declared has no place
pub place_undeclared : (D : Prefix) (n : ℕ) → (Mem n (numbers D) → ⊥) → place_of D n ≡ 0
place_undeclared [] n h = place_none n
place_undeclared (d ∷ D) n h = by (dichotomy (eqb n d.number)) (place_undeclared D n (λ m. h (inr m)))
  where
    by : (eqb n d.number ≡ true) ⊎ (eqb n d.number ≡ false) → place_of D n ≡ 0 → place_of (d ∷ D) n ≡ 0
    by (inl q) z = absurd (h (inl (eqb_true n d.number q)))
    by (inr q) z = place_later d D n q ∙ ap later z

mem_number : (D : Prefix) (i : ℕ) → i < length D → Mem (get_or (numbers D) i 0) (numbers D)
mem_number [] i h = absurd (not-suc-le-zero h)
mem_number (d ∷ D) zero h = inl refl
mem_number (d ∷ D) (suc i) h = inr (mem_number D i (le_of_suc-le-suc h))

distinct_place : (D : Prefix) → Distinct (numbers D) → (i : ℕ) → i < length D → place_of D (get_or (numbers D) i 0) ≡ suc i
distinct_place [] u i h = absurd (not-suc-le-zero h)
distinct_place (d ∷ D) u zero h = place_here d D d.number refl
distinct_place (d ∷ D) u (suc i) h = by (dichotomy (eqb n d.number)) (distinct_place D u.1 i (le_of_suc-le-suc h))
  where
    n : ℕ
    n = get_or (numbers D) i 0

    by : (eqb n d.number ≡ true) ⊎ (eqb n d.number ≡ false) → place_of D n ≡ suc i → place_of (d ∷ D) n ≡ suc (suc i)
    by (inl q) e = absurd (u.0 n (mem_number D i (le_of_suc-le-suc h)) (eqb_true n d.number q))
    by (inr q) e = place_later d D n q ∙ ap later e

module _ (L : Limits) (D : Prefix) (ok : numbers_are_ok L [] D ≡ true) where
  pub place_of_number : (i : ℕ) → i < length D → place_of D (get_or (numbers D) i 0) ≡ suc i
  place_of_number i h = distinct_place D (fine L [] D ok).distinct i h

  pub place_of_zero : place_of D 0 ≡ 0
  place_of_zero = place_undeclared D 0 (λ m. omega (arith, ((fine L [] D ok).ranged 0 m).0))

  pub place_beyond : (n : ℕ) → L.numbers < n → place_of D n ≡ 0
  place_beyond n h = place_undeclared D n (λ m. omega (arith, h, ((fine L [] D ok).ranged n m).1))

  pub number_range : (i : ℕ) → i < length D → (1 ≤ get_or (numbers D) i 0) × (get_or (numbers D) i 0 ≤ L.numbers)
  number_range i h = (fine L [] D ok).ranged (get_or (numbers D) i 0) (mem_number D i h)

  -- the value of each number one place on: that of the next place's variable is new
  pub value_new : (s : Node) (b : Bool) (n : ℕ) → length s < length D → n ≡ get_or (numbers D) (length s) 0 → value_at (s ▹ b) (place_of D n) ≡ some b
  value_new s b n h e = ap (value_at (s ▹ b)) (ap (place_of D) e ∙ place_of_number (length s) h) ∙ value_top s b

-- that of any other stays
pub value_old : (D : Prefix) (s : Node) (b : Bool) (n : ℕ) → (n ≡ get_or (numbers D) (length s) 0 → ⊥) → value_at (s ▹ b) (place_of D n) ≡ value_at s (place_of D n)
value_old D s b n h = by (place_of D n) refl (le_or_lt (place_of D n) (length s))
  where
    by : (p : ℕ) → place_of D n ≡ p → (place_of D n ≤ length s) ⊎ (length s < place_of D n) → value_at (s ▹ b) p ≡ value_at s p
    by p e (inl q) = value_low s b p (omega (arith, e, q))
    by p e (inr q) = value_high (s ▹ b) p (beyond p e q) ∙ sym (value_high s p (omega (arith, e, q)))
      where
        apart : (k : ℕ) → place_of D n ≡ k → (k ≡ suc (length s) → ⊥)
        apart k z y = h (sym (number_at D n (length s) (z ∙ y)).1)

        beyond : (k : ℕ) → place_of D n ≡ k → length s < place_of D n → length (s ▹ b) < k
        beyond k z y = omega (arith, z, y, apart k z, length-▹ s b)

-- both in one
pub value_step : (L : Limits) (D : Prefix) → numbers_are_ok L [] D ≡ true → (s : Node) (b : Bool) (n : ℕ) → length s < length D
    → value_at (s ▹ b) (place_of D n) ≡ cond (eqb n (get_or (numbers D) (length s) 0)) (some b) (value_at s (place_of D n))
value_step L D ok s b n h = by (eqb n (get_or (numbers D) (length s) 0)) refl
  where
    by : (x : Bool) → eqb n (get_or (numbers D) (length s) 0) ≡ x → value_at (s ▹ b) (place_of D n) ≡ cond x (some b) (value_at s (place_of D n))
    by true e = value_new L D ok s b n h (eqb_true n (get_or (numbers D) (length s) 0) e)
    by false e = value_old D s b n (false_eqb n (get_or (numbers D) (length s) 0) e)
