-- The cube of step 3 by steps: places are given values in order, so that a clause's true literal of smallest place is the one whose step
-- first satisfied it. The cube names exactly the places whose step satisfied a clause that was not satisfied before.
use Prim.Native.Nat.{ℕ, zero, suc, ◌≤◌, ◌<◌}
use native.Mathlib.Nat.{le_of_suc-le-suc, min-le_left, not-suc-le-zero}
use native.Mathlib.Omega.{arith}
use mathlib.Core.Path.{◌≡◌, refl, sym, ap, ◌∙◌, subst}
use mathlib.Core.Logic.{◌⊎◌, inl, inr}
use mathlib.Core.Bool.{Bool, true, false, cond, not, ◌&&◌, ◌||◌, true≢false}
use mathlib.Core.List.{List, [], ◌∷◌}
use mathlib.Core.Option.{Option, none, some}
use lib.ListN.{length, get_elem?, length-take, take}
use lib.Dec.{eqb, leb}
use borrow.Author.Tests.{le-leb, leb-false, leb-true, lt-leb}
use Rattle.qbf.specs.Formula.{Clause, Literal, Node, Prefix, all, any, has, place, satisfied, value_at}
use Rattle.qbf.specs.Learning.{Constraint, first, implicant, insert, insert_found, mentions}
use Rattle.qbf.specs.Card.{Mem}
use Rattle.theory.proofs.Basics.{and_both, and_left, and_right, any→, eqb_true, has_agrees, has_le, not_true, or_cases, or_left, or_right, true_eqb, →any}
use Rattle.theory.proofs.Game.{Rising, rising_above}
use Rattle.theory.proofs.Sets.{Found, found, insert_new, insert_old, insert_sub, mentions→, →mentions}
use Rattle.theory.proofs.Stepwise.{or_none, same_bool}

-- ---- the first values of a node
elem_take : (j : ℕ) (s : Node) (i : ℕ) → i < j → get_elem? (take j s) i ≡ get_elem? s i
elem_take zero s i h = absurd (not-suc-le-zero h)
elem_take (suc j) [] i h = refl
elem_take (suc j) (x ∷ s) zero h = refl
elem_take (suc j) (x ∷ s) (suc i) h = elem_take j s i (le_of_suc-le-suc h)

pub value_take : (j : ℕ) (s : Node) (p : ℕ) → p ≤ j → value_at (take j s) p ≡ value_at s p
value_take j s zero h = refl
value_take j s (suc i) h = elem_take j s i h

-- what is at most the next place and no earlier one is it
next : (p i : ℕ) → (leb p (suc i) && not (leb p i)) ≡ eqb p (suc i)
next p i = same_bool (leb p (suc i) && not (leb p i)) (eqb p (suc i)) there back
  where
    there : (leb p (suc i) && not (leb p i)) ≡ true → eqb p (suc i) ≡ true
    there e =
        true_eqb p (suc i)
        (omega (
          arith,
          leb-true p (suc i) (and_left (leb p (suc i)) (not (leb p i)) e),
          leb-false p i (not_true (leb p i) (and_right (leb p (suc i)) (not (leb p i)) e)),
        ))

    back : eqb p (suc i) ≡ true → (leb p (suc i) && not (leb p i)) ≡ true
    back e =
        let h : p ≡ suc i = eqb_true p (suc i) e in
        and_both (leb p (suc i)) (not (leb p i)) (le-leb p (suc i) (omega arith)) (ap not (lt-leb p i (omega arith)))

module _ (D : Prefix) (s : Node) where
  has_take : (v : Bool) (j : ℕ) (l : Literal) → place D l ≤ j → has D v (take j s) l ≡ has D v s l
  has_take v j l h = has_agrees D v (take j s) s l (value_take j s (place D l) h)

  within : (v : Bool) (j : ℕ) (l : Literal) → has D v (take j s) l ≡ true → place D l ≤ j
  within v j l e = omega (arith, has_le D v (take j s) l e, length-take j s, min-le_left j (length s))

  -- ---- a clause's true literal of smallest place
  first_least : (d : ℕ) (r : Clause) → Rising D d r → (l : Literal) → first (has D true s) r ≡ some l
      → (m : Literal) → Mem m r → has D true s m ≡ true → place D l ≤ place D m
  first_least d [] up l e m n h = absurd n
  first_least d (k ∷ r) up l e m n h = by (has D true s k) refl (first_least (place D k) r up.1 l) e n
    where
      by : (x : Bool) → has D true s k ≡ x → (first (has D true s) r ≡ some l → (m : Literal) → Mem m r → has D true s m ≡ true → place D l ≤ place D m)
          → cond x (some k) (first (has D true s) r) ≡ some l → Mem m (k ∷ r) → place D l ≤ place D m
      by true q ih z (inl p) = let same : k ≡ l = cc in omega (arith, ap (place D) same, ap (place D) p)
      by true q ih z (inr o) = let same : k ≡ l = cc in omega (arith, ap (place D) same, rising_above D (place D k) r up.1 m o)
      by false q ih z (inl p) = absurd (true≢false (sym h ∙ ap (has D true s) p ∙ q))
      by false q ih z (inr o) = ih z m o h

  module _ (r : Clause) (up : Rising D 0 r) (l : Literal) (is : first (has D true s) r ≡ some l) where
    -- the clause is satisfied from that literal's place on
    satisfied_from : (j : ℕ) → satisfied D (take j s) r ≡ leb (place D l) j
    satisfied_from j = same_bool (satisfied D (take j s) r) (leb (place D l) j) there back
      where
        there : satisfied D (take j s) r ≡ true → leb (place D l) j ≡ true
        there e =
            let w = any→ (has D true (take j s)) r e in
            let h : place D w.0 ≤ j = within true j w.0 w.2 in
            le-leb (place D l) j (omega (arith, first_least 0 r up l is w.0 w.1 (sym (has_take true j w.0 h) ∙ w.2)))

        back : leb (place D l) j ≡ true → satisfied D (take j s) r ≡ true
        back e =
            let w : Found (has D true s) r (some l) = subst (Found (has D true s) r) is (found (has D true s) r) in
            →any (has D true (take j s)) r l w.0 (has_take true j l (leb-true (place D l) j e) ∙ w.1)

    -- the step of that place, and no other, satisfied it
    satisfied_by : (i : ℕ) → (satisfied D (take (suc i) s) r && not (satisfied D (take i s) r)) ≡ eqb (place D l) (suc i)
    satisfied_by i = rw (satisfied_from (suc i), satisfied_from i) (next (place D l) i)

  -- ---- all clauses
  -- the step of place i + 1 satisfied a clause that was not satisfied before
  abbrev pub newly : List Clause → ℕ → Bool
  newly R i = any (λ r. satisfied D (take (suc i) s) r && not (satisfied D (take i s) r)) R

  mentions_insert : (p : ℕ) (l : Literal) (E : Constraint) → mentions D p (insert D l E) ≡ (mentions D p E || eqb (place D l) p)
  mentions_insert p l E =
      same_bool (mentions D p (insert D l E)) (mentions D p E || eqb (place D l) p) there
      (λ e. back (or_cases (mentions D p E) (eqb (place D l) p) e))
    where
      there : mentions D p (insert D l E) ≡ true → (mentions D p E || eqb (place D l) p) ≡ true
      there e = let w = mentions→ D p (insert D l E) e in by w.0 w.2 (insert_sub D l E w.0 w.1)
        where
          by : (m : Literal) → place D m ≡ p → (m ≡ l) ⊎ Mem m E → (mentions D p E || eqb (place D l) p) ≡ true
          by m q (inl h) = or_right (mentions D p E) (eqb (place D l) p) (true_eqb (place D l) p (ap (place D) (sym h) ∙ q))
          by m q (inr h) = or_left (mentions D p E) (eqb (place D l) p) (→mentions D p E (m, h, q))

      back : (mentions D p E ≡ true) ⊎ (eqb (place D l) p ≡ true) → mentions D p (insert D l E) ≡ true
      back (inl h) = let w = mentions→ D p E h in →mentions D p (insert D l E) (w.0, insert_old D l E w.0 w.1, w.2)
      back (inr h) = let w = insert_new D l E in →mentions D p (insert D l E) (w.0, w.1, w.2 ∙ eqb_true (place D l) p h)

  or_assoc : (x y z : Bool) → ((x || y) || z) ≡ (x || (y || z))
  or_assoc true y z = refl
  or_assoc false y z = refl

  mentions_steps : (i : ℕ) (R : List Clause) → ((r : Clause) → Mem r R → Rising D 0 r) → all (satisfied D s) R ≡ true
      → (E : Constraint) → mentions D (suc i) (implicant D s R E) ≡ (mentions D (suc i) E || newly R i)
  mentions_steps i [] up sat E = sym (or_none (mentions D (suc i) E) refl)
  mentions_steps i (r ∷ R) up sat E =
      by (first (has D true s) r) refl (found (has D true s) r)
      (mentions_steps i R (λ x m. up x (inr m)) (and_right (satisfied D s r) (all (satisfied D s) R) sat))
    where
      by : (o : Option Literal) → first (has D true s) r ≡ o → Found (has D true s) r o
          → ((F : Constraint) → mentions D (suc i) (implicant D s R F) ≡ (mentions D (suc i) F || newly R i))
          → mentions D (suc i) (implicant D s R (insert_found D o E)) ≡ (mentions D (suc i) E || newly (r ∷ R) i)
      by none e w ih = absurd (true≢false (sym (and_left (satisfied D s r) (all (satisfied D s) R) sat) ∙ w))
      by (some l) e w ih =
          ih (insert D l E)
          ∙ ap (λ (x : Bool). x || newly R i) (mentions_insert (suc i) l E)
          ∙ or_assoc (mentions D (suc i) E) (eqb (place D l) (suc i)) (newly R i)
          ∙ ap (λ (x : Bool). mentions D (suc i) E || (x || newly R i)) (sym (satisfied_by r (up r (inl refl)) l e i))

-- The cube of a node that satisfies every clause names the place i + 1 exactly if the step there satisfied a clause that was not
-- satisfied before. Its literals are true and in place order (implicant-true, implicant-rising), so that this says which they are.
pub implicant_steps : (D : Prefix) (s : Node) (R : List Clause) → ((r : Clause) → Mem r R → Rising D 0 r) → all (satisfied D s) R ≡ true
    → (i : ℕ) → mentions D (suc i) (implicant D s R []) ≡ newly D s R i
implicant_steps D s R up sat i = mentions_steps D s i R up sat []
