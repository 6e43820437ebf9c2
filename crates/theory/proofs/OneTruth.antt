-- With all values given the forms are all true exactly when one literal is true and every other is false: for any length.
use Prim.Native.Nat.{zero, suc}
use mathlib.Core.Path.{◌≡◌, refl, sym, ap, ◌∙◌, subst}
use mathlib.Core.Logic.{◌⊎◌, inl, inr, ◌↔◌}
use mathlib.Core.Bool.{Bool, true, false, ◌||◌, beq, true≢false, false≢true}
use mathlib.Core.List.{List, [], ◌∷◌, ◌++◌}
use mathlib.Core.Option.{Option, none, some}
use lib.IntN.{pos, negsuc, neg_ℤ}
use Rattle.qbf.specs.Formula.{Prefix, Literal, Node, number_of, positive, place, value_at, is_open, equals, has, all, satisfied}
use Rattle.qbf.specs.Card.{Mem}
use Rattle.theory.proofs.Basics.{dichotomy, or_left, or_right, or_cases, and_left, and_right, and_both}
use Rattle.qbf.specs.One.{both_negated, pairs_with, pairs, one_forms, OneTrue}

-- a literal that has a value, of a variable's number
pub record Given (D : Prefix) (s : Node) (l : Literal) : Type 0 where
  pub number : number_of l ≡ 0 → ⊥
  pub value : is_open (value_at s (place D l)) ≡ false

-- "For all values given"
abbrev pub AllGiven : Prefix → Node → List Literal → Type 0
AllGiven D s ls = (l : Literal) → Mem l ls → Given D s l

pub all_append : {A : Type 0} (f : A → Bool) (xs ys : List A) → all f xs ≡ true → all f ys ≡ true → all f (xs ++ ys) ≡ true
all_append f [] ys a b = b
all_append f (x ∷ xs) ys a b = and_both (f x) (all f (xs ++ ys)) (and_left (f x) (all f xs) a) (all_append f xs ys (and_right (f x) (all f xs) a) b)

pub all_parts : {A : Type 0} (f : A → Bool) (xs ys : List A) → all f (xs ++ ys) ≡ true → (all f xs ≡ true) × (all f ys ≡ true)
all_parts f [] ys a = (refl, a)
all_parts f (x ∷ xs) ys a =
    let p = all_parts f xs ys (and_right (f x) (all f (xs ++ ys)) a) in
    (and_both (f x) (all f xs) (and_left (f x) (all f (xs ++ ys)) a) p.0, p.1)

-- ---- one literal
pub negation_number : (l : Literal) → number_of (neg_ℤ l) ≡ number_of l
negation_number (pos zero) = refl
negation_number (pos (suc n)) = refl
negation_number (negsuc n) = refl

module _ (D : Prefix) (s : Node) where
  -- a negation is true where the literal is false
  negation_true : (l : Literal) → (number_of l ≡ 0 → ⊥) → has D true s (neg_ℤ l) ≡ has D false s l
  negation_true (pos zero) h = absurd (h refl)
  negation_true (pos (suc n)) h = refl
  negation_true (negsuc n) h = refl

  -- with its value given a literal is true or false, and not both
  not_both : (l : Literal) → has D true s l ≡ true → has D false s l ≡ true → ⊥
  not_both l = by (value_at s (place D l)) (positive l)
    where
      by : (o : Option Bool) (p : Bool) → equals o (beq true p) ≡ true → equals o (beq false p) ≡ true → ⊥
      by none p a b = false≢true a
      by (some true) true a b = false≢true b
      by (some true) false a b = false≢true a
      by (some false) true a b = false≢true a
      by (some false) false a b = false≢true b

  false_else : (l : Literal) → Given D s l → has D true s l ≡ false → has D false s l ≡ true
  false_else l g = by (value_at s (place D l)) (positive l) g.value
    where
      by : (o : Option Bool) (p : Bool) → is_open o ≡ false → equals o (beq true p) ≡ false → equals o (beq false p) ≡ true
      by none p h a = absurd (true≢false h)
      by (some true) true h a = absurd (true≢false a)
      by (some true) false h a = refl
      by (some false) true h a = refl
      by (some false) false h a = absurd (true≢false a)

  -- ---- a pair
  pair_other : (l m : Literal) → Given D s l → Given D s m → has D true s l ≡ true → satisfied D s (both_negated l m) ≡ true → has D false s m ≡ true
  pair_other l m g h a e = pick (or_cases (has D true s (neg_ℤ l)) (has D true s (neg_ℤ m) || false) e)
    where
      pick : (has D true s (neg_ℤ l) ≡ true) ⊎ ((has D true s (neg_ℤ m) || false) ≡ true) → has D false s m ≡ true
      pick (inl x) = absurd (not_both l a (sym (negation_true l g.number) ∙ x))
      pick (inr x) = last (or_cases (has D true s (neg_ℤ m)) false x)
        where
          last : (has D true s (neg_ℤ m) ≡ true) ⊎ (false ≡ true) → has D false s m ≡ true
          last (inl y) = sym (negation_true m h.number) ∙ y
          last (inr y) = absurd (false≢true y)

  pair_left : (l m : Literal) → Given D s l → has D false s l ≡ true → satisfied D s (both_negated l m) ≡ true
  pair_left l m g a = or_left (has D true s (neg_ℤ l)) (has D true s (neg_ℤ m) || false) (negation_true l g.number ∙ a)

  pair_right : (l m : Literal) → Given D s m → has D false s m ≡ true → satisfied D s (both_negated l m) ≡ true
  pair_right l m g a =
      or_right (has D true s (neg_ℤ l)) (has D true s (neg_ℤ m) || false) (or_left (has D true s (neg_ℤ m)) false (negation_true m g.number ∙ a))

  -- ---- the pairs of one literal and later ones
  with_others : (l : Literal) (ms : List Literal) → Given D s l → AllGiven D s ms → has D true s l ≡ true → all (satisfied D s) (pairs_with l ms) ≡ true → all (has D false s) ms ≡ true
  with_others l [] g h a e = refl
  with_others l (m ∷ ms) g h a e =
      and_both (has D false s m) (all (has D false s) ms)
      (pair_other l m g (h m (inl refl)) a (and_left (satisfied D s (both_negated l m)) (all (satisfied D s) (pairs_with l ms)) e))
      (with_others l ms g (λ x n. h x (inr n)) a (and_right (satisfied D s (both_negated l m)) (all (satisfied D s) (pairs_with l ms)) e))

  with_false : (l : Literal) (ms : List Literal) → Given D s l → has D false s l ≡ true → all (satisfied D s) (pairs_with l ms) ≡ true
  with_false l [] g a = refl
  with_false l (m ∷ ms) g a = and_both (satisfied D s (both_negated l m)) (all (satisfied D s) (pairs_with l ms)) (pair_left l m g a) (with_false l ms g a)

  with_all_false : (l : Literal) (ms : List Literal) → AllGiven D s ms → all (has D false s) ms ≡ true → all (satisfied D s) (pairs_with l ms) ≡ true
  with_all_false l [] h e = refl
  with_all_false l (m ∷ ms) h e =
      and_both (satisfied D s (both_negated l m)) (all (satisfied D s) (pairs_with l ms))
      (pair_right l m (h m (inl refl)) (and_left (has D false s m) (all (has D false s) ms) e))
      (with_all_false l ms (λ x n. h x (inr n)) (and_right (has D false s m) (all (has D false s) ms) e))

  pairs_false : (ls : List Literal) → AllGiven D s ls → all (has D false s) ls ≡ true → all (satisfied D s) (pairs ls) ≡ true
  pairs_false [] h e = refl
  pairs_false (l ∷ ls) h e =
      all_append (satisfied D s) (pairs_with l ls) (pairs ls)
      (with_false l ls (h l (inl refl)) (and_left (has D false s l) (all (has D false s) ls) e))
      (pairs_false ls (λ x n. h x (inr n)) (and_right (has D false s l) (all (has D false s) ls) e))

  -- ---- all forms
  forms→one : (ls : List Literal) → AllGiven D s ls → satisfied D s ls ≡ true → all (satisfied D s) (pairs ls) ≡ true → OneTrue D s ls
  forms→one [] h a e = absurd (false≢true a)
  forms→one (l ∷ ls) h a e = by (dichotomy (has D true s l)) (forms→one ls (λ x n. h x (inr n)))
    where
      parts : (all (satisfied D s) (pairs_with l ls) ≡ true) × (all (satisfied D s) (pairs ls) ≡ true)
      parts = all_parts (satisfied D s) (pairs_with l ls) (pairs ls) e

      by : (has D true s l ≡ true) ⊎ (has D true s l ≡ false) → (satisfied D s ls ≡ true → all (satisfied D s) (pairs ls) ≡ true → OneTrue D s ls) → OneTrue D s (l ∷ ls)
      by (inl t) ih =
          record { before = []; it = l; after = ls; splits = refl; true_one = t; others_false = with_others l ls (h l (inl refl)) (λ x n. h x (inr n)) t parts.0 }
      by (inr t) ih =
          let o = ih (sym (ap (λ (x : Bool). x || satisfied D s ls) t) ∙ a) parts.1 in
          record {
            before = l ∷ o.before;
            it = o.it;
            after = o.after;
            splits = ap {B = List Literal} (λ k. l ∷ k) o.splits;
            true_one = o.true_one;
            others_false = and_both (has D false s l) (all (has D false s) (o.before ++ o.after)) (false_else l (h l (inl refl)) t) o.others_false;
          }

  one→forms : (bs : List Literal) (it : Literal) (cs : List Literal) → AllGiven D s (bs ++ (it ∷ cs)) → has D true s it ≡ true → all (has D false s) (bs ++ cs) ≡ true
      → (satisfied D s (bs ++ (it ∷ cs)) ≡ true) × (all (satisfied D s) (pairs (bs ++ (it ∷ cs))) ≡ true)
  one→forms [] it cs h t e = (
    or_left (has D true s it) (satisfied D s cs) t,
    all_append (satisfied D s) (pairs_with it cs) (pairs cs) (with_all_false it cs (λ x n. h x (inr n)) e) (pairs_false cs (λ x n. h x (inr n)) e),
  )
  one→forms (b ∷ bs) it cs h t e =
      let r = one→forms bs it cs (λ x n. h x (inr n)) t (and_right (has D false s b) (all (has D false s) (bs ++ cs)) e) in (
        or_right (has D true s b) (satisfied D s (bs ++ (it ∷ cs))) r.0,
        all_append (satisfied D s) (pairs_with b (bs ++ (it ∷ cs))) (pairs (bs ++ (it ∷ cs)))
            (with_false b (bs ++ (it ∷ cs)) (h b (inl refl)) (and_left (has D false s b) (all (has D false s) (bs ++ cs)) e)) r.1,
      )

  -- "For all values given, the rules so added are all true exactly when one of the literals is true and every other is false, shown
  -- once for any length."
  pub forms_exactly : (ls : List Literal) → AllGiven D s ls → (all (satisfied D s) (one_forms ls) ≡ true) ↔ OneTrue D s ls
  forms_exactly ls h = (
    λ e. forms→one ls h (and_left (satisfied D s ls) (all (satisfied D s) (pairs ls)) e) (and_right (satisfied D s ls) (all (satisfied D s) (pairs ls)) e),
    λ o.
        let r = one→forms o.before o.it o.after (subst (AllGiven D s) o.splits h) o.true_one o.others_false in
        subst (λ (k : List Literal). all (satisfied D s) (one_forms k) ≡ true) (sym o.splits)
        (and_both (satisfied D s (o.before ++ (o.it ∷ o.after))) (all (satisfied D s) (pairs (o.before ++ (o.it ∷ o.after)))) r.0 r.1),
  )
