-- A node is come to place by place: which clauses one value more satisfies, and which of them die by it.
use Prim.Native.Nat.{ℕ, zero, suc, ◌≤◌, ◌<◌}
use native.Mathlib.Omega.{arith}
use mathlib.Core.Path.{◌≡◌, refl, sym, ap, ◌∙◌}
use mathlib.Core.Logic.{◌⊎◌, inl, inr}
use mathlib.Core.Bool.{Bool, true, false, not, ◌&&◌, ◌||◌, beq, true≢false, false≢true}
use mathlib.Core.List.{List, [], ◌∷◌}
use mathlib.Core.Option.{Option, none, some}
use lib.ListN.{length, get_or}
use lib.Dec.{eqb}
use Rattle.qbf.specs.Formula.{Clause, Literal, Node, Prefix, ◌▹◌, all, any, dead, equals, has, place, positive, quantifier_at, satisfied, value_at}
use Rattle.qbf.specs.Learning.{Constraint, dropped, first, first_dead, last_place, last_place_from, reduce}
use Rattle.qbf.specs.Card.{Mem}
use Rattle.theory.proofs.Basics.{all→, and_both, and_left, and_right, any_false→, beq→≡, beq_refl, dichotomy, eqb_true, false_eqb, has_low, has_le, has_up, le_or_lt, length-▹, not_true, true_eqb, value_high, value_some, value_top, →all, →any_false}
use Rattle.theory.proofs.Constraints.{reduce_rest, reduce_rising, reduce_sub}
use Rattle.theory.proofs.Dying.{dies, ends, none_dead}
use Rattle.theory.proofs.Game.{Rising, has_top, rising_above}

-- ---- Booleans and lists
pub same_bool : (x y : Bool) → (x ≡ true → y ≡ true) → (y ≡ true → x ≡ true) → x ≡ y
same_bool true y f g = sym (f refl)
same_bool false true f g = g refl
same_bool false false f g = refl

pub or_none : (x : Bool) {y : Bool} → y ≡ false → (x || y) ≡ x
or_none true e = refl
or_none false e = e

or_pairs : (x y u w : Bool) → ((x || y) || (u || w)) ≡ ((x || u) || (y || w))
or_pairs true y u w = refl
or_pairs false true true w = refl
or_pairs false true false w = refl
or_pairs false false u w = refl

module _ {A : Type 0} (f g : A → Bool) where
  any_or : (h : A → Bool) → ((x : A) → h x ≡ (f x || g x)) → (xs : List A) → any h xs ≡ (any f xs || any g xs)
  any_or h e [] = refl
  any_or h e (x ∷ xs) = rw (e x, any_or h e xs) (or_pairs (f x) (g x) (any f xs) (any g xs))

  -- two tests that agree at every element find the same
  pub first_same : (xs : List A) → ((x : A) → Mem x xs → f x ≡ g x) → first f xs ≡ first g xs
  first_same [] h = refl
  first_same (x ∷ xs) h = rw (h x (inl refl), first_same xs (λ y m. h y (inr m)))

-- ---- the literal of a place with a value
module _ (D : Prefix) where
  -- the literal is of place p, positive or not
  abbrev pub is_at : ℕ → Bool → Literal → Bool
  is_at p x l = eqb (place D l) p && beq x (positive l)

  pub is_at→ : (p : ℕ) (x : Bool) (l : Literal) → is_at p x l ≡ true → (place D l ≡ p) × (positive l ≡ x)
  is_at→ p x l e = (
    eqb_true (place D l) p (and_left (eqb (place D l) p) (beq x (positive l)) e),
    sym (beq→≡ x (positive l) (and_right (eqb (place D l) p) (beq x (positive l)) e)),
  )

  pub →is_at : (p : ℕ) (x : Bool) (l : Literal) → place D l ≡ p → positive l ≡ x → is_at p x l ≡ true
  →is_at p x l e q =
      and_both (eqb (place D l) p) (beq x (positive l)) (true_eqb (place D l) p e) (ap (beq x) q ∙ beq_refl x)

  -- ---- one value more
  module _ (s : Node) (b : Bool) where
    -- a literal has a truth value one place below if it has it already, or gets it by the value of its place
    pub has_step : (v : Bool) (l : Literal) → has D v (s ▹ b) l ≡ (has D v s l || (eqb (place D l) (suc (length s)) && beq b (beq v (positive l))))
    has_step v l = by (le_or_lt (place D l) (length s)) (dichotomy (eqb (place D l) (suc (length s))))
      where
        sign : Bool
        sign = beq v (positive l)

        open_above : length s < place D l → has D v s l ≡ false
        open_above h = ap (λ (o : Option Bool). equals o sign) (value_high s (place D l) h)

        beyond : (p : ℕ) → length s < p → (p ≡ suc (length s) → ⊥) → length (s ▹ b) < p
        beyond p h k = omega (arith, h, k, length-▹ s b)

        by : (place D l ≤ length s) ⊎ (length s < place D l) → (eqb (place D l) (suc (length s)) ≡ true) ⊎ (eqb (place D l) (suc (length s)) ≡ false)
            → has D v (s ▹ b) l ≡ (has D v s l || (eqb (place D l) (suc (length s)) && beq b sign))
        by (inl h) (inl e) = absurd (omega (arith, h, eqb_true (place D l) (suc (length s)) e))
        by (inl h) (inr e) = has_low D v s b l h ∙ sym (or_none (has D v s l) (ap (λ (x : Bool). x && beq b sign) e))
        by (inr h) (inl e) =
            ap (λ (p : ℕ). equals (value_at (s ▹ b) p) sign) (eqb_true (place D l) (suc (length s)) e)
            ∙ ap (λ (o : Option Bool). equals o sign) (value_top s b)
            ∙ sym (rw (open_above h, e))
        by (inr h) (inr e) =
            ap (λ (o : Option Bool). equals o sign) (value_high (s ▹ b) (place D l) (beyond (place D l) h (false_eqb (place D l) (suc (length s)) e)))
            ∙ sym (rw (open_above h, e))

    -- a clause is satisfied one place below if it is so already, or has the literal that the value makes true
    pub satisfied_step : (r : Clause) → satisfied D (s ▹ b) r ≡ (satisfied D s r || any (is_at (suc (length s)) b) r)
    satisfied_step r = any_or (has D true s) (is_at (suc (length s)) b) (has D true (s ▹ b)) (λ l. has_step true l ∙ rw (beq_true (positive l))) r
      where
        beq_true : (x : Bool) → beq true x ≡ x
        beq_true true = refl
        beq_true false = refl

  -- ---- the last literal
  -- the last literal is of place p, positive or not
  abbrev pub ends_at : ℕ → Bool → Constraint → Bool
  ends_at p x [] = false
  ends_at p x (l ∷ []) = is_at p x l
  ends_at p x (l ∷ m ∷ ms) = ends_at p x (m ∷ ms)

  -- of a constraint in place order that ends so each literal is that one, or of an earlier place
  module _ (p : ℕ) (x : Bool) where
    ends_last : (d : ℕ) (e : Constraint) → ends_at p x e ≡ true → last_place_from D d e ≡ p
    ends_last d [] h = absurd (false≢true h)
    ends_last d (l ∷ []) h = (is_at→ p x l h).0
    ends_last d (l ∷ m ∷ ms) h = ends_last (place D l) (m ∷ ms) h

    ends_each : (d : ℕ) (e : Constraint) → Rising D d e → ends_at p x e ≡ true → (l : Literal) → Mem l e → (is_at p x l ≡ true) ⊎ (place D l < p)
    ends_each d [] up h l m = absurd m
    ends_each d (k ∷ []) up h l (inl q) = inl (ap (is_at p x) q ∙ h)
    ends_each d (k ∷ []) up h l (inr m) = absurd m
    ends_each d (k ∷ j ∷ e) up h l (inl q) = inr (before (ends_each (place D k) (j ∷ e) up.1 h j (inl refl)))
      where
        before : (is_at p x j ≡ true) ⊎ (place D j < p) → place D l < p
        before (inl a) = omega (arith, up.1.0, ap (place D) q, (is_at→ p x j a).0)
        before (inr a) = omega (arith, up.1.0, ap (place D) q, a)
    ends_each d (k ∷ j ∷ e) up h l (inr m) = ends_each (place D k) (j ∷ e) up.1 h l m

    ends_so : (l : Literal) (e : Constraint) → last_place_from D (place D l) e ≡ p → ((m : Literal) → Mem m (l ∷ e) → place D m ≡ p → positive m ≡ x)
        → ends_at p x (l ∷ e) ≡ true
    ends_so l [] h k = →is_at p x l h (k l (inl refl) h)
    ends_so l (m ∷ ms) h k = ends_so m ms h (λ n q. k n (inr q))

  -- ---- clauses that die by the value
  module _ (s : Node) (b : Bool) (r : Clause) (up : Rising D 0 r) where
    abbrev rest : Constraint
    rest = reduce D false r

    not_both : (o : Option Bool) (x : Bool) → equals o (beq false x) ≡ true → equals o (beq true x) ≡ true → ⊥
    not_both none x e h = false≢true e
    not_both (some true) true e h = false≢true e
    not_both (some true) false e h = false≢true h
    not_both (some false) true e h = false≢true h
    not_both (some false) false e h = false≢true e

    one_of : (a x : Bool) → equals (some a) (beq true x) ≡ false → equals (some a) (beq false x) ≡ true
    one_of true true h = absurd (true≢false h)
    one_of true false h = refl
    one_of false true h = refl
    one_of false false h = absurd (true≢false h)

    -- the value that makes a literal false is not its sign
    lost_sign : (x : Bool) → beq b (beq false x) ≡ true → x ≡ not b
    lost_sign true h = ap not (sym (beq→≡ b false h))
    lost_sign false h = ap not (sym (beq→≡ b true h))

    sign_lost : (x : Bool) → x ≡ not b → beq false x ≡ b
    sign_lost x e = ap (beq false) e ∙ back b
      where
        back : (c : Bool) → beq false (not c) ≡ c
        back true = refl
        back false = refl

    -- it ends at the place, its literals all false: the last one is made false, and no literal of the clause was true
    ends→ : ends D (s ▹ b) rest ≡ true → (ends_at (suc (length s)) (not b) rest && not (satisfied D s r)) ≡ true
    ends→ e =
        and_both (ends_at (suc (length s)) (not b) rest) (not (satisfied D s r)) (by rest (λ l m. lost l m) last)
        (ap not (→any_false (has D true s) r (λ l m. none_true l m (dichotomy (has D true s l)) (reduce_rest D false 0 r up l m))))
      where
        last : last_place D rest ≡ suc (length s)
        last =
            eqb_true (last_place D rest) (length (s ▹ b)) (and_left (eqb (last_place D rest) (length (s ▹ b))) (all (has D false (s ▹ b)) rest) e)
            ∙ length-▹ s b

        lost : (l : Literal) → Mem l rest → has D false (s ▹ b) l ≡ true
        lost l m = all→ (has D false (s ▹ b)) rest (and_right (eqb (last_place D rest) (length (s ▹ b))) (all (has D false (s ▹ b)) rest) e) l m

        signed : (l : Literal) → has D false (s ▹ b) l ≡ true → place D l ≡ suc (length s) → positive l ≡ not b
        signed l h q =
            lost_sign (positive l) (sym (ap (λ (p : ℕ). equals (value_at (s ▹ b) p) (beq false (positive l))) q
            ∙ ap (λ (o : Option Bool). equals o (beq false (positive l))) (value_top s b)) ∙ h)

        by : (E : Constraint) → ((l : Literal) → Mem l E → has D false (s ▹ b) l ≡ true) → last_place D E ≡ suc (length s)
            → ends_at (suc (length s)) (not b) E ≡ true
        by [] h q = absurd (omega (arith, q))
        by (l ∷ E) h q = ends_so (suc (length s)) (not b) l E q (λ m n. signed m (h m n))

        none_true : (l : Literal) → Mem l r → (has D true s l ≡ true) ⊎ (has D true s l ≡ false)
            → Mem l rest ⊎ ((dropped false (quantifier_at D (place D l)) ≡ true) × (last_place D rest < place D l)) → has D true s l ≡ false
        none_true l m (inr h) q = h
        none_true l m (inl h) (inl n) = absurd (not_both (value_at (s ▹ b) (place D l)) (positive l) (lost l n) (has_up D true s b l h))
        none_true l m (inl h) (inr w) = absurd (omega (arith, last, w.1, has_le D true s l h))

    →ends : (ends_at (suc (length s)) (not b) rest && not (satisfied D s r)) ≡ true → ends D (s ▹ b) rest ≡ true
    →ends e =
        and_both (eqb (last_place D rest) (length (s ▹ b))) (all (has D false (s ▹ b)) rest)
        (true_eqb (last_place D rest) (length (s ▹ b)) (ends_last (suc (length s)) (not b) 0 rest at ∙ sym (length-▹ s b)))
        (→all (has D false (s ▹ b)) rest (λ l m. lost l m (ends_each (suc (length s)) (not b) 0 rest (reduce_rising D false 0 r up) at l m)))
      where
        at : ends_at (suc (length s)) (not b) rest ≡ true
        at = and_left (ends_at (suc (length s)) (not b) rest) (not (satisfied D s r)) e

        unsatisfied : satisfied D s r ≡ false
        unsatisfied = not_true (satisfied D s r) (and_right (ends_at (suc (length s)) (not b) rest) (not (satisfied D s r)) e)

        falls : (l : Literal) (p : ℕ) → place D l ≡ p → 0 < p → p ≤ length s → has D true s l ≡ false → has D false s l ≡ true
        falls l zero q z h n = absurd (omega (arith, z))
        falls l (suc i) q z h n =
            let v : value_at s (place D l) ≡ some (get_or s i false) = ap (value_at s) q ∙ value_some s i h in
            ap (λ (o : Option Bool). equals o (beq false (positive l))) v
            ∙ one_of (get_or s i false) (positive l) (sym (ap (λ (o : Option Bool). equals o (beq true (positive l))) v) ∙ n)

        lost : (l : Literal) → Mem l rest → (is_at (suc (length s)) (not b) l ≡ true) ⊎ (place D l < suc (length s)) → has D false (s ▹ b) l ≡ true
        lost l m (inl q) = let w = is_at→ (suc (length s)) (not b) l q in has_top D [] false s b l w.0 (sign_lost (positive l) w.1)
        lost l m (inr q) =
            let n = reduce_sub D false r l m in
            has_up D false s b l (falls l (place D l) refl (rising_above D 0 r up l n) (omega (arith, q)) (any_false→ (has D true s) r unsatisfied l n))

    -- of a clause that is not dead one place above
    pub dies_step : dead D s r ≡ false → dead D (s ▹ b) r ≡ (ends_at (suc (length s)) (not b) (reduce D false r) && not (satisfied D s r))
    dies_step alive = dies D r up s b alive ∙ same_bool (ends D (s ▹ b) rest) (ends_at (suc (length s)) (not b) rest && not (satisfied D s r)) ends→ →ends

-- ---- the first clause that dies
module _ (D : Prefix) (R : List Clause) (up : (r : Clause) → Mem r R → Rising D 0 r) (s : Node) (b : Bool) (alive : first_dead D s R ≡ none) where
  -- a clause dies if the value makes its last literal under universal reduction false and it was not satisfied
  pub dead_step : (r : Clause) → Mem r R → dead D (s ▹ b) r ≡ (ends_at D (suc (length s)) (not b) (reduce D false r) && not (satisfied D s r))
  dead_step r m = dies_step D s b r (up r m) (none_dead D s R alive r m)

  -- the first dead clause is the first for which that test passes
  pub first_dead_step : first_dead D (s ▹ b) R ≡ first (λ r. ends_at D (suc (length s)) (not b) (reduce D false r) && not (satisfied D s r)) R
  first_dead_step = first_same (dead D (s ▹ b)) (λ r. ends_at D (suc (length s)) (not b) (reduce D false r) && not (satisfied D s r)) R dead_step
