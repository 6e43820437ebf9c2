-- Constraints as sets: putting a literal in, uniting, leaving a place out; the first element that passes a test.
use Prim.Native.Nat.{ℕ, ◌≤◌, ◌<◌}
use native.Mathlib.Omega.{arith}
use mathlib.Core.Path.{◌≡◌, refl, sym, ap, ◌∙◌, subst}
use mathlib.Core.Logic.{◌⊎◌, inl, inr}
use mathlib.Core.Bool.{Bool, true, false, cond, ◌||◌, beq, true≢false, false≢true}
use mathlib.Core.List.{List, [], ◌∷◌}
use mathlib.Core.Option.{Option, none, some}
use lib.Dec.{eqb, ltb}
use borrow.Author.Tests.{ltb-true, ltb-false}
use Rattle.qbf.specs.Formula.{Literal, Node, Prefix, any, equals, has, place, positive, value_at}
use Rattle.qbf.specs.Learning.{Constraint, first, insert, last_place, mentions, union, without}
use Rattle.qbf.specs.Card.{Mem}
use Rattle.theory.proofs.Basics.{dichotomy, any→, →any, eqb_true, true_eqb, false_eqb, beq→≡}
use Rattle.theory.proofs.Game.{Rising}
use Rattle.theory.proofs.Constraints.{last_max, last_mem, rising_from}

module _ (D : Prefix) where
  abbrev pub Covers : Constraint → ℕ → Type 0
  Covers E p = (m : Literal) × Mem m E × (place D m ≡ p)

  pub covers_more : (E F : Constraint) (p : ℕ) → ((x : Literal) → Mem x E → Mem x F) → Covers E p → Covers F p
  covers_more E F p h w = (w.0, h w.0 w.1, w.2)

  -- what `insert D l (k ∷ E)` comes to, by cases
  insert_by : (P : Constraint → Type 0) (l k : Literal) (E : Constraint)
      → (place D l < place D k → P (l ∷ k ∷ E)) → (place D l ≡ place D k → P (k ∷ E)) → (place D k < place D l → P (k ∷ insert D l E))
      → P (insert D l (k ∷ E))
  insert_by P l k E a b c = by (ltb (place D l) (place D k)) refl (eqb (place D l) (place D k)) refl
    where
      by : (x : Bool) → ltb (place D l) (place D k) ≡ x → (y : Bool) → eqb (place D l) (place D k) ≡ y → P (cond x (l ∷ k ∷ E) (cond y (k ∷ E) (k ∷ insert D l E)))
      by true e y f = a (ltb-true (place D l) (place D k) e)
      by false e true f = b (eqb_true (place D l) (place D k) f)
      by false e false f = c (lt (place D l) (place D k) (ltb-false (place D l) (place D k) e) (false_eqb (place D l) (place D k) f))
        where
          lt : (m n : ℕ) → n ≤ m → (m ≡ n → ⊥) → n < m
          lt m n h q = omega (arith, h, q)

  pub insert_rising : (d : ℕ) (l : Literal) (E : Constraint) → d < place D l → Rising D d E → Rising D d (insert D l E)
  insert_rising d l [] h up = (h, tt)
  insert_rising d l (k ∷ E) h up =
      insert_by (Rising D d) l k E (λ a. (h, (a, up.1))) (λ a. up) (λ a. (up.0, insert_rising (place D k) l E a up.1))

  pub insert_sub : (l : Literal) (E : Constraint) (x : Literal) → Mem x (insert D l E) → (x ≡ l) ⊎ Mem x E
  insert_sub l [] x m = m
  insert_sub l (k ∷ E) x n =
      insert_by (λ F. Mem x F → (x ≡ l) ⊎ Mem x (k ∷ E)) l k E (λ a m. m) (λ a m. inr m) (λ a m. by m (insert_sub l E x)) n
    where
      by : Mem x (k ∷ insert D l E) → (Mem x (insert D l E) → (x ≡ l) ⊎ Mem x E) → (x ≡ l) ⊎ Mem x (k ∷ E)
      by (inl p) ih = inr (inl p)
      by (inr m) ih = go (ih m)
        where
          go : (x ≡ l) ⊎ Mem x E → (x ≡ l) ⊎ Mem x (k ∷ E)
          go (inl p) = inl p
          go (inr n) = inr (inr n)

  pub insert_old : (l : Literal) (E : Constraint) (x : Literal) → Mem x E → Mem x (insert D l E)
  insert_old l [] x m = absurd m
  insert_old l (k ∷ E) x m = insert_by (λ F. Mem x F) l k E (λ a. inr m) (λ a. m) (λ a. by m (insert_old l E x))
    where
      by : Mem x (k ∷ E) → (Mem x E → Mem x (insert D l E)) → Mem x (k ∷ insert D l E)
      by (inl p) ih = inl p
      by (inr n) ih = inr (ih n)

  pub insert_new : (l : Literal) (E : Constraint) → Covers (insert D l E) (place D l)
  insert_new l [] = (l, inl refl, refl)
  insert_new l (k ∷ E) =
      insert_by (λ F. Covers F (place D l)) l k E (λ a. (l, inl refl, refl)) (λ a. (k, inl refl, sym a)) (λ a. covers_more (insert D l E) (k ∷ insert D l E) (place D l) (λ x m. inr m) (insert_new l E))

  pub without_sub : (p : ℕ) (E : Constraint) (x : Literal) → Mem x (without D p E) → Mem x E × (place D x ≡ p → ⊥)
  without_sub p [] x m = absurd m
  without_sub p (k ∷ E) x m = by (eqb (place D k) p) refl (without_sub p E x) m
    where
      by : (o : Bool) → eqb (place D k) p ≡ o → (Mem x (without D p E) → Mem x E × (place D x ≡ p → ⊥)) → Mem x (cond o (without D p E) (k ∷ without D p E)) → Mem x (k ∷ E) × (place D x ≡ p → ⊥)
      by true e ih n = (inr (ih n).0, (ih n).1)
      by false e ih (inl q) = (inl q, λ h. false_eqb (place D k) p e (ap (place D) (sym q) ∙ h))
      by false e ih (inr n) = (inr (ih n).0, (ih n).1)

  pub without_old : (p : ℕ) (E : Constraint) (x : Literal) → Mem x E → (place D x ≡ p → ⊥) → Mem x (without D p E)
  without_old p [] x m h = m
  without_old p (k ∷ E) x m h = by (eqb (place D k) p) refl (λ n. without_old p E x n h) m
    where
      by : (o : Bool) → eqb (place D k) p ≡ o → (Mem x E → Mem x (without D p E)) → Mem x (k ∷ E) → Mem x (cond o (without D p E) (k ∷ without D p E))
      by true e ih (inl q) = absurd (h (ap (place D) q ∙ eqb_true (place D k) p e))
      by true e ih (inr n) = ih n
      by false e ih (inl q) = inl q
      by false e ih (inr n) = inr (ih n)

  pub without_rising : (d p : ℕ) (E : Constraint) → Rising D d E → Rising D d (without D p E)
  without_rising d p [] up = tt
  without_rising d p (k ∷ E) up = by (eqb (place D k) p) (without_rising (place D k) p E up.1)
    where
      by : (o : Bool) → Rising D (place D k) (without D p E) → Rising D d (cond o (without D p E) (k ∷ without D p E))
      by true ih = rising_from D d (place D k) (without D p E) (omega (arith, up.0)) ih
      by false ih = (up.0, ih)

  pub union_rising : (d : ℕ) (a b : Constraint) → ((l : Literal) → Mem l a → d < place D l) → Rising D d b → Rising D d (union D a b)
  union_rising d [] b h w = w
  union_rising d (k ∷ a) b h w = union_rising d a (insert D k b) (λ l m. h l (inr m)) (insert_rising d k b (h k (inl refl)) w)

  pub union_sub : (a b : Constraint) (x : Literal) → Mem x (union D a b) → Mem x a ⊎ Mem x b
  union_sub [] b x m = inr m
  union_sub (k ∷ a) b x m = by (union_sub a (insert D k b) x m)
    where
      by : Mem x a ⊎ Mem x (insert D k b) → Mem x (k ∷ a) ⊎ Mem x b
      by (inl n) = inl (inr n)
      by (inr n) = go (insert_sub k b x n)
        where
          go : (x ≡ k) ⊎ Mem x b → Mem x (k ∷ a) ⊎ Mem x b
          go (inl p) = inl (inl p)
          go (inr q) = inr q

  pub union_right : (a b : Constraint) (x : Literal) → Mem x b → Mem x (union D a b)
  union_right [] b x m = m
  union_right (k ∷ a) b x m = union_right a (insert D k b) x (insert_old k b x m)

  pub union_left : (a b : Constraint) (x : Literal) → Mem x a → Covers (union D a b) (place D x)
  union_left [] b x m = absurd m
  union_left (k ∷ a) b x (inl p) =
      subst (λ (y : Literal). Covers (union D (k ∷ a) b) (place D y)) (sym p)
      (covers_more (insert D k b) (union D a (insert D k b)) (place D k) (λ y n. union_right a (insert D k b) y n) (insert_new k b))
  union_left (k ∷ a) b x (inr m) = union_left a (insert D k b) x m

  pub mentions→ : (p : ℕ) (E : Constraint) → mentions D p E ≡ true → Covers E p
  mentions→ p E e = let w = any→ (λ l. eqb (place D l) p) E e in (w.0, w.1, eqb_true (place D w.0) p w.2)

  pub →mentions : (p : ℕ) (E : Constraint) → Covers E p → mentions D p E ≡ true
  →mentions p E w = →any (λ l. eqb (place D l) p) E w.0 w.1 (true_eqb (place D w.0) p w.2)

  -- a place that no literal stands beyond is named exactly if it is the last
  pub mentions_last : (p : ℕ) (E : Constraint) → Rising D 0 E → last_place D E ≤ p → 0 < p → mentions D p E ≡ eqb (last_place D E) p
  mentions_last p E up h z = by (dichotomy (mentions D p E)) (dichotomy (eqb (last_place D E) p))
    where
      ends : (last_place D E ≡ 0) ⊎ Covers E (last_place D E) → last_place D E ≡ p → mentions D p E ≡ true
      ends (inl q) e = absurd (omega (arith, q, e, z))
      ends (inr w) e = →mentions p E (w.0, w.1, w.2 ∙ e)

      by : (mentions D p E ≡ true) ⊎ (mentions D p E ≡ false) → (eqb (last_place D E) p ≡ true) ⊎ (eqb (last_place D E) p ≡ false) → mentions D p E ≡ eqb (last_place D E) p
      by (inl m) q = let w = mentions→ p E m in m ∙ sym (true_eqb (last_place D E) p (omega (arith, h, w.2, last_max D 0 E up w.0 w.1)))
      by (inr m) (inl q) = absurd (true≢false (sym (ends (last_mem D 0 E) (eqb_true (last_place D E) p q)) ∙ m))
      by (inr m) (inr q) = m ∙ sym q

  -- two literals of one place that have one value at s have one value anywhere
  pub twins : (v : Bool) (s u : Node) (l m : Literal) → place D l ≡ place D m → has D v s l ≡ true → has D v s m ≡ true → has D v u m ≡ true → has D v u l ≡ true
  twins v s u l m e a b c = ap (λ (p : ℕ). equals (value_at u p) (beq v (positive l))) e ∙ ap (equals (value_at u (place D m))) signs ∙ c
    where
      one : (o : Option Bool) (x y : Bool) → equals o x ≡ true → equals o y ≡ true → x ≡ y
      one none x y p q = absurd (false≢true p)
      one (some z) x y p q = sym (beq→≡ z x p) ∙ beq→≡ z y q

      signs : beq v (positive l) ≡ beq v (positive m)
      signs = one (value_at s (place D m)) (beq v (positive l)) (beq v (positive m)) (sym (ap (λ (p : ℕ). equals (value_at s p) (beq v (positive l))) e) ∙ a) b

module _ {A : Type 0} (f : A → Bool) where
  abbrev pub Found : List A → Option A → Type 0
  Found xs none = any f xs ≡ false
  Found xs (some x) = Mem x xs × (f x ≡ true)

  pub found : (xs : List A) → Found xs (first f xs)
  found [] = refl
  found (y ∷ ys) = by (f y) refl (first f ys) (found ys)
    where
      by : (b : Bool) → f y ≡ b → (o : Option A) → Found ys o → Found (y ∷ ys) (cond b (some y) o)
      by true e o h = (inl refl, e)
      by false e none h = ap (λ (x : Bool). x || any f ys) e ∙ h
      by false e (some x) h = (inr h.0, h.1)
