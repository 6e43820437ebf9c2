-- Literals by their codes: a code tells place and sign, the last code the last literal, and marks by place the literals of a cube.
use Prim.Native.Nat.{ℕ, suc, ◌+◌, ◌≤◌, ◌<◌}
use native.Mathlib.Omega.{arith}
use mathlib.Core.Path.{◌≡◌, refl, sym, ap, ◌∙◌, subst}
use mathlib.Core.Logic.{inl, inr}
use mathlib.Core.Bool.{Bool, true, false, ◌||◌, beq, false≢true}
use mathlib.Core.List.{List, [], ◌∷◌}
use mathlib.Core.Option.{Option, none, some}
use lib.ListN.{length, get_or, get_elem?}
use lib.Dec.{eqb}
use borrow.Author.Tests.{eq-eqb, ne_eqb}
use Rattle.qbf.specs.Formula.{Clause, Literal, Node, Prefix, any, equals, place, positive, value_at}
use Rattle.qbf.specs.Learning.{Constraint, mentions}
use Rattle.qbf.specs.Card.{Mem}
use Rattle.theory.proofs.Basics.{and_both, and_left, and_right, beq_refl, beq→≡, eqb_true, false_eqb, has_le, →any_false}
use Rattle.theory.proofs.Constraints.{rising_from}
use Rattle.theory.proofs.Game.{Rising, rising_above}
use Rattle.theory.proofs.Shape.{Holds}
use Rattle.theory.proofs.Stepwise.{ends_at, is_at, same_bool}
use Rattle.tables.specs.Codes.{code_at, code_of, codes, last_from}
use Rattle.tables.specs.Sets.{has_code, marked_from}
use Rattle.tables.specs.Shelves.{ends_in}

-- ---- a code tells place and sign
code_same : (q p : ℕ) (a b : Bool) → code_at q a ≡ code_at p b → (q ≡ p) × (b ≡ a)
code_same q p true true e = (omega arith, refl)
code_same q p true false e = absurd (omega arith)
code_same q p false true e = absurd (omega arith)
code_same q p false false e = (omega arith, refl)

module _ (D : Prefix) (p : ℕ) (b : Bool) where
  pub code_at_lem : (l : Literal) → eqb (code_of D l) (code_at p b) ≡ is_at D p b l
  code_at_lem l = same_bool (eqb (code_of D l) (code_at p b)) (is_at D p b l) there back
    where
      there : eqb (code_of D l) (code_at p b) ≡ true → is_at D p b l ≡ true
      there e =
          let w = code_same (place D l) p (positive l) b (eqb_true (code_of D l) (code_at p b) e) in
          and_both (eqb (place D l) p) (beq b (positive l)) (eq-eqb (place D l) p w.0) (ap (beq b) (sym w.1) ∙ beq_refl b)

      back : is_at D p b l ≡ true → eqb (code_of D l) (code_at p b) ≡ true
      back e =
          let q : place D l ≡ p = eqb_true (place D l) p (and_left (eqb (place D l) p) (beq b (positive l)) e) in
          let z : positive l ≡ b = sym (beq→≡ b (positive l) (and_right (eqb (place D l) p) (beq b (positive l)) e)) in
          eq-eqb (code_of D l) (code_at p b) (rw (q, z))

  -- the clause has the literal
  pub has_code_lem : (r : Clause) → has_code D (code_at p b) r ≡ any (is_at D p b) r
  has_code_lem [] = refl
  has_code_lem (l ∷ r) = rw (code_at_lem l, has_code_lem r)

  -- it is the last one
  last_code_lem : (l : Literal) (e : Constraint) → eqb (last_from (code_of D l) (codes D e)) (code_at p b) ≡ ends_at D p b (l ∷ e)
  last_code_lem l [] = code_at_lem l
  last_code_lem l (m ∷ e) = last_code_lem m e

  pub ends_code : 1 ≤ p → (e : Constraint) → ends_in (code_at p b) (codes D e) ≡ ends_at D p b e
  ends_code h [] = ne_eqb 0 (code_at p b) (λ e. omega (arith, h, e))
  ends_code h (l ∷ e) = last_code_lem l e

-- ---- the true literals of the marked places
module _ (D : Prefix) (marks : List ℕ) where
  -- the places after d of a node, with their values: E has literals of those places, true there, in place order; it names those that are marked
  pub record Chosen (d : ℕ) (vs : List Bool) (E : Constraint) : Type 0 where
    pub rising : Rising D d E
    pub within : (l : Literal) → Mem l E → place D l ≤ d + length vs
    pub value : (l : Literal) → Mem l E → (i : ℕ) → place D l ≡ suc (d + i) → get_elem? vs i ≡ some (positive l)
    pub marked : (i : ℕ) → i < length vs → eqb (get_or marks (suc (d + i)) 0) 1 ≡ mentions D (suc (d + i)) E

  -- no literal of a place up to d
  none_low : (d p : ℕ) (E : Constraint) → Rising D d E → p ≤ d → mentions D p E ≡ false
  none_low d p E up h = →any_false (λ l. eqb (place D l) p) E (λ l m. ne_eqb (place D l) p (λ e. omega (arith, h, e, rising_above D d E up l m)))

  module _ (d : ℕ) (b : Bool) (vs : List Bool) where
    -- the place d + 1 is not named
    chosen_later : (E : Constraint) → Chosen d (b ∷ vs) E → Rising D (suc d) E → Chosen (suc d) vs E
    chosen_later E c up = record {
      rising = up;
      within = λ l m. omega (arith, c.within l m);
      value = λ l m i e. c.value l m (suc i) (omega (arith, e));
      marked = λ i h.
          let z : suc (d + suc i) ≡ suc (suc d + i) = omega arith in
          rw z at (c.marked (suc i) (omega arith));
    }

    -- it is, by the first literal
    chosen_rest : (l : Literal) (E : Constraint) → Chosen d (b ∷ vs) (l ∷ E) → place D l ≡ suc d → Chosen (suc d) vs E
    chosen_rest l E c here = record {
      rising = rising_from D (suc d) (place D l) E (omega arith) c.rising.1;
      within = λ k m. omega (arith, c.within k (inr m));
      value = λ k m i e. c.value k (inr m) (suc i) (omega (arith, e));
      marked = λ i h.
          let z : suc (d + suc i) ≡ suc (suc d + i) = omega arith in
          let far : eqb (place D l) (suc (suc d + i)) ≡ false = ne_eqb (place D l) (suc (suc d + i)) (λ e. omega (arith, here, e)) in
          subst (λ (p : ℕ). eqb (get_or marks p 0) 1 ≡ mentions D p (l ∷ E)) z (c.marked (suc i) (omega arith)) ∙ ap (λ (x : Bool). x || mentions D (suc (suc d + i)) E) far;
    }

    -- whether the place is marked
    mark_here : (E : Constraint) → Chosen d (b ∷ vs) E → eqb (get_or marks (suc d) 0) 1 ≡ mentions D (suc d) E
    mark_here E c = let z : suc (d + 0) ≡ suc d = omega arith in rw z at (c.marked 0 (omega arith))

  chosen_codes : (vs : List Bool) (d : ℕ) (E : Constraint) → Chosen d vs E → codes D E ≡ marked_from (suc d) vs marks
  chosen_codes [] d [] c = refl
  chosen_codes [] d (l ∷ E) c = absurd (omega (arith, c.rising.0, c.within l (inl refl)))
  chosen_codes (b ∷ vs) d [] c = rw (mark_here d b vs [] c) (chosen_codes vs (suc d) [] (chosen_later d b vs [] c tt))
  chosen_codes (b ∷ vs) d (l ∷ E) c = by (eqb (place D l) (suc d)) refl (chosen_codes vs (suc d))
    where
      by : (x : Bool) → eqb (place D l) (suc d) ≡ x → ((F : Constraint) → Chosen (suc d) vs F → codes D F ≡ marked_from (suc (suc d)) vs marks)
          → codes D (l ∷ E) ≡ marked_from (suc d) (b ∷ vs) marks
      by true e ih =
          let here : place D l ≡ suc d = eqb_true (place D l) (suc d) e in
          let first : get_elem? (b ∷ vs) 0 ≡ some (positive l) = c.value l (inl refl) 0 (omega (arith, here)) in
          let same : positive l ≡ b = cc in
          let mark : eqb (get_or marks (suc d) 0) 1 ≡ true = mark_here d b vs (l ∷ E) c ∙ ap (λ (x : Bool). x || mentions D (suc d) E) e in
          let code : code_of D l ≡ code_at (suc d) b = rw (here, same) in
          rw (mark, code) (ap (λ (cs : List ℕ). code_at (suc d) b ∷ cs) (ih E (chosen_rest d b vs l E c here)))
      by false e ih =
          let up : Rising D (suc d) (l ∷ E) = (above (place D l) c.rising.0 (false_eqb (place D l) (suc d) e), c.rising.1) in
          rw (mark_here d b vs (l ∷ E) c ∙ none_low (suc d) (suc d) (l ∷ E) up (omega arith)) (ih (l ∷ E) (chosen_later d b vs (l ∷ E) c up))
        where
          above : (p : ℕ) → d < p → (p ≡ suc d → ⊥) → suc d < p
          above p h k = omega (arith, h, k)

  -- a cube whose literals are true at the node and in place order, and that names the places which are marked
  pub marked_codes : (s : Node) (E : Constraint) → Rising D 0 E → Holds D true E s
      → ((i : ℕ) → i < length s → eqb (get_or marks (suc i) 0) 1 ≡ mentions D (suc i) E) → codes D E ≡ marked_from 1 s marks
  marked_codes s E up holds named = chosen_codes s 0 E (record {
    rising = up;
    within = λ l m. omega (arith, has_le D true s l (holds l m));
    value = λ l m i e.
        let z : place D l ≡ suc i = omega (arith, e) in
        sure (get_elem? s i) (positive l) (sym (ap (λ (p : ℕ). equals (value_at s p) (beq true (positive l))) z) ∙ holds l m);
    marked = λ i h. let z : suc i ≡ suc (0 + i) = omega arith in rw z at (named i h);
  })
    where
      sure : (o : Option Bool) (b : Bool) → equals o (beq true b) ≡ true → o ≡ some b
      sure none b h = absurd (false≢true h)
      sure (some true) true h = refl
      sure (some true) false h = absurd (false≢true h)
      sure (some false) true h = absurd (false≢true h)
      sure (some false) false h = refl
