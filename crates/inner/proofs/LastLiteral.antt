-- A constraint whose literals all have a truth value at an inner node is eligible there exactly where its last code is that of the
-- last place's literal with that truth value.
use Prim.Native.Nat.{ℕ, ◌≤◌}
use native.Mathlib.Omega.{arith}
use mathlib.Core.Path.{◌≡◌, refl, sym, ap, ◌∙◌}
use mathlib.Core.Logic.{◌⊎◌, inl, inr}
use mathlib.Core.Bool.{Bool, true, false, cond, ◌&&◌, beq, true≢false, false≢true}
use mathlib.Core.List.{List, [], ◌∷◌, map}
use mathlib.Core.Option.{Option, none, some}
use borrow.Author.Tests.{eq-eqb, ne_eqb}
use lib.Dec.{eqb}
use lib.ListN.{length, get_elem?}
use Rattle.qbf.specs.Formula.{Prefix, Literal, Node, positive, place, value_at, equals, all, has}
use Rattle.qbf.specs.Learning.{Constraint, last_place_from, last_place, eligible_match}
use Rattle.theory.proofs.Basics.{dichotomy, and_left, and_right, eqb_true, false_eqb}
use Rattle.tables.specs.Codes.{code_at, code_of, codes, last_from, wanted, all_are, Statuses}
use Rattle.tables.specs.Shelves.{ends_in, first_match}
use Rattle.coding.proofs.Given.{all_status}
use Rattle.coding.proofs.Half.{code_place}

-- the codes of a constraint that was found
abbrev pub coded : Prefix → Option Constraint → Option (List ℕ)
coded D none = none
coded D (some e) = some (codes D e)

-- ---- an inner node has a value at its last place
last_element : (b : Bool) (s : Node) → (a : Bool) × (get_elem? (b ∷ s) (length s) ≡ some a)
last_element b [] = (b, refl)
last_element b (c ∷ s) = last_element c s

pub last_value : (s : Node) → 1 ≤ length s → (b : Bool) × (value_at s (length s) ≡ some b)
last_value [] h = absurd (omega arith)
last_value (b ∷ s) h = last_element b s

-- ---- two tests that pass together
same_test : (m n p q : ℕ) → (m ≡ n → p ≡ q) → (p ≡ q → m ≡ n) → eqb m n ≡ eqb p q
same_test m n p q f g = by (dichotomy (eqb m n))
  where
    by : (eqb m n ≡ true) ⊎ (eqb m n ≡ false) → eqb m n ≡ eqb p q
    by (inl e) = e ∙ sym (eq-eqb p q (f (eqb_true m n e)))
    by (inr e) = e ∙ sym (ne_eqb p q (λ h. false_eqb m n e (g h)))

and_same : (x y z : Bool) → (z ≡ true → x ≡ y) → (x && z) ≡ (y && z)
and_same x y true h = rw (h refl)
and_same true true false h = refl
and_same true false false h = refl
and_same false true false h = refl
and_same false false false h = refl

found_same : (D : Prefix) (e : Constraint) (x y : Bool) (o : Option Constraint) → x ≡ y → {r : Option (List ℕ)} → r ≡ coded D o
    → cond x (some (codes D e)) r ≡ coded D (cond y (some e) o)
found_same D e true true o q p = refl
found_same D e true false o q p = absurd (true≢false q)
found_same D e false true o q p = absurd (false≢true q)
found_same D e false false o q p = p

-- ---- codes and places
-- the sign of a literal whose value is b and whose truth value is v
sign_is : (b v x : Bool) → beq b (beq v x) ≡ true → x ≡ beq b v
sign_is true true true e = refl
sign_is true true false e = absurd (false≢true e)
sign_is true false true e = absurd (false≢true e)
sign_is true false false e = refl
sign_is false true true e = absurd (false≢true e)
sign_is false true false e = refl
sign_is false false true e = refl
sign_is false false false e = absurd (false≢true e)

module _ (D : Prefix) (s : Node) (v b : Bool) (last : value_at s (length s) ≡ some b) where
  -- a literal of the last place that has the truth value v
  literal_code : (l : Literal) → has D v s l ≡ true → place D l ≡ length s → code_of D l ≡ code_at (length s) (beq b v)
  literal_code l h e =
      let held : beq b (beq v (positive l)) ≡ true =
      sym (ap (λ (o : Option Bool). equals o (beq v (positive l))) (ap (value_at s) e ∙ last)) ∙ h in
      ap (λ (p : ℕ). code_at p (positive l)) e ∙ ap (code_at (length s)) (sign_is b v (positive l) held)

  same_last : (l : Literal) (ls : List Literal) → all (has D v s) (l ∷ ls) ≡ true
      → eqb (last_from (code_of D l) (codes D ls)) (code_at (length s) (beq b v)) ≡ eqb (last_place_from D (place D l) ls) (length s)
  same_last l [] h =
      same_test (code_of D l) (code_at (length s) (beq b v)) (place D l) (length s)
      (λ e. code_place (place D l) (length s) (positive l) (beq b v) e)
      (λ e. literal_code l (and_left (has D v s l) true h) e)
  same_last l (m ∷ ms) h = same_last m ms (and_right (has D v s l) (all (has D v s) (m ∷ ms)) h)

  module _ (inner : 1 ≤ length s) where
    same_end : (e : Constraint) → all (has D v s) e ≡ true → ends_in (code_at (length s) (beq b v)) (codes D e) ≡ eqb (last_place D e) (length s)
    same_end [] h =
        ne_eqb 0 (code_at (length s) (beq b v)) (λ e. omega (arith, e, inner))
        ∙ sym (ne_eqb 0 (length s) (λ e. omega (arith, e, inner)))
    same_end (l ∷ ls) h = same_last l ls h

    module _ (t : List ℕ) (shown : Statuses s t) where
      same_match : (e : Constraint)
          → (ends_in (code_at (length s) (beq b v)) (codes D e) && all_are t (wanted v) (codes D e))
          ≡ (eqb (last_place D e) (length s) && all (has D v s) e)
      same_match e =
          ap (λ (x : Bool). ends_in (code_at (length s) (beq b v)) (codes D e) && x) (sym (all_status D s t shown v e))
          ∙ and_same (ends_in (code_at (length s) (beq b v)) (codes D e)) (eqb (last_place D e) (length s)) (all (has D v s) e) (same_end e)

      -- The oldest row that ends in the code of the last place's literal with the truth value v, and whose codes all have it,
      -- is the oldest constraint that is eligible and whose literals all have it.
      pub last_literal : (es : List Constraint)
          → first_match (code_at (length s) (beq b v)) t (wanted v) (map (codes D) es) ≡ coded D (eligible_match D eqb v s es)
      last_literal [] = refl
      last_literal (e ∷ es) =
          found_same D e (ends_in (code_at (length s) (beq b v)) (codes D e) && all_are t (wanted v) (codes D e))
          (eqb (last_place D e) (length s) && all (has D v s) e) (eligible_match D eqb v s es) (same_match e) (last_literal es)
