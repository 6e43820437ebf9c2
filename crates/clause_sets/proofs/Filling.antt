-- The sets of clauses filled: an index put into one row is in no other, and a clause's index put into the rows of its literals makes the sets of
-- one clause more.
use Prim.Native.Nat.{ℕ, suc, ◌+◌, ◌*◌, ◌≤◌, ◌<◌}
use native.Mathlib.Nat.{eq-or-lt_of_le, mul-le-mul_right, suc-mul}
use native.Mathlib.Omega.{arith}
use mathlib.Core.Path.{◌≡◌, refl, sym, ap, ◌∙◌}
use mathlib.Core.Logic.{◌⊎◌, inl, inr}
use mathlib.Core.Bool.{Bool, true, false, not, ◌&&◌, ◌||◌}
use mathlib.Core.List.{List, [], ◌∷◌, ◌++◌}
use lib.ListN.{length, get_or, length-append, get_or-append, get_or-eq_default}
use lib.Seq.{get_or_at}
use lib.Dec.{eqb}
use borrow.Author.Tests.{eq-eqb, ne_eqb}
use Rattle.qbf.specs.Formula.{Clause, Prefix}
use Rattle.theory.proofs.Basics.{and_both, and_left, and_right, eqb_true, le_or_lt}
use Rattle.theory.proofs.Stepwise.{or_none, same_bool}
use Rattle.tables.specs.Codes.{code_at}
use Rattle.tables.specs.Sets.{ClauseSets, dying_row, ends_in_code, has_code, satisfying_row}
use Rattle.bitset.specs.Rows.{Inserted, member, width}

-- ---- rows apart
-- two comparisons that pass together
same_test : (m n p q : ℕ) → (m ≡ n → p ≡ q) → (p ≡ q → m ≡ n) → eqb m n ≡ eqb p q
same_test m n p q f g = same_bool (eqb m n) (eqb p q) (λ e. eq-eqb p q (f (eqb_true m n e))) (λ e. eq-eqb m n (g (eqb_true p q e)))

module _ (wc : ℕ) where
  less : (c a i j : ℕ) → j < wc * width → c < a → c * wc * width + j < a * wc * width + i
  less c a i j m h =
      omega (arith, m, mul-le-mul_right width (mul-le-mul_right {m = suc c} {n = a} wc h), ap (λ (x : ℕ). x * width) (suc-mul c wc))

  -- two numbers of two rows stand at one place only if rows and numbers are the same
  row_apart : (c a i j : ℕ) → i < wc * width → j < wc * width → eqb (c * wc * width + j) (a * wc * width + i) ≡ (eqb c a && eqb j i)
  row_apart c a i j m n = same_bool (eqb (c * wc * width + j) (a * wc * width + i)) (eqb c a && eqb j i) there back
    where
      there : eqb (c * wc * width + j) (a * wc * width + i) ≡ true → (eqb c a && eqb j i) ≡ true
      there e = by (le_or_lt c a) (le_or_lt a c)
        where
          same : c * wc * width + j ≡ a * wc * width + i
          same = eqb_true (c * wc * width + j) (a * wc * width + i) e

          by : (c ≤ a) ⊎ (a < c) → (a ≤ c) ⊎ (c < a) → (eqb c a && eqb j i) ≡ true
          by (inr h) q = absurd (omega (arith, same, less a c j i m h))
          by (inl h) (inr q) = absurd (omega (arith, same, less c a i j n q))
          by (inl h) (inl q) =
              let z : c ≡ a = omega arith in
              and_both (eqb c a) (eqb j i) (eq-eqb c a z) (eq-eqb j i (omega (arith, same, ap (λ (x : ℕ). x * wc * width) z)))

      back : (eqb c a && eqb j i) ≡ true → eqb (c * wc * width + j) (a * wc * width + i) ≡ true
      back e =
          let z : c ≡ a = eqb_true c a (and_left (eqb c a) (eqb j i) e) in
          let y : j ≡ i = eqb_true j i (and_right (eqb c a) (eqb j i) e) in
          eq-eqb (c * wc * width + j) (a * wc * width + i) (rw (z, y))

  module _ (i : ℕ) (small : i < wc * width) {t after : List ℕ} where
    inserted_row : (a : ℕ) → Inserted (a * wc) i t after → (c j : ℕ) → j < wc * width
        → member after (c * wc) j ≡ (member t (c * wc) j || (eqb c a && eqb j i))
    inserted_row a put c j m = put.members (c * wc) j ∙ ap (λ (x : Bool). member t (c * wc) j || x) (row_apart c a i j small m)

    -- an index put in where the code d satisfies
    module _ (d : ℕ) (put : Inserted (satisfying_row wc d) i t after) where
      pub inserted_satisfying : (c j : ℕ) → j < wc * width
          → member after (satisfying_row wc c) j ≡ (member t (satisfying_row wc c) j || (eqb c d && eqb j i))
      inserted_satisfying c j m =
          inserted_row (d * 2) put (c * 2) j m
          ∙ ap (λ (x : Bool). member t (satisfying_row wc c) j || (x && eqb j i))
          (same_test (c * 2) (d * 2) c d (λ e. omega (arith, e)) (λ e. omega (arith, e)))

      pub satisfying_apart : (c j : ℕ) → j < wc * width → member after (dying_row wc c) j ≡ member t (dying_row wc c) j
      satisfying_apart c j m =
          ap (λ (x : ℕ). member after x j) (sym (suc-mul (c * 2) wc))
          ∙ inserted_row (d * 2) put (suc (c * 2)) j m
          ∙ or_none (member t (suc (c * 2) * wc) j) (ap (λ (x : Bool). x && eqb j i) (ne_eqb (suc (c * 2)) (d * 2) (λ e. omega (arith, e))))
          ∙ ap (λ (x : ℕ). member t x j) (suc-mul (c * 2) wc)

    -- an index put in where the code d can kill
    module _ (d : ℕ) (put : Inserted (dying_row wc d) i t after) where
      row_of : Inserted (suc (d * 2) * wc) i t after
      row_of = rw suc-mul put

      pub inserted_dying : (c j : ℕ) → j < wc * width → member after (dying_row wc c) j ≡ (member t (dying_row wc c) j || (eqb c d && eqb j i))
      inserted_dying c j m =
          ap (λ (x : ℕ). member after x j) (sym (suc-mul (c * 2) wc))
          ∙ inserted_row (suc (d * 2)) row_of (suc (c * 2)) j m
          ∙ ap (λ (x : ℕ). member t x j || (eqb (suc (c * 2)) (suc (d * 2)) && eqb j i)) (suc-mul (c * 2) wc)
          ∙ ap (λ (x : Bool). member t (dying_row wc c) j || (x && eqb j i))
          (same_test (suc (c * 2)) (suc (d * 2)) c d (λ e. omega (arith, e)) (λ e. omega (arith, e)))

      pub dying_apart : (c j : ℕ) → j < wc * width → member after (satisfying_row wc c) j ≡ member t (satisfying_row wc c) j
      dying_apart c j m =
          inserted_row (suc (d * 2)) row_of (c * 2) j m
          ∙ or_none (member t (satisfying_row wc c) j) (ap (λ (x : Bool). x && eqb j i) (ne_eqb (c * 2) (suc (d * 2)) (λ e. omega (arith, e))))

-- ---- one clause after another
-- no clause yet: empty rows
pub sets_none : {D : Prefix} {wc : ℕ} {sets : List ℕ}
    → ((p : ℕ) (b : Bool) → p ≤ length D → (i : ℕ) → i < wc * width → member sets (satisfying_row wc (code_at p b)) i ≡ false)
    → ((p : ℕ) (b : Bool) → p ≤ length D → (i : ℕ) → i < wc * width → member sets (dying_row wc (code_at p b)) i ≡ false)
    → ClauseSets D [] wc sets
sets_none {D} {wc} {sets} h k = record {
  room = omega arith;
  satisfying = λ p b z l i m. h p b l i m;
  dying = λ p b z l i m. k p b l i m ∙ sym (ne_eqb 0 (code_at p (not b)) (λ e. omega (arith, z, e)));
}

module _ {A : Type 0} (f : List A → Bool) (f_none : f [] ≡ false) (R : List (List A)) (r : List A) where
  -- a test of the clause at an index, with one clause more
  test_more : (i : ℕ) → f (get_or (R ++ (r ∷ [])) i []) ≡ (f (get_or R i []) || (eqb i (length R) && f r))
  test_more i = by (le_or_lt (length R) i)
    where
      beyond : length R ≤ i → f (get_or R i []) ≡ false
      beyond h = ap f (get_or-eq_default R [] h) ∙ f_none

      at : (i ≡ length R) ⊎ (length R < i) → f (get_or (R ++ (r ∷ [])) i []) ≡ (f (get_or R i []) || (eqb i (length R) && f r))
      at (inl e) = ap f (get_or_at R r [] [] i (sym e)) ∙ sym (rw (beyond (omega arith), eq-eqb i (length R) e))
      at (inr h) =
          ap f (get_or-eq_default (R ++ (r ∷ [])) [] (omega (arith, h, length-append R (r ∷ []))))
          ∙ f_none
          ∙ sym (rw (beyond (omega arith), ne_eqb i (length R) (λ e. omega (arith, e, h))))

      by : (length R ≤ i) ⊎ (i < length R) → f (get_or (R ++ (r ∷ [])) i []) ≡ (f (get_or R i []) || (eqb i (length R) && f r))
      by (inl h) = at (split (eq-or-lt_of_le h))
        where
          split : (length R ≡ i) ⊎ (length R < i) → (i ≡ length R) ⊎ (length R < i)
          split (inl e) = inl (sym e)
          split (inr g) = inr g
      by (inr h) =
          ap f (get_or-append R (r ∷ []) [] i h)
          ∙ sym (rw (ne_eqb i (length R) (λ e. omega (arith, e, h))) (or_none (f (get_or R i [])) refl))

-- one clause more: its index is in the rows of its literals, and in that which kills its last literal under universal reduction
pub sets_more : {D : Prefix} {R : List Clause} {wc : ℕ} {sets after : List ℕ} → ClauseSets D R wc sets → length R < wc * width → (r : Clause)
    → ((p : ℕ) (b : Bool) → 1 ≤ p → p ≤ length D → (i : ℕ) → i < wc * width
    → member after (satisfying_row wc (code_at p b)) i ≡ (member sets (satisfying_row wc (code_at p b)) i || (eqb i (length R) && has_code D (code_at p b) r)))
    → ((p : ℕ) (b : Bool) → 1 ≤ p → p ≤ length D → (i : ℕ) → i < wc * width
    → member after (dying_row wc (code_at p b)) i ≡ (member sets (dying_row wc (code_at p b)) i || (eqb i (length R) && ends_in_code D (code_at p (not b)) r)))
    → ClauseSets D (R ++ (r ∷ [])) wc after
sets_more {D} {R} {wc} {sets} {after} g room r sat die = record {
  room = omega (arith, room, length-append R (r ∷ []));
  satisfying = λ p b z l i m.
      sat p b z l i m
      ∙ ap (λ (x : Bool). x || (eqb i (length R) && has_code D (code_at p b) r)) (g.satisfying p b z l i m)
      ∙ sym (test_more (has_code D (code_at p b)) refl R r i);
  dying = λ p b z l i m.
      die p b z l i m
      ∙ ap (λ (x : Bool). x || (eqb i (length R) && ends_in_code D (code_at p (not b)) r)) (g.dying p b z l i m)
      ∙ sym (test_more (ends_in_code D (code_at p (not b))) (ne_eqb 0 (code_at p (not b)) (λ e. omega (arith, z, e))) R r i);
}
