-- How many digits a number has, and how long the parts of a text are.
use Prim.Native.Nat.{ℕ, zero, suc, ◌+◌, ◌/◌, ◌^◌, ◌<◌, ◌≤◌}
use mathlib.Core.Path.{◌≡◌, sym, ap, subst, ◌∙◌}
use mathlib.Core.Bool.{true, false}
use mathlib.Core.List.{◌∷◌, ◌++◌}
use native.Mathlib.Omega.{arith}
use native.Mathlib.Nat.{not-suc-le-zero}
use borrow.Author.Tests.{ltb-true}
use lib.Dec.{T}
use lib.IntN.{pos, negsuc}
use lib.ListN.{length, length-append}
use lib.Signed.{lt_z}
use mir.Syntax.{w16}
use mir.Val.{SFits, to_z, of_z}
use Rattle.qbf.specs.Formula.{Quantifier, same_quantifier, Literal, Clause, number_of}
use Rattle.literal.proofs.Signed.{back, tested}
use Rattle.state.specs.Reading.{quantifier_of}
use Rattle.layout.specs.Words.{ascii, space}
use Rattle.layout.specs.Opening.{variable}
use Rattle.layout.specs.Output.{decimal, literal_text, items_text}
use Rattle.layout_laws.proofs.Decimal.{length_one, length_more}
use Rattle.booktext.specs.Books.{variable_text, rule_text}
use Rattle.book_writer.specs.Tables.{head_text, Counted, most_digits, most_heading, most_variable, most_literal, most_literals, most_rule}
use Rattle.book_writer.proofs.Places.{heading_flags, heading_group, head_none, head_new, variable_length}
use Rattle.book_writer.proofs.Rows.{number_back, rule_length}

-- a number between two powers of ten
exact : (k n : ℕ) → 10 ^ suc k ≤ n → n < 10 ^ suc (suc k) → length (decimal n) ≡ suc (suc k)
exact zero n low high = length_more n (omega arith) ∙ ap (λ (m : ℕ). m + 1) (length_one (n / 10) (omega arith))
exact (suc k) n low high = omega (arith, length_more n (omega arith), exact k (n / 10) (omega arith) (omega arith))

pub digits_one : {n : ℕ} → n < 10 → Counted (decimal n) most_digits 1
digits_one {n} h = record { is = sym (length_one n h); few = omega arith }

pub digits_more : (k : ℕ) {n : ℕ} → 10 ^ suc k ≤ n → n < 10 ^ suc (suc k) → k ≤ 3 → Counted (decimal n) most_digits (suc (suc k))
digits_more k {n} low high few = record { is = sym (exact k n low high); few = omega arith }

-- ---- variables
module _ (l k : ℕ) where
  pub counted_none : same_quantifier (quantifier_of l) (quantifier_of k) ≡ true → Counted (head_text (quantifier_of l) (quantifier_of k)) most_heading 0
  counted_none e = record { is = sym (ap length (head_none (quantifier_of l) (quantifier_of k) e)); few = omega arith }

  module _ (e : same_quantifier (quantifier_of l) (quantifier_of k) ≡ false) where
    pub counted_flags : k ≡ 0 → Counted (head_text (quantifier_of l) (quantifier_of k)) most_heading 8
    counted_flags f = record { is = sym (ap length (head_new (quantifier_of l) (quantifier_of k) e ∙ heading_flags k f)); few = omega arith }

    pub counted_group : (k ≡ 0 → ⊥) → Counted (head_text (quantifier_of l) (quantifier_of k)) most_heading most_heading
    counted_group f = record { is = sym (ap length (head_new (quantifier_of l) (quantifier_of k) e) ∙ heading_group k f); few = omega arith }

pub counted_variable : (κ μ : Quantifier) (n : ℕ) {h r : ℕ} → Counted (head_text κ μ) most_heading h → Counted (decimal n) most_digits r
    → Counted (variable_text κ (variable μ n)) most_variable (h + 1 + r)
counted_variable κ μ n f number = record { is = omega (arith, f.is, number.is, variable_length κ μ n); few = omega (arith, f.few, number.few) }

-- ---- literals
module _ {l : Literal} (f : SFits w16 l) {m r : ℕ} (is : m ≡ number_of (to_z w16 (of_z w16 l))) (number : Counted (decimal m) most_digits r) where
  pub counted_off : lt_z (to_z w16 (of_z w16 l)) (to_z w16 0) ≡ true → Counted (space ∷ literal_text l) most_literal (6 + r)
  unfolding literal_text
  counted_off e = record { is = omega (arith, by l (number_back f is) (tested f e)); few = omega (arith, number.few) }
    where
      by : (l : Literal) → m ≡ number_of l → lt_z l (pos 0) ≡ true → 6 + r ≡ length (space ∷ literal_text l)
      by (pos n) is e = absurd (not-suc-le-zero (ltb-true n 0 e))
      by (negsuc n) is e = omega (arith, number.is, ap (λ (k : ℕ). length (decimal k)) is, length-append (ascii "(no " ++ decimal (suc n)) (ascii ")"))

  pub counted_on : lt_z (to_z w16 (of_z w16 l)) (to_z w16 0) ≡ false → Counted (space ∷ literal_text l) most_literal (1 + r)
  unfolding literal_text
  counted_on e = record { is = omega (arith, by l (number_back f is) (tested f e)); few = omega (arith, number.few) }
    where
      by : (l : Literal) → m ≡ number_of l → lt_z l (pos 0) ≡ false → 1 + r ≡ length (space ∷ literal_text l)
      by (pos n) is e = omega (arith, number.is, ap (λ (k : ℕ). length (decimal k)) is)
      by (negsuc n) is e = absurd (subst T e tt)

-- a literal that is read from a table and handed on as bits
pub counted_back : {l : Literal} {m r : ℕ} → SFits w16 l → Counted (space ∷ literal_text (to_z w16 (of_z w16 l))) m r → Counted (space ∷ literal_text l) m r
counted_back {l} {m} {r} f c = subst (λ (k : Literal). Counted (space ∷ literal_text k) m r) (back f) c

-- ---- rules
pub counted_rule : (ls : Clause) {r : ℕ} → Counted (items_text ls) most_literals r → Counted (rule_text ls) most_rule (7 + r)
counted_rule ls c = record { is = omega (arith, c.is, rule_length ls); few = omega (arith, c.few) }
