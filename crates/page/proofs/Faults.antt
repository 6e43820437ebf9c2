-- Refusal 36, test by test.
use Prim.Native.Nat.{ℕ, zero, suc, ◌+◌, ◌*◌, ◌-◌, ◌/◌, ◌≤◌, ◌<◌}
use native.Mathlib.Omega.{arith}
use mathlib.Core.Path.{◌≡◌, refl, sym, ap, ◌∙◌}
use mathlib.Core.Bool.{Bool, true, false, cond, ◌||◌}
use mathlib.Core.List.{List, [], ◌∷◌}
use lib.ListN.{length, take}
use lib.Dec.{eqb, ltb, eqb-suc-zero}
use borrow.Author.Tests.{eq-eqb, ne_eqb, eqb-false, lt-ltb, le-ltb, ltb-false}
use Rattle.std.specs.List.{list_any}
use Rattle.qbf.specs.Formula.{any}
use Rattle.layout.specs.Words.{Bytes}
use Rattle.layout.specs.Page.{page_lines, most_lines, pages, no_card, no_page}
use Rattle.theory.proofs.Basics.{or_left, or_right, or_false_left, or_false_right}

-- ---- a byte above 2
pub any_listed : (p : ℕ → Bool) (xs : List ℕ) → list_any p xs ≡ any p xs
any_listed p [] = refl
any_listed p (x ∷ xs) = ap (λ (b : Bool). p x || b) (any_listed p xs)

-- ---- the tests one after the other
module _ (table : Bytes) (lines f number : ℕ) where
  pub fault_number : number ≡ 0 → true ≡ no_page table lines f number
  unfolding no_page
  fault_number e = sym (or_left (eqb number 0) (ltb (pages lines) number || no_card table lines f) (eq-eqb number 0 e))

  pub fault_pages : (n : ℕ) → n ≡ pages lines → n < number → true ≡ no_page table lines f number
  unfolding no_page
  fault_pages n e h =
      sym (or_right (eqb number 0) (ltb (pages lines) number || no_card table lines f) (or_left (ltb (pages lines) number) (no_card table lines f) (lt-ltb (pages lines) number (omega arith))))

  -- a table that shows no card
  fault_card : no_card table lines f ≡ true → true ≡ no_page table lines f number
  unfolding no_page
  fault_card h = sym (or_right (eqb number 0) (ltb (pages lines) number || no_card table lines f) (or_right (ltb (pages lines) number) (no_card table lines f) h))

  pub fault_lines : most_lines < lines → true ≡ no_page table lines f number
  fault_lines h = fault_card (or_left (ltb most_lines lines) (ltb (length table) (lines * f) || any (ltb 2) (take (lines * f) table)) (lt-ltb most_lines lines h))

  pub fault_size : length table < lines * f → true ≡ no_page table lines f number
  fault_size h =
      fault_card
      (or_right (ltb most_lines lines) (ltb (length table) (lines * f) || any (ltb 2) (take (lines * f) table))
      (or_left (ltb (length table) (lines * f)) (any (ltb 2) (take (lines * f) table)) (lt-ltb (length table) (lines * f) h)))

  -- where no other test fails the bytes decide
  pub fault_bytes : (number ≡ 0 → ⊥) → number ≤ pages lines → lines ≤ most_lines → lines * f ≤ length table → (b : Bool) → b ≡ any (ltb 2) (take (lines * f) table)
      → b ≡ no_page table lines f number
  unfolding no_page
  fault_bytes z p l s b e = e ∙ sym (cc (ne_eqb number 0 z, le-ltb (pages lines) number p, le-ltb most_lines lines l, le-ltb (length table) (lines * f) s))

  -- ---- what it says of a page that it is not refused
  pub record Has : Type 0 where
    pub from : number ≡ 0 → ⊥
    pub upto : number ≤ pages lines
    pub card : no_card table lines f ≡ false

  pub has : no_page table lines f number ≡ false → Has
  unfolding no_page
  has e =
      let a = or_false_right (eqb number 0) (ltb (pages lines) number || no_card table lines f) e in
      record {
        from = eqb-false number 0 (or_false_left (eqb number 0) (ltb (pages lines) number || no_card table lines f) e);
        upto = ltb-false (pages lines) number (or_false_left (ltb (pages lines) number) (no_card table lines f) a);
        card = or_false_right (ltb (pages lines) number) (no_card table lines f) a;
      }

-- .. and of a card that its table shows it
pub record Card (table : Bytes) (lines f : ℕ) : Type 0 where
  pub few : lines ≤ most_lines
  pub held : lines * f ≤ length table
  pub small : any (ltb 2) (take (lines * f) table) ≡ false

pub card_of_lem : (table : Bytes) (lines f : ℕ) → no_card table lines f ≡ false → Card table lines f
card_of_lem table lines f e =
    let b = or_false_right (ltb most_lines lines) (ltb (length table) (lines * f) || any (ltb 2) (take (lines * f) table)) e in
    record {
      few = ltb-false most_lines lines (or_false_left (ltb most_lines lines) (ltb (length table) (lines * f) || any (ltb 2) (take (lines * f) table)) e);
      held = ltb-false (length table) (lines * f) (or_false_left (ltb (length table) (lines * f)) (any (ltb 2) (take (lines * f) table)) b);
      small = or_false_right (ltb (length table) (lines * f)) (any (ltb 2) (take (lines * f) table)) b;
    }

-- a card has no more pages than lines, but one
pub pages_few : (lines : ℕ) → lines ≤ most_lines → (1 ≤ pages lines) × (pages lines ≤ most_lines)
pages_few zero h = (omega arith, omega arith)
pages_few (suc n) h =
    let e : pages (suc n) ≡ (suc n + (page_lines - 1)) / page_lines = ap (λ (b : Bool). cond b 1 ((suc n + (page_lines - 1)) / page_lines)) (eqb-suc-zero n) in
    (omega arith, omega arith)
