-- Literals and rules by their tables, one after the other.
use Prim.Native.Nat.{ℕ, suc, ◌+◌, ◌*◌, ◌-◌, ◌<◌, ◌≤◌}
use mathlib.Core.Path.{◌≡◌, refl, ap, subst, ◌∙◌}
use mathlib.Core.Bool.{true, false}
use mathlib.Core.List.{List, [], ◌∷◌, ◌++◌}
use native.Mathlib.Omega.{arith}
use native.Mathlib.Numerals.{add-one}
use native.Mathlib.Nat.{not-suc-le-zero}
use borrow.Author.Tests.{ltb-true}
use lib.Dec.{T}
use lib.IntN.{ℤ, pos, negsuc}
use lib.ListN.{length, get_or, take, drop, length-append, length-take, length-drop, drop_of_length-le}
use lib.Seq.{drop-cons}
use lib.Signed.{lt_z}
use mir.Syntax.{w16}
use mir.Val.{SFits, to_z, of_z}
use Rattle.qbf.specs.Formula.{paper, Literal, Clause, number_of, positive}
use Rattle.qbf.specs.Card.{byte_of}
use Rattle.tables.specs.Views.{row, rows_of, Table}
use Rattle.tables.proofs.Laws.{rows_length}
use Rattle.tables.proofs.Listed.{listed_drop, rows_listed}
use Rattle.literal.proofs.Signed.{back, tested}
use Rattle.layout.specs.Words.{Bytes, space}
use Rattle.layout.specs.Output.{literal_text, items_text}
use Rattle.booktext.specs.Books.{rule_text, rules_text}
use Rattle.writer.specs.Rows.{item_text}
use Rattle.writer.specs.declared.Output.{Output}
use Rattle.writer.specs.Appended.{Appended}
use Rattle.book_writer.specs.Tables.{Standing}

-- ---- a literal
pub value_off : {l : Literal} → SFits w16 l → lt_z (to_z w16 (of_z w16 l)) (to_z w16 0) ≡ true → 1 ≡ byte_of (positive l)
value_off {l} f e = by l (tested f e)
  where
    by : (l : Literal) → lt_z l (pos 0) ≡ true → 1 ≡ byte_of (positive l)
    by (pos n) e = absurd (not-suc-le-zero (ltb-true n 0 e))
    by (negsuc n) e = refl

pub value_on : {l : Literal} → SFits w16 l → lt_z (to_z w16 (of_z w16 l)) (to_z w16 0) ≡ false → 2 ≡ byte_of (positive l)
value_on {l} f e = by l (tested f e)
  where
    by : (l : Literal) → lt_z l (pos 0) ≡ false → 2 ≡ byte_of (positive l)
    by (pos n) e = refl
    by (negsuc n) e = absurd (subst T e tt)

-- the number of a literal that is handed on as bits
pub number_back : {l : Literal} {m : ℕ} → SFits w16 l → m ≡ number_of (to_z w16 (of_z w16 l)) → m ≡ number_of l
number_back f e = e ∙ ap number_of (back f)

-- a signed 16-bit number without its sign fits 16 bits
pub number_short : {l : Literal} {m : ℕ} → SFits w16 l → m ≡ number_of (to_z w16 (of_z w16 l)) → m ≤ 32768
number_short {l} f e = omega (arith, number_back f e, by l f)
  where
    by : (l : Literal) → SFits w16 l → number_of l ≤ 32768
    by (pos n) f = omega (arith, f.sfits)
    by (negsuc n) f = omega (arith, f.sfits)

-- an item of a card's line is written as a literal is
pub item_literal : (l : Literal) → item_text (number_of l) (byte_of (positive l)) ≡ space ∷ literal_text l
unfolding item_text literal_text
item_literal (pos n) = refl
item_literal (negsuc n) = refl

module _ {l : Literal} (f : SFits w16 l) {n v : ℕ} (number : n ≡ number_of (to_z w16 (of_z w16 l))) (value : v ≡ byte_of (positive (to_z w16 (of_z w16 l)))) where
  item_is : item_text n v ≡ space ∷ literal_text l
  item_is = ap (λ (m : ℕ). item_text m v) number ∙ ap (item_text (number_of (to_z w16 (of_z w16 l)))) value ∙ item_literal (to_z w16 (of_z w16 l)) ∙ ap (λ (k : Literal). space ∷ literal_text k) (back f)

  pub literal_length : length (item_text n v) ≡ length (space ∷ literal_text l)
  literal_length = ap length item_is

  pub literal_wrote : {o p : Output} → Appended o (item_text n v) p → Appended o (space ∷ literal_text l) p
  literal_wrote {o} {p} w = subst (λ (t : Bytes). Appended o t p) item_is w

-- a literal that is read from a table and handed on as bits
pub length_back : {l : Literal} → SFits w16 l → length (space ∷ literal_text (to_z w16 (of_z w16 l))) ≡ length (space ∷ literal_text l)
length_back f = ap (λ (k : Literal). length (space ∷ literal_text k)) (back f)

pub wrote_back : {l : Literal} → SFits w16 l → {o p : Output} → Appended o (space ∷ literal_text (to_z w16 (of_z w16 l))) p → Appended o (space ∷ literal_text l) p
wrote_back f {o} {p} w = subst (λ (k : Literal). Appended o (space ∷ literal_text k) p) (back f) w

-- ---- literals
pub literals_next : (ls : List Literal) {i : ℕ} → i < length ls → items_text (drop i ls) ≡ (space ∷ literal_text (get_or ls i (pos 0))) ++ items_text (drop (i + 1) ls)
unfolding items_text
literals_next ls {i} h = rw (add-one i, drop-cons ls i (pos 0) h)

pub literals_end : (ls : List Literal) {i : ℕ} → length ls ≤ i → items_text (drop i ls) ≡ []
unfolding items_text
literals_end ls {i} h = rw (drop_of_length-le ls h)

pub rule_length : (r : Clause) → length (rule_text r) ≡ 7 + length (items_text r)
unfolding rule_text
rule_length r = simp length-append (omega arith)

-- ---- rules
module _ (cells : List ℤ) (sizes : List ℕ) where
  abbrev pub all_rules : List Clause
  all_rules = rows_of paper.literals cells sizes

  rules_step : {k : ℕ} → k < get_or sizes 0 0 → drop k all_rules ≡ row paper.literals cells sizes k ∷ drop (suc k) all_rules
  rules_step {k} h = rw (rows_listed paper.literals cells sizes (get_or sizes 0 0)) (listed_drop (row paper.literals cells sizes) (get_or sizes 0 0) k h)

  pub rules_next : {k : ℕ} {r : Clause} → k < get_or sizes 0 0 → r ≡ row paper.literals cells sizes k
      → rules_text (drop k all_rules) ≡ rule_text r ++ rules_text (drop (k + 1) all_rules)
  unfolding rules_text
  rules_next {k} h e = rw (add-one k, rules_step h, e)

  pub rules_end : (k : ℕ) → get_or sizes 0 0 ≤ k → rules_text (drop k all_rules) ≡ []
  unfolding rules_text
  rules_end k h = rw (drop_of_length-le all_rules {i = k} (omega (arith, h, rows_length paper.literals cells sizes (get_or sizes 0 0))))

  -- ---- clause k, as a part of the table
  module _ (s : Standing cells sizes) {k len : ℕ} (h : k < get_or sizes 0 0) (e : len ≡ get_or sizes (k + 1) 0) where
    row_short : len ≤ paper.literals
    row_short = omega (arith, s.short k h, e, ap (λ (j : ℕ). get_or sizes j 0) (add-one k))

    abbrev part : Clause
    part = take (k * paper.literals + len - k * paper.literals) (drop (k * paper.literals) cells)

    pub part_is : part ≡ row paper.literals cells sizes k
    part_is = ap (λ (n : ℕ). take n (drop (k * paper.literals) cells)) (only_length ∙ e ∙ ap (λ (j : ℕ). get_or sizes j 0) (add-one k))
      where
        only_length : k * paper.literals + len - k * paper.literals ≡ len
        only_length = omega arith

    pub row_within : k * paper.literals + len ≤ length cells
    row_within = omega (arith, s.room, row_short, h)

    pub part_short : length part ≤ paper.literals
    part_short = simp (length-take, length-drop) (omega (arith, row_short))

-- the rows of a table of any capacity
pub table_standing : {capacity : ℕ} {cells : List ℤ} {sizes : List ℕ} → Table paper.literals capacity cells sizes → Standing cells sizes
table_standing t = record { room = omega (arith, t.room, t.few); short = t.short }
