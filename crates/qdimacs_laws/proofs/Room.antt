-- How long a text of forms is at most that opens a formula: no longer than the text of a book under the same limits can be (`text_room`).
use Prim.Native.Nat.{ℕ, zero, suc, ◌+◌, ◌*◌, ◌≤◌, zero-le}
use native.Mathlib.Nat.{suc-mul, add-mul, mul-add, mul-le-mul_right}
use native.Mathlib.Omega.{arith}
use mathlib.Core.Path.{◌≡◌, refl, ap, subst}
use mathlib.Core.Bool.{Bool, true, false, cond, not, ◌||◌, true≢false, false≢true}
use mathlib.Core.List.{List, [], ◌∷◌, ◌++◌, map}
use mathlib.Core.Option.{Option, none, some}
use borrow.Author.Tests.{eqb-true, ltb-false}
use lib.IntN.{pos}
use lib.ListN.{length, length-append, length-map}
use lib.Dec.{eqb, leb, ltb}
use Rattle.qbf.specs.Formula.{Limits, Quantifier, free, exists, forall, Prefix, Literal, number_of, Formula, any, place_of}
use Rattle.qbf.specs.Calls.{given, literal_fault, rule_fault, clause_of, with_rule, ◌or_else◌}
use Rattle.theory.proofs.Basics.{not_false, or_false_right}
use Rattle.theory.proofs.AcceptedRule.{some_none, given_none}
use Rattle.theory.proofs.WellFormed.{FormulaFacts, numbers_ok, clause_count_lem}
use Rattle.theory.proofs.Widths.{prefix_width}
use Rattle.layout.specs.Forms.{Form, book, block, clause, end, rule_word}
use Rattle.layout.specs.Opening.{rank, allowed, stage_after, variable, declare_fault, with_block, form_fault, line_fault, with_form, refused, opened, refused_or, is_end, empty_formula}
use Rattle.layout.specs.Output.{decimal, last_digits, items_text, literal_text}
use Rattle.layout_laws.proofs.Blocks.{declarable}
use Rattle.layout_laws.proofs.Opened.{allowed_is}
use Rattle.booktext.specs.Texts.{block_word, body_text, line_of, form_text, forms_text, at_end_forms, read_forms}
use Rattle.booktext.specs.Books.{text_room}
use Rattle.booktext_laws.proofs.Lines.{Legible}
use Rattle.booktext_laws.proofs.Texts.{AllLegible}
use Rattle.booktext_laws.proofs.Room.{digits_most, literal_most}

-- ---- items without a fault
module _ (L : Limits) where
  abbrev width : ℕ
  width = length (decimal L.numbers)

  numbers_most : (κ : Quantifier) (D : Prefix) (ns : List ℕ) → declare_fault L κ D ns ≡ none → length (items_text (map pos ns)) ≤ length ns * (1 + width)
  unfolding items_text literal_text
  numbers_most κ D [] e = zero-le
  numbers_most κ D (n ∷ ns) e =
      let d = declarable L κ D n ns e in
      omega (arith, digits_most d.0.high, numbers_most κ (D ++ (variable κ n ∷ [])) ns d.1, length-append (decimal n) (items_text (map pos ns)), suc-mul (length ns) (1 + width))

  literals_most : (D : Prefix) (seen : List ℕ) (ls : List Literal) → literal_fault L D seen ls ≡ none → length (items_text ls) ≤ length ls * (6 + width)
  unfolding items_text
  literals_most D seen [] e = zero-le
  literals_most D seen (l ∷ ls) e =
      omega (arith, literal_most l, digits_most within, literals_most D (number_of l ∷ seen) ls rest, length-append (literal_text l) (items_text ls), suc-mul (length ls) (6 + width))
    where
      later : Option ℕ
      later = literal_fault L D (number_of l ∷ seen) ls

      three : ((eqb (number_of l) 0 || ltb L.numbers (number_of l)) ≡ false) × ((given (eqb (place_of D (number_of l)) 0) 5 or_else given (any (eqb (number_of l)) seen) 6 or_else later) ≡ none)
      three = given_none (eqb (number_of l) 0 || ltb L.numbers (number_of l)) 3 (given (eqb (place_of D (number_of l)) 0) 5 or_else given (any (eqb (number_of l)) seen) 6 or_else later) e

      within : number_of l ≤ L.numbers
      within = ltb-false L.numbers (number_of l) (or_false_right (eqb (number_of l) 0) (ltb L.numbers (number_of l)) three.0)

      rest : later ≡ none
      rest =
          (given_none (any (eqb (number_of l)) seen) 6 later
          (given_none (eqb (place_of D (number_of l)) 0) 5 (given (any (eqb (number_of l)) seen) 6 or_else later) three.1).1
          ).1

-- ---- a line, and what it adds to the formula
-- what a formula's variables and clauses may take
abbrev taken : Limits → Formula → ℕ
taken L b = length b.prefix * (10 + width L) + length b.clauses * (7 + L.literals * (6 + width L))

-- what the lines to come take beside: the book's, the flags' and the end's
abbrev lines : ℕ → ℕ
lines zero = 23
lines (suc zero) = 14
lines (suc (suc n)) = 6

end_last : (stage : ℕ) → 6 ≤ lines stage
end_last zero = omega arith
end_last (suc zero) = omega arith
end_last (suc (suc n)) = omega arith

form_length : (f : Form) → length (form_text f) ≡ 3 + length (body_text f)
unfolding form_text line_of
form_length f = simp length-append (omega arith)

-- a block's line, and one of a clause, each with its keyword's word
block_most : (b : Formula) (κ : Quantifier) (ns : List ℕ) → declare_fault b.limits κ b.prefix ns ≡ none
    → length (form_text (block κ ns)) ≤ 3 + length (block_word κ) + length ns * (1 + width b.limits)
unfolding body_text
block_most b κ ns q = omega (arith, form_length (block κ ns), length-append (block_word κ) (items_text (map pos ns)), numbers_most b.limits κ b.prefix ns q)

block_taken : (b : Formula) (κ : Quantifier) (ns : List ℕ)
    → taken b.limits (with_block κ b ns) ≡ taken b.limits b + length ns * 9 + length ns * (1 + width b.limits)
block_taken b κ ns =
    omega (
      arith,
      ap (λ (k : ℕ). k * (10 + width b.limits)) (length-append b.prefix (map (variable κ) ns)),
      ap (λ (k : ℕ). (length b.prefix + k) * (10 + width b.limits)) (length-map ns (variable κ)),
      add-mul (length b.prefix) (length ns) (10 + width b.limits),
      mul-add (length ns) 9 (1 + width b.limits),
    )

clause_most : (b : Formula) (ls : List Literal) → rule_fault b ls ≡ none → length (form_text (clause ls)) ≤ 7 + b.limits.literals * (6 + width b.limits)
unfolding body_text
clause_most b ls q =
    omega (
      arith,
      form_length (clause ls),
      length-append rule_word (items_text ls),
      literals_most b.limits b.prefix [] ls seven.1,
      mul-le-mul_right (6 + width b.limits) short,
    )
  where
    seven : ((eqb (length ls) 0 || ltb b.limits.literals (length ls)) ≡ false) × (literal_fault b.limits b.prefix [] ls ≡ none)
    seven =
        given_none (eqb (length ls) 0 || ltb b.limits.literals (length ls)) 7 (literal_fault b.limits b.prefix [] ls)
        (given_none (leb b.limits.clauses (length b.clauses)) 20 (given (eqb (length ls) 0 || ltb b.limits.literals (length ls)) 7 or_else literal_fault b.limits b.prefix [] ls) q).1

    short : length ls ≤ b.limits.literals
    short = ltb-false b.limits.literals (length ls) (or_false_right (eqb (length ls) 0) (ltb b.limits.literals (length ls)) seven.0)

clause_taken : (b : Formula) (ls : List Literal)
    → taken b.limits (with_rule none b ls) ≡ taken b.limits b + (7 + b.limits.literals * (6 + width b.limits))
clause_taken b ls =
    let rule = 7 + b.limits.literals * (6 + width b.limits) in
    omega (arith, ap (λ (k : ℕ). k * rule) (length-append b.clauses (clause_of b.prefix ls ∷ [])), add-mul (length b.clauses) 1 rule)

edition : (e : ℕ) → given (not (eqb e 1)) 2 ≡ none → e ≡ 1
edition e q = eqb-true e 1 (by (eqb e 1) q)
  where
    by : (t : Bool) → given (not t) 2 ≡ none → t ≡ true
    by true h = refl
    by false h = absurd (some_none h)

-- a form where it may stand, without a fault: with what the lines behind it take, no more than before
form_most : (stage : ℕ) (b : Formula) (f : Form) → Legible f → allowed stage (rank f) ≡ true → form_fault b f ≡ none → is_end f ≡ false
    → length (form_text f) + lines (stage_after (rank f)) + taken b.limits b ≤ lines stage + taken b.limits (with_form b f)
unfolding body_text items_text literal_text decimal last_digits
form_most stage b (book e) g a q z = omega (arith, form_length (book e), ap (λ (k : ℕ). length (body_text (book k))) (edition e q), ap lines ((allowed_is stage 0 a).1 (omega arith)))
form_most stage b (block free ns) g a q z = omega (arith, block_most b free ns q, block_taken b free ns, ap lines ((allowed_is stage 1 a).1 (omega arith)))
form_most stage b (block exists ns) g a q z = omega (arith, block_most b exists ns q, block_taken b exists ns, end_last stage, g.1)
form_most stage b (block forall ns) g a q z = omega (arith, block_most b forall ns q, block_taken b forall ns, end_last stage, g.1)
form_most stage b (clause ls) g a q z = omega (arith, clause_most b ls q, clause_taken b ls, end_last stage)
form_most stage b end g a q z = absurd (true≢false z)

-- ---- all forms
never_opened : {n k : ℕ} {b : Formula} → refused n k ≡ opened b → ⊥
never_opened e = let z : ◌≡◌ {A = ℕ} 0 1 = cc in omega arith

opened_same : {b c : Formula} → opened b ≡ opened c → b ≡ c
opened_same e = cc

same_limits : (b : Formula) (f : Form) → (with_form b f).limits ≡ b.limits
same_limits b (book e) = refl
same_limits b (block κ ns) = refl
same_limits b (clause ls) = refl
same_limits b end = refl

-- the end's line is the last
end_most : (n stage : ℕ) (b : Formula) (f : Form) (fs : List Form) (c : Formula) → is_end f ≡ true → at_end_forms n (with_form b f) fs ≡ opened c
    → length (forms_text (f ∷ fs)) + taken b.limits b ≤ lines stage + taken b.limits c
unfolding forms_text form_text line_of body_text
end_most n stage b end [] c t e = omega (arith, end_last stage, ap (taken b.limits) (opened_same e))
end_most n stage b end (g ∷ fs) c t e = absurd (never_opened e)
end_most n stage b (book x) fs c t e = absurd (false≢true t)
end_most n stage b (block free ns) fs c t e = absurd (false≢true t)
end_most n stage b (block exists ns) fs c t e = absurd (false≢true t)
end_most n stage b (block forall ns) fs c t e = absurd (false≢true t)
end_most n stage b (clause ls) fs c t e = absurd (false≢true t)

forms_most : (n stage : ℕ) (b : Formula) (fs : List Form) (c : Formula) → AllLegible fs → read_forms n stage b fs ≡ opened c
    → length (forms_text fs) + taken b.limits b ≤ lines stage + taken b.limits c
unfolding read_forms forms_text
forms_most n stage b [] c g e = absurd (never_opened e)
forms_most n stage b (f ∷ fs) c g e = by (line_fault stage b f) refl e (forms_most (suc n) (stage_after (rank f)) (with_form b f) fs c g.1)
  where
    More : Type 0
    More = read_forms (suc n) (stage_after (rank f)) (with_form b f) fs ≡ opened c
        → length (forms_text fs) + taken (with_form b f).limits (with_form b f) ≤ lines (stage_after (rank f)) + taken (with_form b f).limits c

    Within : Type 0
    Within = length (forms_text (f ∷ fs)) + taken b.limits b ≤ lines stage + taken b.limits c

    last : (t : Bool) → is_end f ≡ t → line_fault stage b f ≡ none → cond t (at_end_forms (suc n) (with_form b f) fs) (read_forms (suc n) (stage_after (rank f)) (with_form b f) fs) ≡ opened c → More → Within
    last true i q z ih = end_most (suc n) stage b f fs c i z
    last false i q z ih =
        let p = given_none (not (allowed stage (rank f))) 1 (form_fault b f) q in
        let step = form_most stage b f g.0 (not_false (allowed stage (rank f)) p.0) p.1 i in
        let behind = subst (λ (L : Limits). length (forms_text fs) + taken L (with_form b f) ≤ lines (stage_after (rank f)) + taken L c) (same_limits b f) (ih z) in
        omega (arith, step, behind, length-append (form_text f) (forms_text fs))

    by : (o : Option ℕ) → line_fault stage b f ≡ o → refused_or n o (cond (is_end f) (at_end_forms (suc n) (with_form b f) fs) (read_forms (suc n) (stage_after (rank f)) (with_form b f) fs)) ≡ opened c → More → Within
    by (some k) q z ih = absurd (never_opened z)
    by none q z ih = last (is_end f) refl q z ih

-- What opens a formula from nothing is within the room of its limits.
pub forms_room : (n : ℕ) (L : Limits) (fs : List Form) (c : Formula) → AllLegible fs → read_forms n 0 (empty_formula L) fs ≡ opened c → FormulaFacts c → c.limits ≡ L
    → length (forms_text fs) ≤ text_room L
unfolding text_room
forms_room n L fs c g e facts same =
    omega (
      arith,
      forms_most n 0 (empty_formula L) fs c g e,
      mul-le-mul_right (10 + width L) few,
      mul-le-mul_right (7 + L.literals * (6 + width L)) (subst (λ (M : Limits). length c.clauses ≤ M.clauses) same (clause_count_lem c facts)),
    )
  where
    few : length c.prefix ≤ L.numbers
    few = subst (λ (M : Limits). length c.prefix ≤ M.numbers) same (omega (arith, prefix_width c.limits c.prefix (numbers_ok c facts), length-map c.prefix (λ d. d.quantifier)))
