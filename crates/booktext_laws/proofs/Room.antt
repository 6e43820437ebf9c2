-- How long the text of a book is at most, by its limits.
use Prim.Native.Nat.{ℕ, zero, suc, ◌+◌, ◌*◌, ◌/◌, ◌≤◌, ◌<◌, zero-le}
use mathlib.Core.Path.{◌≡◌, refl, ap}
use mathlib.Core.Logic.{inl, inr}
use mathlib.Core.Bool.{Bool, true, false, cond, ◌&&◌}
use mathlib.Core.List.{List, [], ◌∷◌, ◌++◌}
use native.Mathlib.Omega.{arith}
use native.Mathlib.Nat.{not-suc-le-zero, suc-mul}
use native.Mathlib.Decide.{dec_lt}
use borrow.Author.Tests.{leb-true}
use lib.IntN.{pos, negsuc}
use lib.ListN.{length, length-append, length-map}
use lib.Dec.{leb}
use Rattle.qbf.specs.Formula.{Limits, paper, Quantifier, free, exists, forall, same_quantifier, Variable, Prefix, Literal, number_of, Clause, Formula, place}
use Rattle.qbf.specs.Card.{Mem}
use Rattle.qbf.specs.Calls.{numbers_are_ok, clause_ok, in_order, formula_is_ok}
use Rattle.theory.proofs.Basics.{and_left, and_right, all→}
use Rattle.theory.proofs.Game.{Rising}
use Rattle.theory.proofs.Widths.{prefix_width}
use Rattle.theory.proofs.WellFormed.{FormulaFacts, formula_facts, numbers_ok, clause_count_lem, each_clause, rising→}
use Rattle.theory.proofs.Prefixes.{numbers, fine}
use Rattle.layout.specs.Words.{ascii}
use Rattle.layout.specs.Opening.{text_bytes}
use Rattle.layout.specs.Output.{last_digits, decimal, literal_text, items_text}
use Rattle.layout_laws.proofs.Decimal.{length_one, length_more}
use Rattle.booktext.specs.Books.{heading_text, variable_text, rest_text, rule_text, rules_text, book_text, written_text, text_room}
use Rattle.booktext_laws.proofs.Declared.{declared_range}
use Rattle.booktext_laws.proofs.Writing.{written_as}

-- ---- numbers
one_digit : (n : ℕ) → 1 ≤ length (decimal n)
one_digit n = by (dec_lt n 10)
  where
    by : Dec (n < 10) → 1 ≤ length (decimal n)
    by (yes q) = omega (arith, length_one n q)
    by (no q) = omega (arith, length_more n (omega (arith, q)))

-- a smaller number has no more digits; k bounds the number of tenths
fewer : (k m n : ℕ) → n < k → m ≤ n → length (decimal m) ≤ length (decimal n)
fewer zero m n h l = absurd (not-suc-le-zero h)
fewer (suc k) m n h l = by (dec_lt m 10) (λ q. fewer k (m / 10) (n / 10) (omega (arith, q)) (omega arith))
  where
    by : Dec (m < 10) → (10 ≤ m → length (decimal (m / 10)) ≤ length (decimal (n / 10))) → length (decimal m) ≤ length (decimal n)
    by (yes q) ih = omega (arith, length_one m q, one_digit n)
    by (no q) ih = omega (arith, length_more m (omega (arith, q)), length_more n (omega (arith, q, l)), ih (omega (arith, q)))

pub digits_most : {m n : ℕ} → m ≤ n → length (decimal m) ≤ length (decimal n)
digits_most {m} {n} h = fewer (suc n) m n (omega arith) h

-- ---- variables
heading_most : (κ : Quantifier) → length (heading_text κ) ≤ 9
unfolding heading_text
heading_most free = omega arith
heading_most exists = omega arith
heading_most forall = omega arith

variable_most : (κ : Quantifier) (d : Variable) → length (variable_text κ d) ≤ 10 + length (decimal d.number)
unfolding variable_text
variable_most κ d = by (same_quantifier κ d.quantifier)
  where
    by : (t : Bool) → length (cond t (ascii " " ++ decimal d.number) (heading_text d.quantifier ++ (ascii " " ++ decimal d.number))) ≤ 10 + length (decimal d.number)
    by true = omega arith
    by false = omega (arith, heading_most d.quantifier, length-append (heading_text d.quantifier) (ascii " " ++ decimal d.number))

rest_most : (w : ℕ) (κ : Quantifier) (D : Prefix) → ((n : ℕ) → Mem n (numbers D) → length (decimal n) ≤ w) → length (rest_text κ D) ≤ length D * (10 + w) + 2
unfolding rest_text
rest_most w κ [] h = omega arith
rest_most w κ (d ∷ D) h =
    omega (arith, variable_most κ d, h d.number (inl refl), rest_most w d.quantifier D (λ n m. h n (inr m)), length-append (variable_text κ d) (rest_text d.quantifier D), suc-mul (length D) (10 + w))

-- ---- rules
mul_le : (c a b : ℕ) → a ≤ b → a * c ≤ b * c
mul_le c zero b h = omega arith
mul_le c (suc a) zero h = absurd (not-suc-le-zero h)
mul_le c (suc a) (suc b) h = omega (arith, mul_le c a b (omega (arith, h)), suc-mul a c, suc-mul b c)

pub literal_most : (l : Literal) → length (literal_text l) ≤ 5 + length (decimal (number_of l))
unfolding literal_text
literal_most (pos n) = omega arith
literal_most (negsuc n) = omega (arith, length-append (ascii "(no " ++ decimal (suc n)) (ascii ")"))

module _ (L : Limits) (D : Prefix) (ok : numbers_are_ok L [] D ≡ true) where
  abbrev width : ℕ
  width = length (decimal L.numbers)

  items_most : (d : ℕ) (r : Clause) → Rising D d r → length (items_text r) ≤ length r * (6 + width)
  unfolding items_text
  items_most d [] up = zero-le
  items_most d (l ∷ r) up =
      omega (arith, literal_most l, digits_most (declared_range L D ok (number_of l) (omega (arith, up.0))).1, items_most (place D l) r up.1, length-append (literal_text l) (items_text r), suc-mul (length r) (6 + width))

  rule_most : (r : Clause) → clause_ok L D r ≡ true → length (rule_text r) ≤ 7 + L.literals * (6 + width)
  unfolding rule_text
  rule_most r h = omega (arith, items_most 0 r up, length-append (ascii "(rule" ++ items_text r) (ascii ")\n"), many)
    where
      sized : (leb 1 (length r) && leb (length r) L.literals) ≡ true
      sized = and_left (leb 1 (length r) && leb (length r) L.literals) (in_order D 0 r) h

      up : Rising D 0 r
      up = rising→ D 0 r (and_right (leb 1 (length r) && leb (length r) L.literals) (in_order D 0 r) h)

      many : length r * (6 + width) ≤ L.literals * (6 + width)
      many = mul_le (6 + width) (length r) L.literals (leb-true (length r) L.literals (and_right (leb 1 (length r)) (leb (length r) L.literals) sized))

  rules_most : (R : List Clause) → ((r : Clause) → Mem r R → clause_ok L D r ≡ true) → length (rules_text R) ≤ length R * (7 + L.literals * (6 + width))
  unfolding rules_text
  rules_most [] h = zero-le
  rules_most (r ∷ R) h =
      omega (arith, rule_most r (h r (inl refl)), rules_most R (λ s m. h s (inr m)), length-append (rule_text r) (rules_text R), suc-mul (length R) (7 + L.literals * (6 + width)))

-- ---- the text
pub parts_length : (b : Formula) → length (written_text b) ≡ 15 + length (rest_text free b.prefix) + length (rules_text b.clauses) + 6
unfolding written_text
parts_length b = simp length-append (omega arith)

pub text_room_lem : (b : Formula) → formula_is_ok b ≡ true → length (book_text b) ≤ text_room b.limits
unfolding text_room
text_room_lem b ok =
    omega (
      arith,
      ap length (written_as b),
      parts_length b,
      variables,
      rules,
    )
  where
    L : Limits
    L = b.limits

    digits : ℕ
    digits = length (decimal L.numbers)

    ready : FormulaFacts b
    ready = formula_facts b ok

    variables : length (rest_text free b.prefix) ≤ L.numbers * (10 + digits) + 2
    variables =
        omega (
          arith,
          rest_most digits free b.prefix (λ n m. digits_most ((fine L [] b.prefix (numbers_ok b ready)).ranged n m).1),
          mul_le (10 + digits) (length b.prefix) L.numbers (omega (arith, prefix_width L b.prefix (numbers_ok b ready), length-map b.prefix (λ d. d.quantifier))),
        )

    rules : length (rules_text b.clauses) ≤ L.clauses * (7 + L.literals * (6 + digits))
    rules =
        omega (
          arith,
          rules_most L b.prefix (numbers_ok b ready) b.clauses (all→ (clause_ok L b.prefix) b.clauses (each_clause b ready)),
          mul_le (7 + L.literals * (6 + digits)) (length b.clauses) L.clauses (clause_count_lem b ready),
        )

-- under the limits of paper 01 every text can be read back
pub paper_longest : text_room paper ≡ 34928
unfolding text_room decimal last_digits
paper_longest = refl

pub paper_room : text_room paper ≤ text_bytes
paper_room = omega (arith, paper_longest)
