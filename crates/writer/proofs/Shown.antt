-- The text by the tables is the text of the card that they show; and how long it is at most.
use Prim.Native.Nat.{ℕ, zero, suc, ◌+◌, ◌*◌, ◌-◌, ◌^◌, ◌<◌, ◌≤◌, zero-le, suc-le-suc}
use mathlib.Core.Path.{◌≡◌, refl, sym, ap, ◌∙◌}
use mathlib.Core.Logic.{inl, inr}
use mathlib.Core.Bool.{Bool, true, false, cond, not, ◌&&◌}
use mathlib.Core.List.{List, [], ◌∷◌, ◌++◌, map, append_assoc, append-nil}
use native.Mathlib.Omega.{arith}
use native.Mathlib.Nat.{le_of_suc-le-suc, not-suc-le-zero, suc-mul, mul-le-mul_right, mul_comm}
use borrow.Author.Tests.{leb-true}
use lib.Dec.{leb, eqb}
use lib.IntN.{pos}
use lib.ListN.{length, get_or, take, drop, replicate, length-append}
use lib.Seq.{take_at, drop_at}
use Rattle.qbf.specs.Formula.{Limits, paper, highest, Variable, Prefix, Node, any}
use Rattle.qbf.specs.Card.{Mem, byte_of, line_bytes, bytes_of, table_of}
use Rattle.qbf.specs.Calls.{numbers_are_ok}
use Rattle.theory.proofs.Basics.{and_left, and_right}
use Rattle.theory.proofs.Cards.{line_length}
use Rattle.tables.specs.Views.{Numbers}
use Rattle.layout.specs.Words.{Bytes, ascii, space}
use Rattle.layout.specs.Forms.{off}
use Rattle.layout.specs.Output.{decimal, literal_text, set_literals, items_text, line_text, lines_text, visits_text, card_head, card_text, closest_text}
use Rattle.layout_laws.proofs.Decimal.{decimal_length}
use Rattle.writer.specs.Rows.{item_text, items_from, row_text, rows_text, card_rows, closest_row}
use Rattle.writer.proofs.Lengths.{visits_length, head_length}

-- ---- one item
item_set : (n : ℕ) (v : Bool) → 1 ≤ n → item_text n (byte_of v) ≡ space ∷ literal_text (cond v (pos n) (off n))
unfolding item_text literal_text
item_set zero v h = absurd (not-suc-le-zero h)
item_set (suc n) true h = refl
item_set (suc n) false h = refl

-- open places have no item
items_open : (numbers : List ℕ) (i k : ℕ) → items_from numbers i (replicate k 0) ≡ []
unfolding items_from item_text
items_open numbers i zero = refl
items_open numbers i (suc k) = items_open numbers (suc i) k

-- ---- a line
numbers_of : Prefix → List ℕ
numbers_of D = map (λ d. d.number) D

-- the table has the numbers of the places from i on
abbrev Holds : List ℕ → ℕ → Prefix → Type 0
Holds numbers i D = (k : ℕ) → k < length D → get_or numbers (i + k) 0 ≡ get_or (numbers_of D) k 0

module _ (L : Limits) where
  first_low : (seen : List ℕ) (d : Variable) (D : Prefix) → numbers_are_ok L seen (d ∷ D) ≡ true → 1 ≤ d.number
  first_low seen d D e =
      leb-true 1 d.number (and_left (leb 1 d.number) (leb d.number L.numbers) (and_left (leb 1 d.number && leb d.number L.numbers) (not (any (eqb d.number) seen)) (and_left (leb 1 d.number && leb d.number L.numbers && not (any (eqb d.number) seen)) (numbers_are_ok L (d.number ∷ seen) D) e)))

  rest_ok : (seen : List ℕ) (d : Variable) (D : Prefix) → numbers_are_ok L seen (d ∷ D) ≡ true → numbers_are_ok L (d.number ∷ seen) D ≡ true
  rest_ok seen d D e = and_right (leb 1 d.number && leb d.number L.numbers && not (any (eqb d.number) seen)) (numbers_are_ok L (d.number ∷ seen) D) e

  items_shown : (numbers : List ℕ) (seen : List ℕ) (i k : ℕ) (D : Prefix) (s : Node) → numbers_are_ok L seen D ≡ true → Holds numbers i D → length s ≤ length D
      → items_from numbers i (map byte_of s ++ replicate k 0) ≡ items_text (set_literals D s)
  unfolding items_from items_text numbers_of
  items_shown numbers seen i k D [] e h within = items_open numbers i k ∙ none_set D
    where
      none_set : (D : Prefix) → [] ≡ items_text (set_literals D [])
      none_set [] = refl
      none_set (d ∷ D) = refl
  items_shown numbers seen i k [] (v ∷ s) e h within = absurd (not-suc-le-zero within)
  items_shown numbers seen i k (d ∷ D) (v ∷ s) e h within =
      ap (λ (n : ℕ). item_text n (byte_of v) ++ items_from numbers (suc i) (map byte_of s ++ replicate k 0)) number
      ∙ ap (λ (t : Bytes). t ++ items_from numbers (suc i) (map byte_of s ++ replicate k 0)) (item_set d.number v (first_low seen d D e))
      ∙ ap (λ (t : Bytes). space ∷ literal_text (cond v (pos d.number) (off d.number)) ++ t) (items_shown numbers (d.number ∷ seen) (suc i) k D s (rest_ok seen d D e) next (le_of_suc-le-suc within))
    where
      zero_off : i ≡ i + 0
      zero_off = omega arith

      number : get_or numbers i 0 ≡ d.number
      number = ap (λ (j : ℕ). get_or numbers j 0) zero_off ∙ h 0 (suc-le-suc zero-le)

      next : Holds numbers (suc i) D
      next j g = ap (λ (m : ℕ). get_or numbers m 0) (shift j) ∙ h (suc j) (suc-le-suc g)
        where
          shift : (j : ℕ) → suc i + j ≡ i + suc j
          shift j = omega arith

-- ---- the card that the tables show
-- each line has at most f places
abbrev pub Within : ℕ → List Node → Type 0
Within f ls = (s : Node) → Mem s ls → length s ≤ f

module _ (L : Limits) (D : Prefix) (numbers : List ℕ) (f : ℕ) (fine : numbers_are_ok L [] D ≡ true) (shown : Numbers D numbers) (few : f ≤ length D) where
  -- a row of the table is a line
  pub row_shown : (s : Node) → length s ≤ f → row_text numbers (line_bytes f s) ≡ line_text D s
  unfolding row_text line_text numbers_of
  row_shown s within =
      ap (λ (t : Bytes). ascii "(line" ++ t ++ ascii ")\n")
      (items_shown L numbers [] 1 (f - length s) D s fine (λ k h. ap (λ (j : ℕ). get_or numbers j 0) (next k) ∙ shown.at k h) (omega (arith, within, few)))
    where
      next : (k : ℕ) → 1 + k ≡ suc k
      next k = omega arith

  pub rows_shown : (ls : List Node) (after : List ℕ) → Within f ls → rows_text f numbers (bytes_of f ls ++ after) (length ls) ≡ lines_text D ls
  unfolding rows_text lines_text
  rows_shown [] after within = refl
  rows_shown (s ∷ ls) after within =
      ap (λ (t : List ℕ). row_text numbers (take f t) ++ rows_text f numbers (drop f t) (length ls)) (append_assoc (line_bytes f s) (bytes_of f ls) after)
      ∙ ap (λ (t : List ℕ). row_text numbers t ++ rows_text f numbers (drop f (line_bytes f s ++ (bytes_of f ls ++ after))) (length ls)) (take_at (line_bytes f s) (bytes_of f ls ++ after) f width)
      ∙ ap (λ (t : List ℕ). row_text numbers (line_bytes f s) ++ rows_text f numbers t (length ls)) (drop_at (line_bytes f s) (bytes_of f ls ++ after) f width)
      ∙ ap (λ (t : Bytes). t ++ rows_text f numbers (bytes_of f ls ++ after) (length ls)) (row_shown s (within s (inl refl)))
      ∙ ap (λ (t : Bytes). line_text D s ++ t) (rows_shown ls after (λ r m. within r (inr m)))
    where
      width : length (line_bytes f s) ≡ f
      width = line_length f s (within s (inl refl))

  -- the whole card
  pub card_shown : (p : Bool) (ls : List Node) (size visits : ℕ) → Within f ls → card_rows p f numbers (table_of f size ls) (length ls) visits ≡ card_text p D ls visits
  unfolding card_rows card_text
  card_shown p ls size visits within =
      ap (λ (t : Bytes). card_head p ++ t ++ visits_text visits ++ ascii "(end)\n") (rows_shown ls (replicate (size - length ls * f) 0) within)

-- ---- the closest reading that they show
module _ (L : Limits) (D : Prefix) (numbers : List ℕ) (fine : numbers_are_ok L [] D ≡ true) (shown : Numbers D numbers) where
  pub closest_shown : (t : Node) (differs lines visits : ℕ) → length t ≤ length D → closest_row numbers (map byte_of t) differs lines visits ≡ closest_text D t differs lines visits
  unfolding closest_row closest_text numbers_of
  closest_shown t differs lines visits within =
      ap (λ (s : Bytes). ascii "(closest (reading" ++ s ++ ascii ") (differs " ++ decimal differs ++ ascii ") (lines " ++ decimal lines ++ ascii ") (visits " ++ decimal visits ++ ascii "))\n")
      (ap (items_from numbers 1) (sym (append-nil (map byte_of t)))
      ∙ items_shown L numbers [] 1 0 D t fine (λ k h. ap (λ (j : ℕ). get_or numbers j 0) (next k) ∙ shown.at k h) within)
    where
      next : (k : ℕ) → 1 + k ≡ suc k
      next k = omega arith

-- ---- how long a card is at most, where the numbers of the variables have at most w digits
module _ (L : Limits) (w : ℕ) (narrow : (n : ℕ) → n ≤ L.numbers → length (decimal n) ≤ w) where
  in_range : (seen : List ℕ) (d : Variable) (D : Prefix) → numbers_are_ok L seen (d ∷ D) ≡ true → d.number ≤ L.numbers
  in_range seen d D e =
      leb-true d.number L.numbers (and_right (leb 1 d.number) (leb d.number L.numbers) (and_left (leb 1 d.number && leb d.number L.numbers) (not (any (eqb d.number) seen)) (and_left (leb 1 d.number && leb d.number L.numbers && not (any (eqb d.number) seen)) (numbers_are_ok L (d.number ∷ seen) D) e)))

  literal_most : (n : ℕ) (v : Bool) → n ≤ L.numbers → length (literal_text (cond v (pos n) (off n))) ≤ 5 + w
  unfolding literal_text
  literal_most n true h = omega (arith, narrow n h)
  literal_most zero false h = omega (arith, narrow zero h)
  literal_most (suc n) false h = omega (arith, narrow (suc n) h, length-append (ascii "(no " ++ decimal (suc n)) (ascii ")"))

  items_most : (seen : List ℕ) (D : Prefix) (s : Node) → numbers_are_ok L seen D ≡ true → length (items_text (set_literals D s)) ≤ length s * (6 + w)
  unfolding items_text
  items_most seen [] s e = zero-le
  items_most seen (d ∷ D) [] e = zero-le
  items_most seen (d ∷ D) (v ∷ s) e =
      omega (arith, literal_most d.number v (in_range seen d D e), length-append (literal_text (cond v (pos d.number) (off d.number))) (items_text (set_literals D s)), items_most (d.number ∷ seen) D s (rest_ok L seen d D e), suc-mul (length s) (6 + w))

  module _ (D : Prefix) (fine : numbers_are_ok L [] D ≡ true) where
    line_most : (s : Node) → length (line_text D s) ≤ length s * (6 + w) + 7
    unfolding line_text
    line_most s = omega (arith, items_most [] D s fine, length-append (ascii "(line" ++ items_text (set_literals D s)) (ascii ")\n"))

    lines_most : (f : ℕ) (ls : List Node) → Within f ls → length (lines_text D ls) ≤ length ls * (f * (6 + w) + 7)
    unfolding lines_text
    lines_most f [] within = zero-le
    lines_most f (s ∷ ls) within =
        omega (arith, line_most s, mul-le-mul_right (6 + w) (within s (inl refl)), length-append (line_text D s) (lines_text D ls), lines_most f ls (λ r m. within r (inr m)), suc-mul (length ls) (f * (6 + w) + 7))

    -- visits have at most 20 digits
    pub card_most_under : (p : Bool) (f : ℕ) (ls : List Node) (visits : ℕ) → Within f ls → visits < 10 ^ 20 → length (card_text p D ls visits) ≤ length ls * (f * (6 + w) + 7) + 50
    unfolding card_text
    card_most_under p f ls visits within small =
        omega (
          arith,
          lines_most f ls within,
          visits_length visits,
          decimal_length 19 visits small,
          head_length p,
          length-append (card_head p ++ lines_text D ls ++ visits_text visits) (ascii "(end)\n"),
          length-append (card_head p ++ lines_text D ls) (visits_text visits),
          length-append (card_head p) (lines_text D ls),
        )

    -- numbers of at most 20 digits
    pub closest_most_under : (t : Node) (differs lines visits : ℕ) → differs < 10 ^ 20 → lines < 10 ^ 20 → visits < 10 ^ 20 → length (closest_text D t differs lines visits) ≤ length t * (6 + w) + 110
    unfolding closest_text
    closest_most_under t differs lines visits a b c =
        let sum : length (closest_text D t differs lines visits) ≡ length (items_text (set_literals D t)) + length (decimal differs) + length (decimal lines) + length (decimal visits) + 50 = simp length-append (omega arith) in
        omega (arith, sum, items_most [] D t fine, decimal_length 19 differs a, decimal_length 19 lines b, decimal_length 19 visits c)

-- under the limits of paper 01, and under the highest: two digits, and four
two_digits : (n : ℕ) → n ≤ paper.numbers → length (decimal n) ≤ 2
two_digits n h = decimal_length 1 n (omega (arith, h))

pub four_digits : (L : Limits) → L.numbers ≤ highest.numbers → (n : ℕ) → n ≤ L.numbers → length (decimal n) ≤ 4
four_digits L h n k = decimal_length 3 n (omega (arith, h, k))

module _ (D : Prefix) (fine : numbers_are_ok paper [] D ≡ true) where
  pub card_most : (p : Bool) (f : ℕ) (ls : List Node) (visits : ℕ) → Within f ls → visits < 10 ^ 20 → length (card_text p D ls visits) ≤ length ls * (8 * f + 7) + 50
  card_most p f ls visits within small =
      omega (arith, card_most_under paper 2 two_digits D fine p f ls visits within small, ap (λ (k : ℕ). length ls * (k + 7)) (mul_comm f 8))

  pub closest_most : (t : Node) (differs lines visits : ℕ) → differs < 10 ^ 20 → lines < 10 ^ 20 → visits < 10 ^ 20 → length (closest_text D t differs lines visits) ≤ 8 * length t + 110
  closest_most t differs lines visits a b c = omega (arith, closest_most_under paper 2 two_digits D fine t differs lines visits a b c)
