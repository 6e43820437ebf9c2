-- "Two printed cards of one book that differ in a line differ on some page, or one has more pages."
use Prim.Native.Nat.{ℕ, zero, suc, ◌+◌, ◌*◌, ◌-◌, ◌/◌, ◌%◌, ◌≤◌, ◌<◌}
use native.Mathlib.Nat.{mul-le-mul_right}
use native.Mathlib.Omega.{arith}
use mathlib.Core.Path.{◌≡◌, refl, sym, ap, ◌∙◌}
use mathlib.Core.Logic.{◌⊎◌, inl, inr}
use mathlib.Core.Bool.{Bool, true, false, cond, ◌||◌}
use mathlib.Core.List.{[], ◌∷◌, ◌++◌, map}
use lib.ListN.{length, get_or, take, drop, replicate, length-take, length-drop, length-map, get_or-append, get_or-map}
use lib.Seq.{ext_get_or, get_or-take, get_or-drop, length-take-le}
use lib.Dec.{eqb, ltb, eqb-suc-zero}
use borrow.Author.Tests.{eqb-true, eqb-false, ne_eqb, le-ltb, lt-ltb, ltb-false}
use Rattle.qbf.specs.Formula.{any}
use Rattle.layout.specs.Words.{Bytes, newline, space}
use Rattle.layout.specs.Page.{page_lines, flag_columns, sign_of, line_row, blank_row, line_at, body_row, page_of, pages, no_card, no_page, zero_page, printed, DifferInLine, DifferInPrint}
use Rattle.theory.proofs.Basics.{dichotomy, le_or_lt, or_false, or_false_left, or_false_right}
use Rattle.page.specs.Columns.{digit}
use Rattle.page.proofs.Cells.{whole, whole_row}
use Rattle.page.proofs.Lines.{page_body, line_within}
use Rattle.page.proofs.Faults.{card_of_lem}

-- ---- a line read off its row
byte_of_sign : ℕ → ℕ
byte_of_sign c = cond (eqb c 46) 0 (cond (eqb c 48) 1 2)

sign_read : (b : ℕ) → b ≤ 2 → byte_of_sign (sign_of b) ≡ b
unfolding byte_of_sign sign_of
sign_read zero h = refl
sign_read (suc zero) h = refl
sign_read (suc (suc zero)) h = refl
sign_read (suc (suc (suc b))) h = absurd (omega arith)

sign_at : (n : ℕ) (line : Bytes) (i : ℕ) → i < flag_columns → i < length line → get_or (drop 7 (whole n line)) i (sign_of 0) ≡ sign_of (get_or line i 0)
sign_at n line i h k =
    get_or-append (map sign_of (take flag_columns line)) (replicate (flag_columns - length line) space ++ (newline ∷ [])) (sign_of 0) i (omega (arith, length-map (take flag_columns line) sign_of, length-take flag_columns line))
    ∙ get_or-map sign_of (take flag_columns line) i 0
    ∙ ap sign_of (get_or-take flag_columns line i 0 h)

byte_at : (n : ℕ) (line : Bytes) (i : ℕ) → i < flag_columns → i < length line → get_or line i 0 ≤ 2 → byte_of_sign (get_or (drop 7 (whole n line)) i (sign_of 0)) ≡ get_or line i 0
byte_at n line i h k s = ap byte_of_sign (sign_at n line i h k) ∙ sign_read (get_or line i 0) s

any_false_at : (g : ℕ → Bool) (l : Bytes) (i : ℕ) → i < length l → any g l ≡ false → g (get_or l i 0) ≡ false
any_false_at g [] i h e = absurd (omega arith)
any_false_at g (x ∷ l) zero h e = or_false_left (g x) (any g l) e
any_false_at g (x ∷ l) (suc i) h e = any_false_at g l i (omega arith) (or_false_right (g x) (any g l) e)

-- ---- where a line stands
page_number : ℕ → ℕ
page_number n = n / page_lines + 1

-- row 1 is the page's first
row_number : ℕ → ℕ
row_number n = suc (n % page_lines)

on_page : (n lines : ℕ) → n < lines → (1 ≤ page_number n) × (page_number n ≤ pages lines)
unfolding page_number
on_page n zero h = absurd (omega arith)
on_page n (suc k) h =
    let e : pages (suc k) ≡ (suc k + (page_lines - 1)) / page_lines = ap (λ (b : Bool). cond b 1 ((suc k + (page_lines - 1)) / page_lines)) (eqb-suc-zero k) in
    (omega arith, omega arith)

module _ (f : ℕ) (table : Bytes) (lines : ℕ) (e : no_card table lines f ≡ false) where
  -- a page that the card has is printed
  is_printed : (number : ℕ) → 1 ≤ number → number ≤ pages lines → printed table lines f number ≡ page_of table lines f number
  unfolding no_page
  is_printed number h k =
      ap (λ (b : Bool). cond b zero_page (page_of table lines f number))
      (or_false (eqb number 0) (ltb (pages lines) number || no_card table lines f) (ne_eqb number 0 (λ z. absurd (omega arith)))
      (or_false (ltb (pages lines) number) (no_card table lines f) (le-ltb (pages lines) number k) e))

  row_there : (n : ℕ) → get_or (page_of table lines f (page_number n)) (row_number n) [] ≡ body_row table lines f n
  unfolding page_number row_number
  row_there n =
      let z : (n / page_lines + 1 - 1) * page_lines + n % page_lines ≡ n = omega arith in
      page_body table lines f (n / page_lines + 1) (n % page_lines) (omega arith) ∙ ap (body_row table lines f) z

  row_line : (n : ℕ) → n < lines → get_or (page_of table lines f (page_number n)) (row_number n) [] ≡ whole (n + 1) (line_at f table n)
  row_line n h =
      row_there n
      ∙ ap (λ (b : Bool). cond b (line_row (n + 1) (line_at f table n)) blank_row) (lt-ltb n lines h)
      ∙ sym (whole_row (n + 1) (line_at f table n) (omega arith) (omega (arith, (card_of_lem table lines f e).few)))

  row_none : (n : ℕ) → lines ≤ n → get_or (page_of table lines f (page_number n)) (row_number n) [] ≡ blank_row
  row_none n h = row_there n ∙ ap (λ (b : Bool). cond b (line_row (n + 1) (line_at f table n)) blank_row) (le-ltb n lines h)

  line_length : (n : ℕ) → n < lines → length (line_at f table n) ≡ f
  line_length n h =
      omega (arith, line_within n lines f (length table) h (card_of_lem table lines f e).held, length-take f (drop (n * f) table), length-drop (n * f) table)

  line_small : (n i : ℕ) → n < lines → i < f → get_or (line_at f table n) i 0 ≤ 2
  line_small n i h k =
      let w : n * f + i < lines * f = omega (arith, mul-le-mul_right f h) in
      let c = card_of_lem table lines f e in
      let s = any_false_at (ltb 2) (take (lines * f) table) (n * f + i) (omega (arith, length-take-le (lines * f) table c.held)) c.small in
      omega (arith, get_or-take f (drop (n * f) table) i 0 k, get_or-drop (n * f) table i 0, get_or-take (lines * f) table (n * f + i) 0 w, ltb-false 2 (get_or (take (lines * f) table) (n * f + i) 0) s)

module _ (f : ℕ) (wide : f ≤ flag_columns) (table : Bytes) (lines : ℕ) (e : no_card table lines f ≡ false) (table' : Bytes) (lines' : ℕ) (e' : no_card table' lines' f ≡ false) where
  -- equal pages have equal lines
  same_line : (n : ℕ) → n < lines → n < lines' → page_of table lines f (page_number n) ≡ page_of table' lines' f (page_number n) → line_at f table n ≡ line_at f table' n
  same_line n h h' q =
      ext_get_or 0 (line_at f table n) (line_at f table' n) (long ∙ sym long')
      (λ i k. sym (byte_at (n + 1) (line_at f table n) i (omega (arith, long)) k (line_small f table lines e n i h (omega (arith, long))))
      ∙ ap (λ (r : Bytes). byte_of_sign (get_or (drop 7 r) i (sign_of 0))) rows
      ∙ byte_at (n + 1) (line_at f table' n) i (omega (arith, long)) (omega (arith, long, long')) (line_small f table' lines' e' n i h' (omega (arith, long))))
    where
      long : length (line_at f table n) ≡ f
      long = line_length f table lines e n h

      long' : length (line_at f table' n) ≡ f
      long' = line_length f table' lines' e' n h'

      rows : whole (n + 1) (line_at f table n) ≡ whole (n + 1) (line_at f table' n)
      rows = sym (row_line f table lines e n h) ∙ ap (λ p. get_or p (row_number n) []) q ∙ row_line f table' lines' e' n h'

  -- a line that only the second card has shows: its number ends in a digit, where the first card's row is blank
  more_lines : lines < lines' → page_of table lines f (page_number lines) ≡ page_of table' lines' f (page_number lines) → ⊥
  unfolding digit
  more_lines h q =
      let r : blank_row ≡ whole (lines + 1) (line_at f table' lines) = sym (row_none f table lines e lines (omega arith)) ∙ ap (λ p. get_or p (row_number lines) []) q ∙ row_line f table' lines' e' lines h in
      let d : space ≡ cond (eqb (lines + 1) 0) space (48 + (lines + 1) % 10) = ap (λ (l : Bytes). get_or l 4 0) r in
      let b : eqb (lines + 1) 0 ≡ false = ne_eqb (lines + 1) 0 (λ z. absurd (omega arith)) in
      let w : space ≡ 48 + (lines + 1) % 10 = d ∙ ap (λ (x : Bool). cond x space (48 + (lines + 1) % 10)) b in
      omega arith

  -- ---- in print
  line_apart : (n : ℕ) → n < lines → n < lines' → (line_at f table n ≡ line_at f table' n → ⊥) → DifferInPrint f table lines table' lines'
  line_apart n h h' apart =
      let a = on_page n lines h in
      let b = on_page n lines' h' in
      inl (page_number n, a.0, a.1, b.1, λ q. apart (same_line n h h' (sym (is_printed f table lines e (page_number n) a.0 a.1) ∙ q ∙ is_printed f table' lines' e' (page_number n) a.0 b.1)))

  count_apart : lines < lines' → DifferInPrint f table lines table' lines'
  count_apart h = by (dichotomy (eqb (pages lines) (pages lines')))
    where
      by : (eqb (pages lines) (pages lines') ≡ true) ⊎ (eqb (pages lines) (pages lines') ≡ false) → DifferInPrint f table lines table' lines'
      by (inr x) = inr (eqb-false (pages lines) (pages lines') x)
      by (inl x) =
          let b = on_page lines lines' h in
          let s = eqb-true (pages lines) (pages lines') x in
          let k : page_number lines ≤ pages lines = omega (arith, s) in
          inl (page_number lines, b.0, k, b.1, λ q. more_lines h (sym (is_printed f table lines e (page_number lines) b.0 k) ∙ q ∙ is_printed f table' lines' e' (page_number lines) b.0 b.1))

turned : (f : ℕ) (table : Bytes) (lines : ℕ) (table' : Bytes) (lines' : ℕ) → DifferInPrint f table' lines' table lines → DifferInPrint f table lines table' lines'
turned f table lines table' lines' (inl d) = inl (d.0, d.1, d.3, d.2, λ q. d.4 (sym q))
turned f table lines table' lines' (inr d) = inr (λ q. d (sym q))

-- Every card that can be printed, of a book that has no more flags than there are columns.
pub cards_apart : (f : ℕ) → f ≤ flag_columns → (table : Bytes) (lines : ℕ) → no_card table lines f ≡ false → (table' : Bytes) (lines' : ℕ) → no_card table' lines' f ≡ false
    → DifferInLine f table lines table' lines' → DifferInPrint f table lines table' lines'
cards_apart f w t l e t' l' e' (inl d) = line_apart f w t l e t' l' e' d.0 d.1 d.2 d.3
cards_apart f w t l e t' l' e' (inr d) = by (le_or_lt l l')
  where
    by : (l ≤ l') ⊎ (l' < l) → DifferInPrint f t l t' l'
    by (inl h) = count_apart f w t l e t' l' e' (omega (arith, d))
    by (inr h) = turned f t l t' l' (count_apart f w t' l' e' t l e h)
