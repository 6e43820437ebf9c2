-- The rows of a page.
use Prim.Native.Nat.{ℕ, zero, suc, ◌+◌, ◌*◌, ◌-◌, ◌≤◌, ◌<◌}
use native.Mathlib.Nat.{not-suc-le-zero, le_of_suc-le-suc, mul-le-mul_right}
use native.Mathlib.Omega.{arith}
use mathlib.Core.Path.{◌≡◌, refl, sym, ap, ◌∙◌}
use mathlib.Core.Bool.{Bool, true, false, cond}
use mathlib.Core.List.{[], ◌∷◌}
use lib.ListN.{length, get_or, set, take, drop, length-append, get_or-append}
use lib.Seq.{get_or_at, ext_get_or, get_or-set_same, get_or-set_other}
use lib.Dec.{ltb}
use borrow.Author.Tests.{lt-ltb, le-ltb}
use borrow.Author.Count.{below_more}
use Rattle.layout.specs.Words.{Bytes}
use Rattle.layout.specs.Page.{Page, page_rows, page_lines, head_row, line_row, blank_row, line_at, body_row, body_rows, page_of, no_page, zero_page, printed}

module _ (table : Bytes) (lines f : ℕ) where
  body_length : (k n : ℕ) → length (body_rows table lines f k n) ≡ k
  body_length zero n = refl
  body_length (suc k) n = ap suc (body_length k (n + 1))

  body_at : (k n j : ℕ) → j < k → get_or (body_rows table lines f k n) j [] ≡ body_row table lines f (n + j)
  body_at zero n j h = absurd (not-suc-le-zero h)
  body_at (suc k) n zero h = let z : n ≡ n + 0 = omega arith in ap (body_row table lines f) z
  body_at (suc k) n (suc j) h = let z : n + 1 + j ≡ n + suc j = omega arith in body_at k (n + 1) j (le_of_suc-le-suc h) ∙ ap (body_row table lines f) z

  -- "24 rows"
  pub page_length : (number : ℕ) → length (page_of table lines f number) ≡ page_rows
  unfolding page_of
  page_length number =
      omega (arith, length-append (body_rows table lines f page_lines ((number - 1) * page_lines)) (blank_row ∷ []), body_length page_lines ((number - 1) * page_lines))

  pub printed_length : (number : ℕ) → length (printed table lines f number) ≡ page_rows
  printed_length number = by (no_page table lines f number)
    where
      by : (b : Bool) → length (cond b zero_page (page_of table lines f number)) ≡ page_rows
      by true = refl
      by false = page_length number

  -- row 1, row 24, and row j + 2
  pub page_first : (number r : ℕ) → r ≡ 0 → head_row number ≡ get_or (page_of table lines f number) r []
  unfolding page_of
  page_first number r e = ap (λ (k : ℕ). get_or (page_of table lines f number) k []) (sym e)

  pub page_last : (number r : ℕ) → r ≡ page_rows - 1 → blank_row ≡ get_or (page_of table lines f number) r []
  unfolding page_of
  page_last number r e =
      let z : r ≡ suc page_lines = omega arith in
      sym (ap (λ (k : ℕ). get_or (page_of table lines f number) k []) z ∙ get_or_at (body_rows table lines f page_lines ((number - 1) * page_lines)) blank_row [] [] page_lines (body_length page_lines ((number - 1) * page_lines)))

  pub page_body : (number j : ℕ) → j < page_lines → get_or (page_of table lines f number) (suc j) [] ≡ body_row table lines f ((number - 1) * page_lines + j)
  unfolding page_of
  page_body number j h =
      get_or-append (body_rows table lines f page_lines ((number - 1) * page_lines)) (blank_row ∷ []) [] j (omega (arith, body_length page_lines ((number - 1) * page_lines)))
      ∙ body_at page_lines ((number - 1) * page_lines) j h

  -- a row with a line, and one without
  module _ (number r n : ℕ) (z : r ≡ 0 → ⊥) (y : r ≡ page_rows - 1 → ⊥) (x : r < page_rows) (e : n ≡ (number - 1) * page_lines + (r - 1)) where
    body : (b : Bool) → ltb n lines ≡ b → get_or (page_of table lines f number) r [] ≡ cond b (line_row (n + 1) (line_at f table n)) blank_row
    body b t =
        let s : r ≡ suc (r - 1) = omega (arith, z) in
        let h : r - 1 < page_lines = omega (arith, z, y) in
        ap (λ (k : ℕ). get_or (page_of table lines f number) k []) s
        ∙ page_body number (r - 1) h
        ∙ ap (body_row table lines f) (sym e)
        ∙ ap (λ (c : Bool). cond c (line_row (n + 1) (line_at f table n)) blank_row) t

    pub page_line_lem : n < lines → line_row (n + 1) (line_at f table n) ≡ get_or (page_of table lines f number) r []
    page_line_lem h = sym (body true (lt-ltb n lines h))

    pub page_none : lines ≤ n → blank_row ≡ get_or (page_of table lines f number) r []
    page_none h = sym (body false (le-ltb n lines h))

-- a line's bytes stand within the table, and are a part of it
pub line_within : (n lines f size : ℕ) → n < lines → lines * f ≤ size → n * f + f ≤ size
line_within n lines f size h e = omega (arith, mul-le-mul_right f h)

pub line_part : (f n at end : ℕ) (table : Bytes) → at ≡ n * f → end ≡ at + f → take (end - at) (drop at table) ≡ line_at f table n
line_part f n at end table p q = let z : end - at ≡ f = omega arith in ap (λ (k : ℕ). take k (drop at table)) z ∙ ap (λ (k : ℕ). take f (drop k table)) p

-- ---- a page filled row by row
-- the first r rows of p are those of q
abbrev pub Filled : Page → Page → ℕ → Type 0
Filled p q r = (k : ℕ) → k < r → get_or p k [] ≡ get_or q k []

pub rows_more : (p q : Page) (r : ℕ) (row : Bytes) → r < length p → row ≡ get_or q r [] → Filled p q r → Filled (set p r row) q (r + 1)
rows_more p q r row h e all =
    below_more (λ (k : ℕ). get_or (set p r row) k [] ≡ get_or q k []) r
    (λ k lt. get_or-set_other p r k row [] (omega arith) ∙ all k lt)
    (get_or-set_same p r row [] h ∙ e)

pub rows_all : (p q : Page) (r : ℕ) → length p ≡ page_rows → length q ≡ page_rows → page_rows ≤ r → Filled p q r → p ≡ q
rows_all p q r a b h all = ext_get_or [] p q (a ∙ sym b) (λ k lt. all k (omega arith))
