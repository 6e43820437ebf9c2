-- The card on a printed page. Paper 02, wish 11.
use Rattle.std.specs.Prelude.{ℕ, zero, suc, ◌+◌, ◌*◌, ◌-◌, ◌/◌, ◌≤◌, ◌<◌, ◌≡◌, ◌⊎◌, Bool, cond, ◌||◌, List, [], ◌∷◌, ◌++◌, map, length, take, drop, replicate, eqb, ltb}
use Rattle.qbf.specs.Formula.{any}
use Rattle.layout.specs.Words.{Bytes, ascii, newline, space}
use Rattle.layout.specs.Output.{decimal}

-- "a page is 24 rows of 72 bytes, each row's last byte being 10"
abbrev pub Page : Type 0
Page = List Bytes

abbrev pub page_rows : ℕ
page_rows = 24

abbrev pub page_columns : ℕ
page_columns = 72

abbrev pub page_bytes : ℕ
page_bytes = page_rows * page_columns

-- "Rows 2 to 23 hold one line each"
abbrev pub page_lines : ℕ
page_lines = 22

-- columns 1 to 5 of a line's row, 67 to 71 of row 1
abbrev pub number_columns : ℕ
number_columns = 5

-- columns 8 to 71 of a line's row: more than the 40 flags that a book has at most
abbrev pub flag_columns : ℕ
flag_columns = 64

-- "more than 99,999 lines": the largest number of five digits
abbrev pub most_lines : ℕ
most_lines = 99999

-- ---- rows
-- "right-aligned in columns 67 to 71", "in columns 1 to 5"
unfoldable pub aligned : ℕ → Bytes
aligned n = replicate (number_columns - length (decimal n)) space ++ decimal n

-- "a dot for open, 0 for off or 1 for on", of the bytes 0, 1 and 2
unfoldable pub sign_of : ℕ → ℕ
sign_of b = cond (eqb b 0) 46 (cond (eqb b 1) 48 49)

-- "Row 1 is the word CARD, blanks, and the page number, from 1, right-aligned in columns 67 to 71."
abbrev pub head_row : ℕ → Bytes
head_row number = ascii "CARD" ++ (replicate 62 space ++ (aligned number ++ (newline ∷ [])))

-- "its number .. right-aligned in columns 1 to 5, two blanks, then for each flag in place order a dot for open, 0 for off or 1 for on";
-- flags that have no column are left out
abbrev pub line_row : ℕ → Bytes → Bytes
line_row n line = aligned n ++ (space ∷ space ∷ (map sign_of (take flag_columns line) ++ (replicate (flag_columns - length line) space ++ (newline ∷ []))))

-- "Row 24 and unused columns are blank."
abbrev pub blank_row : Bytes
blank_row = replicate 71 space ++ (newline ∷ [])

-- ---- a page
-- the bytes of line n, counted from 0
abbrev pub line_at : ℕ → Bytes → ℕ → Bytes
line_at f table n = take f (drop (n * f) table)

module _ (table : Bytes) (lines f : ℕ) where
  -- line n's row, where the card has it: "its number, counted from 1 through the whole card"
  abbrev pub body_row : ℕ → Bytes
  body_row n = cond (ltb n lines) (line_row (n + 1) (line_at f table n)) blank_row

  -- k rows, of line n and those after it
  abbrev pub body_rows : ℕ → ℕ → Page
  body_rows zero n = []
  body_rows (suc k) n = body_row n ∷ body_rows k (n + 1)

  -- "Rows 2 to 23 hold one line each"
  unfoldable pub page_of : ℕ → Page
  page_of number = head_row number ∷ (body_rows page_lines ((number - 1) * page_lines) ++ (blank_row ∷ []))

-- "A card without lines is one page."
abbrev pub pages : ℕ → ℕ
pages lines = cond (eqb lines 0) 1 ((lines + (page_lines - 1)) / page_lines)

-- ---- refusal 36
-- "more than 99,999 lines or than the table holds, or a byte above 2 in any line"
abbrev pub no_card : Bytes → ℕ → ℕ → Bool
no_card table lines f = ltb most_lines lines || (ltb (length table) (lines * f) || any (ltb 2) (take (lines * f) table))

-- "A page the card does not have, more than 99,999 lines or than the table holds, or a byte above 2 in any line is 36"
unfoldable pub no_page : Bytes → ℕ → ℕ → ℕ → Bool
no_page table lines f number = eqb number 0 || (ltb (pages lines) number || no_card table lines f)

-- 0 is no refusal
abbrev pub page_refusal : Bytes → ℕ → ℕ → ℕ → ℕ
page_refusal table lines f number = cond (no_page table lines f number) 36 0

-- "with a page of zero bytes"
abbrev pub zero_page : Page
zero_page = replicate page_rows (replicate page_columns 0)

-- what the printer is given
abbrev pub printed : Bytes → ℕ → ℕ → ℕ → Page
printed table lines f number = cond (no_page table lines f number) zero_page (page_of table lines f number)

-- ---- two cards in print
-- "Two printed cards of one book that differ in a line": in a line that both have, or in the count of lines
abbrev pub DifferInLine : (f : ℕ) (table : Bytes) (lines : ℕ) (table' : Bytes) (lines' : ℕ) → Type 0
DifferInLine f table lines table' lines' = ((n : ℕ) × (n < lines) × (n < lines') × (line_at f table n ≡ line_at f table' n → ⊥)) ⊎ (lines ≡ lines' → ⊥)

-- they "differ on some page, or one has more pages"
abbrev pub DifferInPrint : (f : ℕ) (table : Bytes) (lines : ℕ) (table' : Bytes) (lines' : ℕ) → Type 0
DifferInPrint f table lines table' lines' =
    ((number : ℕ) × (1 ≤ number) × (number ≤ pages lines) × (number ≤ pages lines') × (printed table lines f number ≡ printed table' lines' f number → ⊥))
    ⊎ (pages lines ≡ pages lines' → ⊥)
