-- Printed pages by computation: the figures of wish 11, and its refusals.
use mathlib.Core.Path.{◌≡◌, refl}
use mathlib.Core.Bool.{true, false}
use mathlib.Core.List.{List, [], ◌∷◌, ◌++◌}
use Prim.Native.Nat.{ℕ}
use lib.ListN.{get_or, replicate}
use Rattle.layout.specs.Words.{Bytes, ascii}
use Rattle.layout.specs.Output.{last_digits, decimal}
use Rattle.layout.specs.Page.{aligned, sign_of, head_row, line_row, blank_row, page_of, pages, no_page, printed}

-- ---- rows
-- an open flag, one that is off and one that is on, on line 3
three_flags : line_row 3 (0 ∷ 1 ∷ 2 ∷ []) ≡ ascii "    3  .01                                                             \n"
unfolding aligned last_digits decimal sign_of
three_flags = refl

-- "f = 40": a book's largest count of flags, with 24 blanks behind them, on the last line that there can be
forty_flags : line_row 99999 (replicate 40 2) ≡ ascii "99999  1111111111111111111111111111111111111111                        \n"
unfolding aligned last_digits decimal sign_of
forty_flags = refl

no_flag : line_row 1 [] ≡ ascii "    1                                                                  \n"
unfolding aligned last_digits decimal
no_flag = refl

head : head_row 12 ≡ ascii "CARD                                                                 12\n"
unfolding aligned last_digits decimal
head = refl

blank : blank_row ≡ ascii "                                                                       \n"
blank = refl

-- ---- pages
-- 0, 1, 22, 23, 44 and 45 lines; 99,999 lines
record Counts : Type 0 where
  none : pages 0 ≡ 1
  one : pages 1 ≡ 1
  full : pages 22 ≡ 1
  over : pages 23 ≡ 2
  two : pages 44 ≡ 2
  three : pages 45 ≡ 3
  most : pages 99999 ≡ 4546

counts : Counts
counts = record { none = refl; one = refl; full = refl; over = refl; two = refl; three = refl; most = refl }

-- book A's card: two lines of two flags
abbrev card_a : Bytes
card_a = 1 ∷ 2 ∷ 2 ∷ 2 ∷ []

abbrev page_a : List Bytes
page_a =
    ascii "CARD                                                                  1\n"
    ∷ ascii "    1  01                                                              \n"
    ∷ ascii "    2  11                                                              \n"
    ∷ replicate 21 blank_row

book_a_lem : printed card_a 2 2 1 ≡ page_a
unfolding page_of no_page aligned last_digits decimal sign_of
book_a_lem = refl

-- a card without lines
abbrev empty_page : List Bytes
empty_page = ascii "CARD                                                                  1\n" ∷ replicate 23 blank_row

no_line : printed [] 0 2 1 ≡ empty_page
unfolding page_of no_page aligned last_digits decimal
no_line = refl

-- 22 lines fill a page up to its row 23, and row 24 is blank
abbrev bits : ℕ → Bytes
bits n = replicate n 2

record Rows : Type 0 where
  last_of_22 : get_or (page_of (bits 22) 22 1 1) 22 [] ≡ ascii "   22  1                                                               \n"
  row_24 : get_or (page_of (bits 22) 22 1 1) 23 [] ≡ blank_row
  last_of_23 : get_or (page_of (bits 23) 23 1 2) 1 [] ≡ ascii "   23  1                                                               \n"
  row_24_of_23 : get_or (page_of (bits 23) 23 1 1) 23 [] ≡ blank_row
  -- page 3 of 45 lines has one line
  last_of_45 : get_or (page_of (bits 45) 45 1 3) 1 [] ≡ ascii "   45  1                                                               \n"
  behind_45 : get_or (page_of (bits 45) 45 1 3) 2 [] ≡ blank_row
  -- the last of 99,999 lines stands in row 10 of page 4,546
  last_of_all : get_or (page_of [] 99999 0 4546) 9 [] ≡ ascii "99999                                                                  \n"
  behind_all : get_or (page_of [] 99999 0 4546) 10 [] ≡ blank_row
  head_of_all : get_or (page_of [] 99999 0 4546) 0 [] ≡ ascii "CARD                                                               4546\n"

rows : Rows
unfolding page_of aligned last_digits decimal sign_of
rows =
    record {
      last_of_22 = refl;
      row_24 = refl;
      last_of_23 = refl;
      row_24_of_23 = refl;
      last_of_45 = refl;
      behind_45 = refl;
      last_of_all = refl;
      behind_all = refl;
      head_of_all = refl;
    }

-- ---- refusals
record Refused : Type 0 where
  page_0 : no_page card_a 2 2 0 ≡ true
  page_beyond : no_page card_a 2 2 2 ≡ true
  table_short : no_page (1 ∷ 2 ∷ 2 ∷ []) 2 2 1 ≡ true
  byte_3 : no_page (1 ∷ 2 ∷ 2 ∷ 3 ∷ []) 2 2 1 ≡ true
  -- "in any line": on page 1 too, where the byte stands on page 2
  byte_on_page_2 : no_page (bits 22 ++ (3 ∷ [])) 23 1 1 ≡ true
  too_many : no_page [] 100000 0 1 ≡ true
  -- two of three flags, and no line whole
  unfinished : no_page (0 ∷ 0 ∷ []) 1 3 1 ≡ true

refused : Refused
unfolding no_page
refused = record { page_0 = refl; page_beyond = refl; table_short = refl; byte_3 = refl; byte_on_page_2 = refl; too_many = refl; unfinished = refl }

-- bytes after the lines do not count, and without flags every line fits
record Shown : Type 0 where
  page_1 : no_page card_a 2 2 1 ≡ false
  bytes_after : no_page (1 ∷ 2 ∷ 2 ∷ 2 ∷ 9 ∷ []) 2 2 1 ≡ false
  no_line : no_page (9 ∷ []) 0 2 1 ≡ false
  no_flag : no_page [] 1 0 1 ≡ false
  last_page : no_page [] 99999 0 4546 ≡ false

shown : Shown
unfolding no_page
shown = record { page_1 = refl; bytes_after = refl; no_line = refl; no_flag = refl; last_page = refl }

-- "with a page of zero bytes"
refused_page : printed card_a 2 2 2 ≡ replicate 24 (replicate 72 0)
unfolding no_page
refused_page = refl
