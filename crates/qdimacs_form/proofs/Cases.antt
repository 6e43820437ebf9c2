-- What QDIMACS texts open, by computation: the settled readings of wish 1, each with its rows.
use Prim.Native.Nat.{ℕ, zero, suc}
use Prim.Native.String.{String}
use mathlib.Core.Path.{◌≡◌, refl}
use mathlib.Core.List.{List, [], ◌∷◌, ◌++◌}
use lib.IntN.{pos, negsuc}
use lib.ListN.{replicate}
use Rattle.qbf.specs.Formula.{free, exists, forall, Prefix, Clause, paper, place_of}
use Rattle.layout.specs.Words.{Bytes, ascii, split, same, digits, number}
use Rattle.layout.specs.Forms.{consed}
use Rattle.layout.specs.Opening.{Opened, refused, opened, variable}
use Rattle.qdimacs_form.specs.Lines.{filled, edged, literal, literals, line_from, line_of}
use Rattle.qdimacs_form.specs.Opening.{read_lines, read_qdimacs, open_qdimacs}

-- a text and what it opens
pub record Row : Type 0 where
  text : Bytes
  result : Opened

abbrev results : List Row → List Opened
results [] = []
results (r ∷ rs) = open_qdimacs paper r.text ∷ results rs

abbrev expected : List Row → List Opened
expected [] = []
expected (r ∷ rs) = r.result ∷ expected rs

abbrev whole : String → ℕ → ℕ → Row
whole s k n = record { text = ascii s; result = refused k n }

-- a text that opens
abbrev opens : String → Prefix → List Clause → Row
opens s D R = record { text = ascii s; result = opened (record { limits = paper; prefix = D; clauses = R }) }

-- the text after a header of two variables and one clause
abbrev second : String → ℕ → ℕ → Row
second s k n = record { text = ascii "p cnf 2 1\n" ++ ascii s; result = refused k n }

abbrev repeated : ℕ → Bytes → Bytes
repeated zero s = []
repeated (suc n) s = s ++ repeated n s

abbrev full : String → ℕ → ℕ → Row
full s k n = record { text = ascii "p cnf 1 256\n" ++ repeated 255 (ascii "1 0\n") ++ ascii s; result = refused k n }

-- a text of 10 bytes and so many more
abbrev long : ℕ → ℕ → ℕ → Row
long more k n = record { text = ascii "p cnf 41 0" ++ (10 ∷ replicate more 48); result = refused k n }

-- one clause a line
abbrev clause_rows : List Row
clause_rows =
    second "1 2\n0\n" 1 2
    ∷ second "1 0 2 0\n" 1 2
    ∷ second "1  0\n2 0 \n" 1 3
    ∷ second "0\n" 7 2
    ∷ second "1 2 1 0\n" 6 2
    ∷ second "1 -1 0\n" 6 2
    ∷ second "3 0\n" 5 2
    ∷ second "41 0\n" 3 2
    ∷ second "3 1 1 0\n" 5 2
    ∷ second "1 1 1 1 1 1 1 1 1 1 1 1 1 1 1 1 1 0\n" 7 2
    ∷ []

-- every line ends with byte 10, a comment too; no empty line, no tab, no byte 13
abbrev ended_rows : List Row
ended_rows =
    second "1 0" 1 2
    ∷ second "c" 1 2
    ∷ second "1 0\nc" 1 3
    ∷ second "\n1 0\n" 1 2
    ∷ second "1\t0\n" 1 2
    ∷ second "1 0\r\n" 1 2
    ∷ second " 1 0\n" 1 2
    ∷ second "1 0 \n" 1 2
    ∷ second "+1 0\n" 1 2
    ∷ second "--1 0\n" 1 2
    ∷ second "- 1 0\n" 1 2
    ∷ []

-- "begins with c": the first byte; comments stand before the header and after the last clause too
abbrev comment_rows : List Row
comment_rows =
    opens "c p\ncnf\np cnf 1 1\ncc\n1 0\nc 7 8\n" (variable free 1 ∷ []) ((pos 1 ∷ []) ∷ [])
    ∷ second " c\n" 1 2
    ∷ []

-- `0` is the terminator only; `-0` is our `(no 0)`
abbrev zero_rows : List Row
zero_rows =
    second "1 0 2\n" 1 2
    ∷ second "e 1 0 2 0\n" 1 2
    ∷ second "0 0\n" 1 2
    ∷ second "1 2\n" 1 2
    ∷ second "e 1\n" 1 2
    ∷ second "-0 0\n" 3 2
    ∷ second "1 -0\n" 1 2
    ∷ second "01 0\n" 1 2
    ∷ second "-01 0\n" 1 2
    ∷ []

-- the header: runs of spaces, our digits, its count of variables judged at once and that of clauses at the end
abbrev header_rows : List Row
header_rows =
    opens "p  cnf   1 0\n" (variable free 1 ∷ []) []
    ∷ opens "p cnf 0 0\n" [] []
    ∷ whole "p cnf 100000 0\n" 1 1
    ∷ whole "p cnf 1 100000\n" 1 1
    ∷ whole "p cnf -1 0\n" 1 1
    ∷ whole "p cnf 1\n" 1 1
    ∷ whole "p cnf 1 0 0\n" 1 1
    ∷ whole "p dnf 1 0\n" 1 1
    ∷ whole " p cnf 1 0\n" 1 1
    ∷ whole "p cnf 41 0\n" 3 1
    ∷ whole "p cnf 99999 0\n" 3 1
    ∷ whole "p cnf 40 99999\n" 30 2
    ∷ whole "" 1 1
    ∷ whole "c\n" 1 2
    ∷ whole "1 0\n" 1 1
    ∷ whole "e 1 0\n" 1 1
    ∷ second "p cnf 2 1\n" 1 2
    ∷ []

-- quantifier lines: each number 3, 5, 4; at least one; none after a clause
abbrev group_rows : List Row
group_rows =
    second "e 3 0\n" 5 2
    ∷ second "e 41 0\n" 3 2
    ∷ second "e 1 1 3 0\n" 4 2
    ∷ second "e 1 0\na 1 0\n" 4 3
    ∷ second "e 0\n" 1 2
    ∷ second "a 0\n" 1 2
    ∷ second "e -1 0\n" 1 2
    ∷ second "e -0 0\n" 1 2
    ∷ second "1 0\ne 1 0\n" 1 3
    ∷ second "e1 0\n" 1 2
    ∷ []

-- the 256th clause line is 20 before 7
abbrev many_rows : List Row
many_rows =
    full "0\n" 20 257
    ∷ full "1 0 0\n" 1 257
    ∷ full "" 30 257
    ∷ []

-- 30 at the line after the last, comments counted; a surplus clause is not 30 at its line
abbrev count_rows : List Row
count_rows =
    whole "p cnf 1 1\nc\n" 30 3
    ∷ whole "p cnf 1 0\n1 0\n2 0\n" 5 3
    ∷ whole "p cnf 1 0\n1 0\n" 30 3
    ∷ []

-- flags stand first in place order though they are found last; quantifier lines keep their order, and may end in a
abbrev place_rows : List Row
place_rows =
    opens "p cnf 5 2\na 4 0\ne 2 0\ne 5 0\n5 -3 1 0\n-4 2 0\n"
    (variable free 1 ∷ variable free 3 ∷ variable forall 4 ∷ variable exists 2 ∷ variable exists 5 ∷ [])
    ((pos 1 ∷ negsuc 2 ∷ pos 5 ∷ []) ∷ (negsuc 3 ∷ pos 2 ∷ []) ∷ [])
    ∷ opens "p cnf 2 0\ne 2 0\na 1 0\n" (variable exists 2 ∷ variable forall 1 ∷ []) []
    ∷ []

-- 65,536 bytes are judged by their content
abbrev lengths_rows : List Row
lengths_rows =
    long 65525 3 1
    ∷ long 65526 9 0
    ∷ []

-- the rows of each reading, proved together
pub record Readings : Type 0 where
  clauses : results clause_rows ≡ expected clause_rows
  ended : results ended_rows ≡ expected ended_rows
  comments : results comment_rows ≡ expected comment_rows
  zeros : results zero_rows ≡ expected zero_rows
  headers : results header_rows ≡ expected header_rows
  groups : results group_rows ≡ expected group_rows
  many : results many_rows ≡ expected many_rows
  counts : results count_rows ≡ expected count_rows
  places : results place_rows ≡ expected place_rows
  lengths : results lengths_rows ≡ expected lengths_rows

pub readings : Readings
unfolding split same digits number consed filled edged literal literals line_from line_of read_lines read_qdimacs open_qdimacs place_of
readings =
    record { clauses = refl; ended = refl; comments = refl; zeros = refl; headers = refl; groups = refl; many = refl; counts = refl; places = refl; lengths = refl }
