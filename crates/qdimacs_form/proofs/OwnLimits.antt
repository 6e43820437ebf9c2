-- What texts in QDIMACS open under limits of their own, by computation. Paper 02, wish 8: 33 "in QDIMACS at the end of the text, before 30".
use Prim.Native.Nat.{ℕ}
use Prim.Native.String.{String}
use mathlib.Core.Path.{◌≡◌, refl}
use mathlib.Core.List.{List, [], ◌∷◌}
use Rattle.qbf.specs.Formula.{Limits, capped, place_of}
use Rattle.layout.specs.Words.{ascii, split, same, digits, number}
use Rattle.layout.specs.Forms.{consed}
use Rattle.layout.specs.Opening.{Opened, refused}
use Rattle.qdimacs_form.specs.Lines.{filled, edged, literal, literals, line_from, line_of}
use Rattle.qdimacs_form.specs.Opening.{read_lines, read_qdimacs, open_qdimacs}

-- a text, under limits of 50 numbers and 300 rules, and its refusal
pub record Row : Type 0 where
  text : String
  result : Opened

abbrev results : List Row → List Opened
results [] = []
results (r ∷ rs) = open_qdimacs (capped 50 300) (ascii r.text) ∷ results rs

abbrev expected : List Row → List Opened
expected [] = []
expected (r ∷ rs) = r.result ∷ expected rs

abbrev row : String → ℕ → ℕ → Row
row s k n = record { text = s; result = refused k n }

-- after the last line, before 30 and after each line's own
abbrev crowded_rows : List Row
crowded_rows =
    row "p cnf 41 0\n" 33 2
    ∷ row "p cnf 41 1\n" 33 2
    ∷ row "p cnf 41 1\n41 0\n" 33 3
    ∷ row "p cnf 41 1\n42 0\n" 5 2
    ∷ row "p cnf 42 0\ne 42 0\nc\n" 33 4
    ∷ []

-- a quantified variable is no flag; the header's count by the own limit
abbrev quantified_rows : List Row
quantified_rows =
    row "p cnf 41 1\ne 7 0\n" 30 3
    ∷ row "p cnf 51 0\n" 3 1
    ∷ []

pub record Readings : Type 0 where
  crowded : results crowded_rows ≡ expected crowded_rows
  quantified : results quantified_rows ≡ expected quantified_rows

pub readings : Readings
unfolding split same digits number consed filled edged literal literals line_from line_of read_lines read_qdimacs open_qdimacs place_of
readings = record { crowded = refl; quantified = refl }
