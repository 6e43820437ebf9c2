-- What texts open under limits of their own, by computation. Paper 02, wish 8: "A book is opened with its own limits for numbers and rules, capped at these";
-- "Declaring a 41st flag is 33, checked after 4".
use Prim.Native.Nat.{ℕ}
use Prim.Native.String.{String}
use mathlib.Core.Path.{◌≡◌, refl}
use mathlib.Core.List.{List, [], ◌∷◌, ◌++◌}
use Rattle.qbf.specs.Formula.{Limits, capped, free, place_of}
use Rattle.layout.specs.Words.{Bytes, ascii, split, same, digits, number, closed, inside}
use Rattle.layout.specs.Forms.{items, consed, form_from, form_of}
use Rattle.layout.specs.Opening.{Opened, refused, opened, variable, read_lines, open_text}

-- a text, the limits that it is opened with, and what it opens
pub record Row : Type 0 where
  limits : Limits
  text : Bytes
  result : Opened

abbrev results : List Row → List Opened
results [] = []
results (r ∷ rs) = open_text r.limits r.text ∷ results rs

abbrev expected : List Row → List Opened
expected [] = []
expected (r ∷ rs) = r.result ∷ expected rs

-- as many flags as there may be, then the rest of a text
abbrev forty : ℕ → String → ℕ → ℕ → Row
forty n s k m =
    record {
      limits = capped n 300;
      text = ascii "(book 1)\n(flags 1 2 3 4 5 6 7 8 9 10 11 12 13 14 15 16 17 18 19 20 21 22 23 24 25 26 27 28 29 30 31 32 33 34 35 36 37 38 39 40" ++ ascii s;
      result = refused k m;
    }

-- the text after the book's line
abbrev second : ℕ → ℕ → String → ℕ → ℕ → Row
second n m s k l = record { limits = capped n m; text = ascii "(book 1)\n" ++ ascii s; result = refused k l }

-- number by number 3, 4, 33: where a 41st flag is new it is 33, whatever follows
abbrev crowded_rows : List Row
crowded_rows =
    forty 50 " 41)\n(end)\n" 33 2
    ∷ forty 50 " 7)\n(end)\n" 4 2
    ∷ forty 50 " 51)\n(end)\n" 3 2
    ∷ forty 50 " 41 7)\n(end)\n" 33 2
    ∷ forty 50 " 7 41)\n(end)\n" 4 2
    ∷ []

-- a quantified variable is none of them
abbrev quantified_rows : List Row
quantified_rows =
    forty 50 ")\n(exists 41)\n(forall 42 42)\n" 4 4
    ∷ forty 50 ")\n(exists 41)\n(rule 51)\n" 3 4
    ∷ []

-- under the program's limits it is 3 or 4 first
abbrev program_rows : List Row
program_rows =
    forty 40 " 41)\n(end)\n" 3 2
    ∷ forty 40 " 40)\n(end)\n" 4 2
    ∷ []

-- own limits for numbers and rules, 0 too
abbrev own_rows : List Row
own_rows =
    second 3 2 "(flags 4)\n" 3 2
    ∷ second 3 2 "(flags 1)\n(rule 1)\n(rule 1)\n(rule 1)\n" 20 5
    ∷ second 0 0 "(flags 1)\n" 3 2
    ∷ second 0 0 "(flags)\n(rule)\n" 20 3
    ∷ []

-- "capped at these"
abbrev capped_rows : List Row
capped_rows =
    second 2000 5000 "(flags 1001)\n" 3 2
    ∷ second 2000 5000 "(flags 1000)\n(rule 1001)\n" 3 3
    ∷ []

pub record Readings : Type 0 where
  crowded : results crowded_rows ≡ expected crowded_rows
  quantified : results quantified_rows ≡ expected quantified_rows
  program : results program_rows ≡ expected program_rows
  own : results own_rows ≡ expected own_rows
  capped : results capped_rows ≡ expected capped_rows

pub readings : Readings
unfolding split same digits number items consed closed inside form_from form_of read_lines open_text place_of
readings = record { crowded = refl; quantified = refl; program = refl; own = refl; capped = refl }

opens_high : open_text (capped 2000 5000) (ascii "(book 1)\n(flags 1000)\n(end)\n") ≡ opened (record { limits = capped 1000 4000; prefix = variable free 1000 ∷ []; clauses = [] })
unfolding split same digits number items consed closed inside form_from form_of read_lines open_text place_of
opens_high = refl
