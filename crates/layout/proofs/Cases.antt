-- What texts open, by computation: the settled readings of the layout, each with its rows.
use Prim.Native.Nat.{ℕ, zero, suc}
use Prim.Native.String.{String}
use mathlib.Core.Path.{◌≡◌, refl}
use mathlib.Core.List.{List, [], ◌∷◌, ◌++◌}
use lib.IntN.{pos, negsuc}
use lib.ListN.{replicate}
use Rattle.qbf.specs.Formula.{free, exists, forall, paper, place_of}
use Rattle.layout.specs.Words.{Bytes, ascii, split, same, digits, number, closed, inside}
use Rattle.layout.specs.Forms.{items, consed, form_from, form_of}
use Rattle.layout.specs.Opening.{Opened, refused, opened, variable, read_lines, open_text}

-- a text and what it opens
pub record Row : Type 0 where
  text : Bytes
  result : Opened

abbrev results : List Row → List Opened
results [] = []
results (r ∷ rs) = open_text paper r.text ∷ results rs

abbrev expected : List Row → List Opened
expected [] = []
expected (r ∷ rs) = r.result ∷ expected rs

-- the whole text is refused with k at line n
abbrev whole : String → ℕ → ℕ → Row
whole s k n = record { text = ascii s; result = refused k n }

-- the text after the lines of the book and of two flags
abbrev third : String → ℕ → ℕ → Row
third s k n = record { text = ascii "(book 1)\n(flags 1 2)\n" ++ ascii s; result = refused k n }

abbrev repeated : ℕ → Bytes → Bytes
repeated zero s = []
repeated (suc n) s = s ++ repeated n s

-- as many rules as may stand, then the rest of a text
abbrev full : String → ℕ → ℕ → Row
full s k n = record { text = ascii "(book 1)\n(flags 1)\n" ++ repeated 255 (ascii "(rule 1)\n") ++ ascii s; result = refused k n }

-- a text of 9 bytes and so many more
abbrev long : ℕ → ℕ → ℕ → Row
long more k n = record { text = ascii "(book 2)\n" ++ replicate more 48; result = refused k n }

-- 1: "line by line 1, 2, then as the calls" holds for each line by itself, and the layout of the whole line comes first
abbrev by_line_rows : List Row
by_line_rows =
    third "(rule 1)\n(rule 3)\n(rule\n" 5 4
    ∷ whole "(book 1)\n(flags 41 01)\n(end)\n" 1 2
    ∷ whole "(book 1)\n(book 2)\n" 1 2
    ∷ third "(flags 41)\n(end)\n" 1 3
    ∷ []

-- 2: what is missing is the line after the last
abbrev missing_rows : List Row
missing_rows =
    whole "" 1 1
    ∷ whole "\n" 1 1
    ∷ whole "(book 1)\n" 1 2
    ∷ third "" 1 3
    ∷ third "(rule 1)\n" 1 4
    ∷ []

-- 3: a last line without byte 10 comes before its content
abbrev unended_rows : List Row
unended_rows =
    whole "(book 2)" 1 1
    ∷ third "(rule 41)" 1 3
    ∷ third "(end)" 1 3
    ∷ []

-- 4: nothing after the end
abbrev after_end_rows : List Row
after_end_rows =
    third "(end)\nx" 1 4
    ∷ third "(end)\n\n" 1 4
    ∷ third "(end)\n(end)\n" 1 4
    ∷ third "(end)\r\n" 1 3
    ∷ []

-- 5: the order of the lines
abbrev order_rows : List Row
order_rows =
    whole "(flags 1)\n" 1 1
    ∷ whole "(book 1)\n(exists 1)\n" 1 2
    ∷ whole "(book 1)\n(end)\n" 1 2
    ∷ third "(exists)\n(end)\n" 1 3
    ∷ third "(forall)\n(end)\n" 1 3
    ∷ third "(flags 3)\n(end)\n" 1 3
    ∷ third "(book 1)\n(end)\n" 1 3
    ∷ third "(rule 1)\n(exists 3)\n(end)\n" 1 4
    ∷ third "\n(end)\n" 1 3
    ∷ third "(rule\t1)\n" 1 3
    ∷ third "(RULE 1)\n" 1 3
    ∷ third "(rules 1)\n" 1 3
    ∷ third "(end 1)\n" 1 3
    ∷ []

-- 6: one space between items, brackets in pairs, signs only in rules
abbrev spelling_rows : List Row
spelling_rows =
    third "(rule)\n" 7 3
    ∷ third "(rule )\n" 1 3
    ∷ third "(rule 1 )\n" 1 3
    ∷ third "(rule  1)\n" 1 3
    ∷ third "( rule 1)\n" 1 3
    ∷ third " (rule 1)\n" 1 3
    ∷ third "(rule 1) \n" 1 3
    ∷ third "(rule1)\n" 1 3
    ∷ third "(rule 1\n" 1 3
    ∷ third "rule 1)\n" 1 3
    ∷ third "(rule 1))\n" 1 3
    ∷ third "((rule 1)\n" 1 3
    ∷ third "(rule (no 1)1)\n" 1 3
    ∷ third "(rule (no))\n" 1 3
    ∷ third "(rule (no )\n" 1 3
    ∷ third "(rule (no 1)\n" 1 3
    ∷ third "(rule (no 1 2))\n" 1 3
    ∷ third "(rule (no (no 1)))\n" 1 3
    ∷ third "(rule (1))\n" 1 3
    ∷ third "(rule -1)\n" 1 3
    ∷ third "(rule +1)\n" 1 3
    ∷ third "(exists (no 3))\n" 1 3
    ∷ whole "(book 1)\n(flags (no 1))\n" 1 2
    ∷ []

-- 7: numbers, judged before they are narrowed
abbrev numbers_rows : List Row
numbers_rows =
    third "(rule 0)\n" 3 3
    ∷ third "(rule (no 0))\n" 3 3
    ∷ third "(exists 0)\n" 3 3
    ∷ third "(rule 00)\n" 1 3
    ∷ third "(rule 01)\n" 1 3
    ∷ third "(rule (no 01))\n" 1 3
    ∷ third "(rule 100000)\n" 1 3
    ∷ third "(rule 41)\n" 3 3
    ∷ third "(rule (no 41))\n" 3 3
    ∷ third "(rule 32768)\n" 3 3
    ∷ third "(rule 65537)\n" 3 3
    ∷ third "(rule (no 65537))\n" 3 3
    ∷ third "(rule 99999)\n" 3 3
    ∷ third "(exists 65539)\n" 3 3
    ∷ third "(rule 40)\n" 5 3
    ∷ []

-- 8: the edition
abbrev editions_rows : List Row
editions_rows =
    whole "(book 0)\n" 2 1
    ∷ whole "(book 2)\n" 2 1
    ∷ whole "(book 99999)\n" 2 1
    ∷ whole "(book 65537)\n" 2 1
    ∷ whole "(book 01)\n" 1 1
    ∷ whole "(book)\n" 1 1
    ∷ whole "(book 1 1)\n" 1 1
    ∷ whole "(book (no 1))\n" 1 1
    ∷ []

-- 9: the order of the refusals of a line
abbrev refusals_rows : List Row
refusals_rows =
    full "(rule)\n" 20 258
    ∷ full "(rule 01)\n" 1 258
    ∷ full "(end)\nx" 1 259
    ∷ third "(rule 0 1 1 1 1 1 1 1 1 1 1 1 1 1 1 1 1)\n" 7 3
    ∷ third "(rule 1 1 1 1 1 1 1 1 1 1 1 1 1 1 1 1)\n" 6 3
    ∷ third "(rule 1 1 41)\n" 6 3
    ∷ third "(rule 1 (no 1))\n" 6 3
    ∷ third "(rule 41 2 1 1)\n" 3 3
    ∷ third "(rule 3 1 1)\n" 5 3
    ∷ third "(exists 3 3 41)\n" 4 3
    ∷ third "(exists 41 3 3)\n" 3 3
    ∷ third "(exists 3)\n(forall 3)\n" 4 4
    ∷ third "(exists 1)\n" 4 3
    ∷ []

-- 10: 65,536 bytes are judged by their content
abbrev lengths_rows : List Row
lengths_rows =
    long 65527 2 1
    ∷ long 65528 9 0
    ∷ []

-- the rows of each reading, proved together
pub record Readings : Type 0 where
  by_line : results by_line_rows ≡ expected by_line_rows
  missing : results missing_rows ≡ expected missing_rows
  unended : results unended_rows ≡ expected unended_rows
  after_end : results after_end_rows ≡ expected after_end_rows
  order : results order_rows ≡ expected order_rows
  spelling : results spelling_rows ≡ expected spelling_rows
  numbers : results numbers_rows ≡ expected numbers_rows
  editions : results editions_rows ≡ expected editions_rows
  refusals : results refusals_rows ≡ expected refusals_rows
  lengths : results lengths_rows ≡ expected lengths_rows

pub readings : Readings
unfolding split same digits number items consed closed inside form_from form_of read_lines open_text place_of
readings =
    record {
      by_line = refl;
      missing = refl;
      unended = refl;
      after_end = refl;
      order = refl;
      spelling = refl;
      numbers = refl;
      editions = refl;
      refusals = refl;
      lengths = refl;
    }

-- ---- texts that open
abbrev book_a : String
book_a = "(book 1)\n(flags 1 2)\n(exists 3)\n(forall 4)\n(rule 3 4 (no 1))\n(rule (no 3) (no 4) 2)\n(rule 1 2)\n(end)\n"

-- a rule is held in place order
opens_A : open_text paper (ascii book_a)
    ≡ opened (record {
      limits = paper;
      prefix = variable free 1 ∷ variable free 2 ∷ variable exists 3 ∷ variable forall 4 ∷ [];
      clauses = (negsuc 0 ∷ pos 3 ∷ pos 4 ∷ []) ∷ (pos 2 ∷ negsuc 2 ∷ negsuc 3 ∷ []) ∷ (pos 1 ∷ pos 2 ∷ []) ∷ [];
    })
unfolding split same digits number items consed closed inside form_from form_of read_lines open_text place_of
opens_A = refl

-- no flag, and neighbouring blocks of one quantifier
opens_blocks : open_text paper (ascii "(book 1)\n(flags)\n(exists 40)\n(exists 2 1)\n(forall 3)\n(end)\n")
    ≡ opened (record { limits = paper; prefix = variable exists 40 ∷ variable exists 2 ∷ variable exists 1 ∷ variable forall 3 ∷ []; clauses = [] })
unfolding split same digits number items consed closed inside form_from form_of read_lines open_text place_of
opens_blocks = refl
