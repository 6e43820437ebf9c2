-- What texts of both editions open and convert to, by computation.
use Prim.Native.Nat.{ℕ, zero, suc}
use Prim.Native.String.{String}
use mathlib.Core.Path.{◌≡◌, refl}
use mathlib.Core.List.{List, [], ◌∷◌, ◌++◌}
use lib.IntN.{pos, negsuc}
use Rattle.qbf.specs.Formula.{Clause, Prefix, free, paper, place_of}
use Rattle.layout.specs.Words.{Bytes, ascii, split, same, digits, number, closed, inside}
use Rattle.layout.specs.Forms.{consed, items, form_from}
use Rattle.layout.specs.Opening.{Opened, refused, opened, variable}
use Rattle.layout.specs.Output.{last_digits, decimal}
use Rattle.editions.specs.Lines.{rule_from, line_from, line_of}
use Rattle.editions.specs.Opening.{Editions, both, only, read_lines, read_editions, open_editions}
use Rattle.editions.specs.Converting.{joined, is_rule, tag_text, insert_tag, remove_tag, has_tag, each_line, lost_from, tagged_text, untagged_text, converted, to_tagged, to_untagged}
use Rattle.editions.specs.Converting as converting

-- ---- opening
pub record Row : Type 0 where
  text : Bytes
  result : Opened

abbrev results : Editions → List Row → List Opened
results a [] = []
results a (r ∷ rs) = open_editions a paper r.text ∷ results a rs

abbrev expected : List Row → List Opened
expected [] = []
expected (r ∷ rs) = r.result ∷ expected rs

-- the text after the lines of the book and of four flags
abbrev first : String → ℕ → ℕ → Row
first s k n = record { text = ascii "(book 1)\n(flags 1 2 3 4)\n" ++ ascii s; result = refused k n }

abbrev second : String → ℕ → ℕ → Row
second s k n = record { text = ascii "(book 2)\n(flags 1 2 3 4)\n" ++ ascii s; result = refused k n }

abbrev flags : Prefix
flags = variable free 1 ∷ variable free 2 ∷ variable free 3 ∷ variable free 4 ∷ []

abbrev opens : String → String → List Clause → Row
opens h s R = record { text = ascii h ++ ascii "(flags 1 2 3 4)\n" ++ ascii s; result = opened (record { limits = paper; prefix = flags; clauses = R }) }

abbrev repeated : ℕ → Bytes → Bytes
repeated zero s = []
repeated (suc n) s = s ++ repeated n s

-- so many rules, then the rest of a text
abbrev after : ℕ → String → ℕ → ℕ → Row
after m s k n = record { text = ascii "(book 1)\n(flags 1 2 3)\n" ++ repeated m (ascii "(rule 1)\n") ++ ascii s; result = refused k n }

abbrev after_tagged : String → ℕ → ℕ → Row
after_tagged s k n = record { text = ascii "(book 2)\n(flags 1 2 3)\n" ++ repeated 255 (ascii "(rule (tag 7) 1)\n") ++ ascii s; result = refused k n }

-- exactly one: 7, then 20, then each 3, 5, 6; it stands among the rules
abbrev one_rows : List Row
one_rows =
    first "(one)\n" 7 3
    ∷ first "(one 1)\n" 7 3
    ∷ first "(one )\n" 1 3
    ∷ first "(one 1 1 1 1 1 1 1 1 1 1 1 1 1 1 1 1 1)\n" 7 3
    ∷ first "(one 41 1)\n" 3 3
    ∷ first "(one 1 (no 1))\n" 6 3
    ∷ first "(one 1 9)\n" 5 3
    ∷ first "(one 1 2)\n(exists 5)\n" 1 4
    ∷ first "(one (tag 1) 1 2)\n" 1 3
    ∷ first "(ones 1 2)\n" 1 3
    ∷ after 252 "(one 1 2 3)\n" 20 255
    ∷ after 251 "(one 1 2 3)\n(rule 1)\n" 20 255
    ∷ after 252 "(one 1)\n" 7 255
    ∷ []

-- the tag: first, once, 1 to 65,535; 20, 39, 7
abbrev tag_rows : List Row
tag_rows =
    first "(rule (tag 5) 1)\n" 1 3
    ∷ second "(rule 1)\n" 1 3
    ∷ second "(rule)\n" 1 3
    ∷ second "(rule 1 (tag 5))\n" 1 3
    ∷ second "(rule (tag 5) (tag 5) 1)\n" 1 3
    ∷ second "(rule (tag 5)1)\n" 1 3
    ∷ second "(rule (tag  5) 1)\n" 1 3
    ∷ second "(rule (tag 5) )\n" 1 3
    ∷ second "(rule (tag 05) 1)\n" 1 3
    ∷ second "(rule (tag 100000) 1)\n" 1 3
    ∷ second "(rule (tag) 1)\n" 1 3
    ∷ second "(rule (tag (no 5)) 1)\n" 1 3
    ∷ second "(rule (tag 5))\n" 7 3
    ∷ second "(rule (tag 0))\n" 39 3
    ∷ second "(rule (tag 65536) 1)\n" 39 3
    ∷ second "(rule (tag 99999) 1)\n" 39 3
    ∷ second "(rule (tag 65535) 9)\n" 5 3
    ∷ second "(one (tag 1) 1 2)\n" 1 3
    ∷ after_tagged "(rule (tag 0))\n" 20 258
    ∷ after_tagged "(rule)\n" 1 258
    ∷ []

-- both editions, and tags that repeat
abbrev open_rows : List Row
open_rows =
    opens "(book 1)\n" "(rule 3 (no 1))\n(one 2 1)\n(end)\n" ((negsuc 0 ∷ pos 3 ∷ []) ∷ (pos 1 ∷ pos 2 ∷ []) ∷ (negsuc 0 ∷ negsuc 1 ∷ []) ∷ [])
    ∷ opens "(book 2)\n" "(rule (tag 9) 3 (no 1))\n(rule (tag 9) 4)\n(one 2 1)\n(end)\n" ((negsuc 0 ∷ pos 3 ∷ []) ∷ (pos 4 ∷ []) ∷ (pos 1 ∷ pos 2 ∷ []) ∷ (negsuc 0 ∷ negsuc 1 ∷ []) ∷ [])
    ∷ record { text = ascii "(book 3)\n(flags)\n(end)\n"; result = refused 2 1 }
    ∷ record { text = ascii "(book 0)\n(flags)\n(end)\n"; result = refused 2 1 }
    ∷ []

pub record Readings : Type 0 where
  ones : results both one_rows ≡ expected one_rows
  tags : results both tag_rows ≡ expected tag_rows
  opening : results both open_rows ≡ expected open_rows
  first_only : results (only 1) (second "" 2 1 ∷ first "" 1 3 ∷ []) ≡ refused 2 1 ∷ refused 1 3 ∷ []

pub readings : Readings
unfolding split same digits number items consed closed inside form_from rule_from line_from line_of read_lines read_editions open_editions place_of
readings = record { ones = refl; tags = refl; opening = refl; first_only = refl }

-- ---- converting
abbrev plain : String
plain = "(book 1)\n(flags 1 2)\n(exists 3)\n(rule 3 (no 1))\n(one 2 1)\n(rule 2 1)\n(end)\n"

abbrev tagged : String
tagged = "(book 2)\n(flags 1 2)\n(exists 3)\n(rule (tag 1) 3 (no 1))\n(one 2 1)\n(rule (tag 2) 2 1)\n(end)\n"

-- each conversion, by what it shows
pub record Conversions : Type 0 where
  tags_in : to_tagged paper 91 (ascii plain) ≡ converted (ascii tagged)
  tags_in_short : to_tagged paper 90 (ascii plain) ≡ converting.refused 31 0
  tags_in_wrong : to_tagged paper 100 (ascii tagged) ≡ converting.refused 2 1
  tags_in_refused : to_tagged paper 100 (ascii "(book 1)\n(flags 1)\n(rule 2)\n(end)\n") ≡ converting.refused 5 3
  tags_out : to_untagged paper 75 (ascii tagged) ≡ converted (ascii plain)
  tags_out_short : to_untagged paper 74 (ascii tagged) ≡ converting.refused 31 0
  tags_out_wrong : to_untagged paper 100 (ascii plain) ≡ converting.refused 2 1
  -- the first line that would lose its tag, after the rest of the text, before 31
  lost : to_untagged paper 100 (ascii "(book 2)\n(flags 1)\n(rule (tag 1) 1)\n(rule (tag 3) 1)\n(rule (tag 4) 1)\n(end)\n") ≡ converting.refused 40 4
  lost_after : to_untagged paper 100 (ascii "(book 2)\n(flags 1)\n(rule (tag 2) 1)\n(end)\nx") ≡ converting.refused 1 5
  lost_before : to_untagged paper 9 (ascii "(book 2)\n(flags 1)\n(rule (tag 2) 1)\n(end)\n") ≡ converting.refused 40 3

pub conversions : Conversions
unfolding split same digits number items consed closed inside form_from rule_from line_from line_of read_lines read_editions open_editions place_of joined is_rule tag_text insert_tag remove_tag has_tag each_line lost_from tagged_text untagged_text to_tagged to_untagged decimal last_digits
conversions =
    record {
      tags_in = refl;
      tags_in_short = refl;
      tags_in_wrong = refl;
      tags_in_refused = refl;
      tags_out = refl;
      tags_out_short = refl;
      tags_out_wrong = refl;
      lost = refl;
      lost_after = refl;
      lost_before = refl;
    }
