-- The lines of an exactly-one form and of a closest reading, and the answers of both, by computation. Paper 02, wishes 10 and 9.
use Prim.Native.String.{String}
use mathlib.Core.Path.{◌≡◌, refl}
use mathlib.Core.List.{List, [], ◌∷◌}
use mathlib.Core.Option.{Option, none, some}
use lib.IntN.{pos, negsuc}
use Rattle.qbf.specs.Formula.{paper, place_of}
use Rattle.qbf.specs.Calls.{Call, one, closest, step}
use Rattle.qbf.specs.Runs.{fresh}
use Rattle.layout.specs.Words.{Bytes, ascii, split, same, digits, number, closed, inside}
use Rattle.layout.specs.Forms.{items, consed, form_from, form_of}
use Rattle.layout.specs.Endings.{number_up_to, ended}
use Rattle.layout.specs.Opening.{Opened, refused, opened, read_lines, open_text}
use Rattle.layout.specs.Output.{last_digits, decimal, literal_text, items_text, refusal_text, overflow_text, closest_text}
use Rattle.layout.specs.Session.{call_from, sized_call, ceiled_call, call_of, answer_text}

-- ---- lines
record Row : Type 0 where
  line : String
  call : Option Call

abbrev row : String → Option Call → Row
row l c = record { line = l; call = c }

abbrev read : List Row → List (Option Call)
read [] = []
read (r ∷ rs) = call_of (ascii r.line) ∷ read rs

abbrev expected : List Row → List (Option Call)
expected [] = []
expected (r ∷ rs) = r.call ∷ expected rs

abbrev lines : List Row
lines =
    row "(one 1 2 (no 3))" (some (one (pos 1 ∷ pos 2 ∷ negsuc 2 ∷ [])))
    -- too few literals are left to the call, as in a rule
    ∷ row "(one)" (some (one []))
    ∷ row "(one 1)" (some (one (pos 1 ∷ [])))
    ∷ row "(one )" none
    ∷ row "(one 1 (ceiling 5))" none
    ∷ row "(one (tag 1) 1 2)" none
    ∷ []

one_lines : read lines ≡ expected lines
unfolding split same digits number items consed closed inside number_up_to ended call_from sized_call ceiled_call call_of
one_lines = refl

abbrev closest_lines : List Row
closest_lines =
    row "(closest 1 (no 2))" (some (closest 4294967295 65536 (pos 1 ∷ []) (pos 2 ∷ [])))
    -- flags in any order, as in a query; with none the flags are left open, or there is none
    ∷ row "(closest (no 3) 2 (no 1))" (some (closest 4294967295 65536 (pos 2 ∷ []) (pos 3 ∷ pos 1 ∷ [])))
    ∷ row "(closest)" (some (closest 4294967295 65536 [] []))
    -- "`(bytes B)` optional", 0 to 65536, and then a ceiling
    ∷ row "(closest 1 (bytes 0))" (some (closest 4294967295 0 (pos 1 ∷ []) []))
    ∷ row "(closest (bytes 65536))" (some (closest 4294967295 65536 [] []))
    ∷ row "(closest (no 1) (ceiling 11))" (some (closest 11 65536 [] (pos 1 ∷ [])))
    ∷ row "(closest 1 2 (bytes 4) (ceiling 11))" (some (closest 11 4 (pos 1 ∷ pos 2 ∷ []) []))
    ∷ row "(closest 1 (bytes 65537))" none
    ∷ row "(closest 1 (bytes 99999))" none
    ∷ row "(closest 1 (bytes 04))" none
    ∷ row "(closest 1 (bytes))" none
    ∷ row "(closest 1 (bytes ))" none
    ∷ row "(closest 1 (bytes (no 4)))" none
    ∷ row "(closest 1 bytes 4)" none
    ∷ row "(closest 1 4 (bytes 4) )" none
    -- it stands once, after the flags and before the ceiling
    ∷ row "(closest 1 (bytes 4) (bytes 4))" none
    ∷ row "(closest (bytes 4) 1)" none
    ∷ row "(closest 1 2 (ceiling 11) (bytes 4))" none
    -- the other calls have no such item
    ∷ row "(card (bytes 4))" none
    ∷ row "(keep-card (bytes 4))" none
    ∷ row "(query 1 (bytes 4))" none
    ∷ row "(rule 1 (bytes 4))" none
    ∷ row "(bytes 4)" none
    ∷ []

closest_lines_lem : read closest_lines ≡ expected closest_lines
unfolding split same digits number items consed closed inside number_up_to ended call_from sized_call ceiled_call call_of
closest_lines_lem = refl

-- ---- answers at line 9, on a book as opened
abbrev told : Opened → Call → Bytes
told (refused k n) c = []
told (opened b) c = answer_text b.prefix c 9 (step (fresh b) c).out

record Answered : Type 0 where
  text : String
  call : Call
  answer : String

abbrev answered : String → Call → String → Answered
answered s c t = record { text = s; call = c; answer = t }

abbrev answers : List Answered → List Bytes
answers [] = []
answers (r ∷ rs) = told (open_text paper (ascii r.text)) r.call ∷ answers rs

abbrev texts : List Answered → List Bytes
texts [] = []
texts (r ∷ rs) = ascii r.answer ∷ texts rs

abbrev book_a : String
book_a = "(book 1)\n(flags 1 2)\n(exists 3)\n(forall 4)\n(rule 3 4 (no 1))\n(rule (no 3) (no 4) 2)\n(rule 1 2)\n(end)\n"

-- exactly one of two flags, their numbers not in place order
abbrev book_e : String
book_e = "(book 1)\n(flags 2 1)\n(rule 1 2)\n(rule (no 1) (no 2))\n(end)\n"

abbrev rows : List Answered
rows =
    answered book_a (one (pos 1 ∷ negsuc 1 ∷ [])) "(accepted)\n"
    ∷ answered book_a (one (pos 1 ∷ [])) "(refused 7 9)\n"
    -- from 1 on, 2 off
    ∷ answered book_a (closest 4294967295 4 (pos 1 ∷ []) (pos 2 ∷ [])) "(closest (reading 1 2) (differs 1) (lines 2) (visits 11))\n"
    -- every flag in place order, off as `(no ..)`; among equals the first
    ∷ answered book_e (closest 4294967295 4 (pos 1 ∷ pos 2 ∷ []) []) "(closest (reading (no 2) 1) (differs 1) (lines 2) (visits 7))\n"
    -- a book without flags has one reading, which names none
    ∷ answered "(book 1)\n(flags)\n(forall 1)\n(exists 2)\n(rule 1 2)\n(rule (no 1) (no 2))\n(end)\n" (closest 4294967295 0 [] []) "(closest (reading) (differs 0) (lines 1) (visits 6))\n"
    -- "21, 34, 35 .. answer `(refused N L (visits V))`"
    ∷ answered book_a (closest 4294967295 3 (pos 1 ∷ []) (pos 2 ∷ [])) "(refused 21 9 (visits 11))\n"
    ∷ answered book_a (closest 10 4 (pos 1 ∷ []) (pos 2 ∷ [])) "(refused 34 9 (visits 10))\n"
    ∷ answered "(book 1)\n(flags 1)\n(exists 2)\n(rule 2)\n(rule (no 2))\n(end)\n" (closest 4294967295 2 (pos 1 ∷ []) []) "(refused 35 9 (visits 4))\n"
    -- "Here a flag left open is 8 too"
    ∷ answered book_a (closest 4294967295 4 (pos 1 ∷ []) []) "(refused 8 9)\n"
    ∷ []

closest_answers : answers rows ≡ texts rows
unfolding split same digits number items consed closed inside form_from form_of read_lines open_text place_of last_digits decimal literal_text items_text refusal_text overflow_text closest_text answer_text
closest_answers = refl
