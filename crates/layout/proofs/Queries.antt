-- A query's line and its answer, by computation. Paper 02, wish 5.
use Prim.Native.String.{String}
use mathlib.Core.Path.{◌≡◌, refl}
use mathlib.Core.List.{List, [], ◌∷◌}
use mathlib.Core.Option.{Option, none, some}
use lib.IntN.{pos}
use Rattle.qbf.specs.Formula.{Prefix, paper, place_of}
use Rattle.qbf.specs.Calls.{Call, query, step}
use Rattle.qbf.specs.Calls as calls
use Rattle.qbf.specs.Runs.{fresh}
use Rattle.layout.specs.Words.{Bytes, ascii, split, same, digits, number, closed, inside}
use Rattle.layout.specs.Forms.{items, consed, form_from, form_of}
use Rattle.layout.specs.Endings.{number_up_to, ended}
use Rattle.layout.specs.Opening.{Opened, refused, opened, read_lines, open_text}
use Rattle.layout.specs.Output.{last_digits, decimal, refusal_text, overflow_text, query_text}
use Rattle.layout.specs.Session.{call_from, sized_call, ceiled_call, call_of, answer_text}

-- ---- the call of a line
record Row : Type 0 where
  line : String
  call : Option Call

abbrev row : String → Option Call → Row
row l c = record { line = l; call = c }

abbrev read : List Row → List (Option Call)
read [] = []
read (r ∷ rs) = call_of (ascii r.line) ∷ read rs

abbrev expected : List Row → List (Option Call)
expected [] = []
expected (r ∷ rs) = r.call ∷ expected rs

abbrev lines : List Row
lines =
    -- numbers are on, `(no ..)` off, in any order; each list has the order given
    row "(query)" (some (query 4294967295 [] []))
    ∷ row "(query 1 (no 2))" (some (query 4294967295 (pos 1 ∷ []) (pos 2 ∷ [])))
    ∷ row "(query (no 4) 3 (no 2) 1)" (some (query 4294967295 (pos 3 ∷ pos 1 ∷ []) (pos 4 ∷ pos 2 ∷ [])))
    ∷ row "(query (no 2) (ceiling 7))" (some (query 7 [] (pos 2 ∷ [])))
    -- a number twice is left to the call
    ∷ row "(query 1 (no 1) (no 1))" (some (query 4294967295 (pos 1 ∷ []) (pos 1 ∷ pos 1 ∷ [])))
    -- 0 has no sign
    ∷ row "(query (no 0))" (some (query 4294967295 (pos 0 ∷ []) []))
    -- outside the form
    ∷ row "(query (no))" none
    ∷ row "(query (no 1 2))" none
    ∷ row "(query (no 01))" none
    ∷ row "(query no 1)" none
    ∷ row "(query (no (no 1)))" none
    ∷ row "(query -1)" none
    ∷ []

query_lines : read lines ≡ expected lines
unfolding split same digits number items consed closed inside number_up_to ended call_from sized_call ceiled_call call_of
query_lines = refl

-- ---- its answer, on book A as opened, at line 9
abbrev book_a : String
book_a = "(book 1)\n(flags 1 2)\n(exists 3)\n(forall 4)\n(rule 3 4 (no 1))\n(rule (no 3) (no 4) 2)\n(rule 1 2)\n(end)\n"

abbrev told : Opened → Option Call → Bytes
told (refused k n) o = []
told (opened b) none = refusal_text 1 9
told (opened b) (some c) = answer_text b.prefix c 9 (step (fresh b) c).out

record Answered : Type 0 where
  line : String
  answer : String

abbrev answered : String → String → Answered
answered l t = record { line = l; answer = t }

abbrev answers : List Answered → List Bytes
answers [] = []
answers (r ∷ rs) = told (open_text paper (ascii book_a)) (call_of (ascii r.line)) ∷ answers rs

abbrev texts : List Answered → List Bytes
texts [] = []
texts (r ∷ rs) = ascii r.answer ∷ texts rs

abbrev rows : List Answered
rows =
    -- a full reading
    answered "(query 1 (no 2))" "(keep (visits 3))\n"
    ∷ answered "(query (no 1) 2)" "(swap (visits 1))\n"
    -- "flags not named are open"
    ∷ answered "(query 2)" "(swap (visits 7))\n"
    ∷ answered "(query (no 2))" "(keep (visits 7))\n"
    ∷ answered "(query)" "(unsettled (visits 11))\n"
    ∷ answered "(query 1)" "(unsettled (visits 8))\n"
    ∷ answered "(query (no 1))" "(unsettled (visits 4))\n"
    -- under a ceiling
    ∷ answered "(query 1 (ceiling 8))" "(unsettled (visits 8))\n"
    ∷ answered "(query 1 (ceiling 7))" "(refused 34 9 (visits 7))\n"
    -- "A number given both as on and as off is 8"
    ∷ answered "(query 1 (no 1))" "(refused 8 9)\n"
    ∷ answered "(query (no 1) 2 (no 1))" "(refused 8 9)\n"
    ∷ answered "(query (no 3))" "(refused 8 9)\n"
    ∷ answered "(query (no 0))" "(refused 8 9)\n"
    ∷ answered "(query (no))" "(refused 1 9)\n"
    ∷ []

query_answers : answers rows ≡ texts rows
unfolding split same digits number items consed closed inside form_from form_of read_lines open_text place_of number_up_to ended call_from sized_call ceiled_call call_of last_digits decimal refusal_text overflow_text query_text answer_text
query_answers = refl

-- .. and where the share of a day's place stopped it
share_stop : (D : Prefix) → answer_text D (query 9 [] []) 13 (calls.answer (calls.refused 37) 2) ≡ ascii "(refused 37 13 (visits 2))\n"
unfolding last_digits decimal overflow_text answer_text
share_stop D = refl
