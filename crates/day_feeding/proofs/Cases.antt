-- What the program `day` prints at each piece of its input, and at the end, by computation.
use Prim.Native.String.{String}
use mathlib.Core.Path.{◌≡◌, refl}
use mathlib.Core.List.{List, [], ◌∷◌}
use Rattle.qbf.specs.Formula.{place_of as formula_place}
use Rattle.layout.specs.Words.{Bytes, ascii, split, same, digits, number, closed, inside}
use Rattle.layout.specs.Forms.{items, consed, form_from, form_of}
use Rattle.layout.specs.Endings.{number_up_to, ended}
use Rattle.editions.specs.Lines.{rule_from, line_from, line_of as line_said}
use Rattle.editions.specs.Opening.{read_lines, read_editions, open_editions}
use Rattle.layout.specs.Output.{last_digits, decimal, refusal_text, overflow_text, query_text}
use Rattle.layout.specs.Session.{call_from, sized_call, ceiled_call, answer_text}
use Rattle.sessions.specs.Session.{request_from, request_of}
use Rattle.feeding.specs.Lines.{fed, grown}
use Rattle.day_text.specs.Lines.{total_of, behind, is_place, place_of, cut_of, at_of, asked_of}
use Rattle.day_text.specs.Output.{at_text}
use Rattle.day_feeding.specs.Steps.{Held, start, on_byte, at_end}

-- the pieces of an input, and what is printed at each; last, at the end
pub record Row : Type 0 where
  pub pieces : List String
  pub outputs : List String

abbrev row : List String → List String → Row
row p o = record { pieces = p; outputs = o }

abbrev printed : Held → List String → List Bytes
printed h [] = at_end h ∷ []
printed h (p ∷ ps) = (fed on_byte h (ascii p)).text ∷ printed (fed on_byte h (ascii p)).held ps

abbrev texts : List String → List Bytes
texts [] = []
texts (t ∷ ts) = ascii t ∷ texts ts

abbrev all_printed : List Row → List (List Bytes)
all_printed [] = []
all_printed (r ∷ rs) = printed start r.pieces ∷ all_printed rs

abbrev all_expected : List Row → List (List Bytes)
all_expected [] = []
all_expected (r ∷ rs) = texts r.outputs ∷ all_expected rs

abbrev rows : List Row
rows =
    -- a text is answered at its line `(end)`, a call at its byte 10, wherever the pieces begin
    row ("(da" ∷ "y 90)\n(place 2" ∷ ")\n(book 1)\n(flags 1)\n(en" ∷ "d)\n" ∷ "(at 2 (query 1))\n(at 1" ∷ " (forget))\n(x" ∷ ")\n" ∷ [])
    ("" ∷ "" ∷ "" ∷ "(at 2)\n(opened)\n" ∷ "(at 2)\n(swap (visits 1))\n" ∷ "(at 1)\n(refused 38 7)\n" ∷ "(refused 1 8)\n" ∷ "" ∷ [])
    -- a refused place line is answered at once, and the text behind it is skipped
    ∷ row ("(day 90)\n(place 9)\n" ∷ "(book 1)\n(flags 1)\n(end)" ∷ "\n" ∷ "(at 1 (card))\n" ∷ []) ("(refused 1 2)\n" ∷ "" ∷ "" ∷ "(at 1)\n(refused 38 6)\n" ∷ "" ∷ [])
    -- the input ends in a text, in a line, behind a line
    ∷ row ("(day 90)\n(place 1)\n(book 1)\n" ∷ []) ("" ∷ "(at 1)\n(refused 1 2)\n" ∷ [])
    ∷ row ("(day 90)\n(shares)" ∷ []) ("" ∷ "(refused 1 2)\n" ∷ [])
    ∷ row ("(day 90)\n" ∷ []) ("" ∷ "" ∷ [])
    -- a first line that is no total is told at its byte 10, or at the end, and nothing more is read
    ∷ row ("(day" ∷ ")" ∷ "\n" ∷ "(shares)\n" ∷ []) ("" ∷ "" ∷ "(refused 1 1)\n" ∷ "" ∷ "" ∷ [])
    ∷ row [] ("(refused 1 1)\n" ∷ [])
    ∷ []

step_rows : all_printed rows ≡ all_expected rows
unfolding split same digits number items consed closed inside form_from form_of rule_from line_from line_said read_lines read_editions open_editions formula_place last_digits decimal refusal_text overflow_text query_text call_from number_up_to ended sized_call ceiled_call answer_text request_from request_of fed grown total_of behind is_place place_of cut_of at_of asked_of at_text
step_rows = refl
