-- What the program `session` prints at each piece of its input, and at the end, by computation.
use Prim.Native.String.{String}
use mathlib.Core.Path.{◌≡◌, refl}
use mathlib.Core.List.{List, [], ◌∷◌}
use Rattle.qbf.specs.Formula.{paper, place_of}
use Rattle.layout.specs.Words.{Bytes, ascii, split, same, digits, number, closed, inside}
use Rattle.layout.specs.Forms.{items, consed, form_from, form_of}
use Rattle.layout.specs.Endings.{ended}
use Rattle.editions.specs.Lines.{rule_from, line_from, line_of as line_said}
use Rattle.editions.specs.Opening.{read_lines, read_editions, open_editions}
use Rattle.layout.specs.Output.{last_digits, decimal, refusal_text, query_text}
use Rattle.layout.specs.Session.{call_from, sized_call, ceiled_call, answer_text}
use Rattle.sessions.specs.Session.{request_from, request_of}
use Rattle.feeding.specs.Lines.{fed, grown}
use Rattle.feeding.specs.Sessions.{Held, start, on_byte, at_end}

-- the pieces of an input, and what is printed at each; last, at the end
pub record Row : Type 0 where
  pub pieces : List String
  pub outputs : List String

abbrev row : List String → List String → Row
row p o = record { pieces = p; outputs = o }

abbrev printed : Held → List String → List Bytes
printed h [] = at_end paper h ∷ []
printed h (p ∷ ps) = (fed (on_byte paper) h (ascii p)).text ∷ printed (fed (on_byte paper) h (ascii p)).held ps

abbrev texts : List String → List Bytes
texts [] = []
texts (t ∷ ts) = ascii t ∷ texts ts

abbrev all_printed : List Row → List (List Bytes)
all_printed [] = []
all_printed (r ∷ rs) = printed start r.pieces ∷ all_printed rs

abbrev all_expected : List Row → List (List Bytes)
all_expected [] = []
all_expected (r ∷ rs) = texts r.outputs ∷ all_expected rs

abbrev rows : List Row
rows =
    -- a book and a call in one piece; at the end nothing more
    row ("(book 1)\n(flags 1)\n(end)\n(query 1)\n" ∷ []) ("(swap (visits 1))\n" ∷ "" ∷ [])
    -- an answer stands where byte 10 was read, wherever the pieces begin
    ∷ row ("(bo" ∷ "ok 1)\n(flags 1)\n(en" ∷ "d)" ∷ "\n(que" ∷ "ry 1)" ∷ "\n(query 1)\n(x" ∷ ")\n" ∷ []) ("" ∷ "" ∷ "" ∷ "" ∷ "" ∷ "(swap (visits 1))\n(swap (visits 1))\n" ∷ "(refused 1 6)\n" ∷ "" ∷ [])
    -- a last line that is not ended
    ∷ row ("(book 1)\n(flags 1)\n(end)\n" ∷ "(query 1)" ∷ []) ("" ∷ "" ∷ "(refused 1 4)\n" ∷ [])
    -- a refused book ends the program
    ∷ row ("(book 3)\n(end)" ∷ "\n(query 1)\n" ∷ "(query 1)\n" ∷ []) ("" ∷ "(refused 2 1)\n" ∷ "" ∷ "" ∷ [])
    -- the input ends before the book does; `(end)` without its byte 10 ends no book
    ∷ row ("(book 1)\n(flags 1)\n(end)" ∷ []) ("" ∷ "(refused 1 3)\n" ∷ [])
    ∷ row [] ("(refused 1 1)\n" ∷ [])
    ∷ []

step_rows : all_printed rows ≡ all_expected rows
unfolding split same digits number items consed closed inside form_from form_of rule_from line_from line_said read_lines read_editions open_editions place_of last_digits decimal refusal_text query_text call_from ended sized_call ceiled_call answer_text request_from request_of fed grown
step_rows = refl
