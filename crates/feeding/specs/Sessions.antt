-- The program `session` by steps: what it prints at each byte of its input and at the input's end, and what it holds between two bytes. Paper 01,
-- "Text and program". That this is what it prints for a whole input is proofs/Sessions.antt.
use Rattle.std.specs.Prelude.{ℕ, suc, cond, [], ◌∷◌, ◌++◌, length, eqb, ltb}
use Rattle.std.proofs.Math.Option.{Option, none}
use Rattle.qbf.specs.Formula.{Limits}
use Rattle.qbf.specs.Calls.{State}
use Rattle.qbf.specs.Runs.{fresh}
use Rattle.layout.specs.Words.{Bytes, newline, same}
use Rattle.layout.specs.Forms.{then}
use Rattle.layout.specs.Output.{refusal_text}
use Rattle.layout.specs.Opening.{text_bytes, Opened, refused, opened}
use Rattle.editions.specs.Opening.{both, open_editions}
use Rattle.layout.specs.Session.{end_line}
use Rattle.sessions.specs.Session.{request_of, Card, Turn, turn_of}
use Rattle.feeding.specs.Lines.{Step, Answered, Serving, at_line, on_line_byte, last_line}

-- ---- the lines
-- the state, and the card answered last
pub record Left : Type 0 where
  pub state : State
  pub shown : Option Card

abbrev pub as_answered : Turn → Answered Left
as_answered t = record { text = t.text; left = record { state = t.state; shown = t.shown } }

abbrev pub serve_call : ℕ → Left → Option Bytes → Answered Left
serve_call n x l = as_answered (turn_of x.state x.shown n (then l request_of))

-- ---- the phases
-- the book's bytes so far, those of its last line, and how many lines came before that; then the lines of calls; then nothing more is read
pub record Begun : Type 0 where
  pub text : Bytes
  pub line : Bytes
  pub count : ℕ

pub data Held : Type 0 where
  book : Begun → Held
  calls : Serving Left → Held
  over : Held

abbrev pub start : Held
start = book (record { text = []; line = []; count = 0 })

abbrev pub behind : Step (Serving Left) → Step Held
behind r = record { text = r.text; held = calls r.held }

-- ---- the book
-- "9 text over 65,536 bytes": no line `(end)` stands within as many
abbrev pub in_book : Begun → Step Held
in_book d = cond (ltb text_bytes (length d.text)) (record { text = refusal_text 9 0; held = over }) (record { text = []; held = book d })

-- a book that was opened, of so many lines; a refused one ends the program
abbrev pub opening : ℕ → Opened → Step Held
opening n (refused k line) = record { text = refusal_text k line; held = over }
opening n (opened b) = record { text = []; held = calls (at_line (suc n) (record { state = fresh b; shown = none })) }

-- "The book is the input up to and with its first line `(end)`"
abbrev pub on_book_byte : Limits → Begun → ℕ → Step Held
on_book_byte L d b =
    cond (eqb b newline)
    (cond (same d.line end_line)
    (opening (suc d.count) (open_editions both L (d.text ++ (newline ∷ []))))
    (in_book (record { text = d.text ++ (newline ∷ []); line = []; count = suc d.count })))
    (in_book (record { text = d.text ++ (b ∷ []); line = d.line ++ (b ∷ []); count = d.count }))

-- what a book without its line `(end)` prints at the end of the input
abbrev pub unended_book : Opened → Bytes
unended_book (refused k line) = refusal_text k line
unended_book (opened b) = []

-- ---- the program
abbrev pub on_byte : Limits → Held → ℕ → Step Held
on_byte L (book d) b = on_book_byte L d b
on_byte L (calls h) b = behind (on_line_byte serve_call h b)
on_byte L over b = record { text = []; held = over }

abbrev pub at_end : Limits → Held → Bytes
at_end L (book d) = unended_book (open_editions both L d.text)
at_end L (calls h) = last_line serve_call h
at_end L over = []
