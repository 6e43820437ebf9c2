-- What the program `day` prints for a whole input: a total, up to eight places with their books, then a call at a place on each line. Paper 02, wish 12.
use Rattle.std.specs.Prelude.{ℕ, suc, ◌-◌, Bool, true, false, cond, List, [], ◌∷◌, ◌++◌, length, get_or, set, replicate, ltb}
use Rattle.std.proofs.Math.Option.{Option, none, some}
use Rattle.qbf.specs.Formula.{Limits, Formula}
use Rattle.qbf.specs.Calls.{State}
use Rattle.layout.specs.Words.{Bytes, newline, split, same}
use Rattle.layout.specs.Forms.{then}
use Rattle.layout.specs.Output.{refusal_text}
use Rattle.layout.specs.Opening.{text_bytes, Opened, refused, opened}
use Rattle.layout.specs.Session.{end_line, answer_text}
use Rattle.editions.specs.Opening.{both, open_editions}
use Rattle.sessions.specs.Session.{Request, call, write, page, Card, card_after, turn_of}
use Rattle.feeding.specs.Lines.{Part, begun, overlong, Answered, as_line}
use Rattle.days.specs.Accounts.{books}
use Rattle.days.specs.Day.{Day, loaded, book_at, day_step}
use Rattle.day_text.specs.Lines.{total_of, is_place, Place, place_of, Asked, at, shares, asked_of}
use Rattle.day_text.specs.Output.{at_text, opening_text, shares_text}

-- ---- the lines behind the loading
-- the day, and the card answered last at each place
pub record Served : Type 0 where
  pub day : Day
  pub shown : List (Option Card)

abbrev pub shown_at : Served → ℕ → Option Card
shown_at z k = get_or z.shown (k - 1) none

abbrev pub with_shown : Served → ℕ → Day → Option Card → Served
with_shown z k d c = record { day = d; shown = set z.shown (k - 1) c }

-- Line n asks for something of the book x at place k. A call is the day's; the book's text and "the last card of that place" are as a session's.
abbrev pub answer_at : State → Served → ℕ → ℕ → Request → Answered Served
answer_at x z n k (call c) =
    let r = day_step z.day (record { place = k; call = c }) in
    record { text = answer_text x.formula.prefix c n r.out; left = with_shown z k r.day (card_after x.formula.prefix c r.out.reply (shown_at z k)) }
answer_at x z n k (write size) = record { text = (turn_of x (shown_at z k) n (some (write size))).text; left = z }
answer_at x z n k (page p) = record { text = (turn_of x (shown_at z k) n (some (page p))).text; left = z }

-- "a place without a book, or outside 1 to 8, is 38, before all else"
abbrev pub answer_placed : Option State → Served → ℕ → ℕ → Request → Answered Served
answer_placed none z n k q = record { text = refusal_text 38 n; left = z }
answer_placed (some x) z n k q = answer_at x z n k q

-- the place of the answer on a line of its own, and then the answer
abbrev pub told_at : ℕ → Answered Served → Answered Served
told_at k t = record { text = at_text k ++ t.text; left = t.left }

-- a line that is neither a call of a session at a place nor `(shares)` is 1
abbrev pub answer_asked : ℕ → Served → Option Asked → Answered Served
answer_asked n z none = record { text = refusal_text 1 n; left = z }
answer_asked n z (some shares) = record { text = shares_text z.day.total z.day.used; left = z }
answer_asked n z (some (at k q)) = told_at k (answer_placed (book_at z.day k) z n k q)

abbrev pub serve_placed : ℕ → Served → Option Bytes → Answered Served
serve_placed n z l = answer_asked n z (then l asked_of)

-- ---- loading
-- the total; which places were given; the books that their texts gave, by place
pub record Loading : Type 0 where
  pub total : ℕ
  pub given : List Bool
  pub books : List (Option Formula)

abbrev pub none_given : ℕ → Loading
none_given T = record { total = T; given = replicate books false; books = replicate books none }

-- a refused text gives its place too
abbrev pub with_place : Loading → ℕ → Loading
with_place z k = record { total = z.total; given = set z.given (k - 1) true; books = z.books }

abbrev pub book_of : Opened → Option Formula
book_of (refused n line) = none
book_of (opened b) = some b

abbrev pub with_book : Loading → ℕ → Opened → Loading
with_book z k o = record { total = z.total; given = z.given; books = set z.books (k - 1) (book_of o) }

-- "They are loaded together when a day starts": no card has been answered yet
abbrev pub started : Loading → Served
started z = record { day = loaded z.total z.books; shown = replicate books none }

-- no place is given twice
abbrev pub not_given : Loading → Place → Option Place
not_given z p = cond (get_or z.given (p.place - 1) false) none (some p)

-- ---- a text
-- its bytes; of one that is longer than a text may be none are kept
abbrev pub kept : Bytes → Part
kept s = cond (ltb text_bytes (length s)) overlong (begun s)

-- with the bytes of a line behind it
abbrev pub joined_parts : Part → Part → Part
joined_parts (begun t) (begun l) = kept (t ++ l)
joined_parts (begun t) overlong = overlong
joined_parts overlong l = overlong

-- .. and their byte 10; a line that is too long is none
abbrev pub with_line : Part → Option Bytes → Part
with_line (begun t) (some l) = kept (t ++ (l ++ (newline ∷ [])))
with_line (begun t) none = overlong
with_line overlong l = overlong

-- "where none stands within 65,536 bytes it is 9"
abbrev pub open_part : Limits → Part → Opened
open_part L (begun s) = open_editions both L s
open_part L overlong = refused 9 0

abbrev pub ends_text : Option Bytes → Bool
ends_text none = false
ends_text (some l) = same l end_line

-- ---- the phases of an input
-- Before its first line; before a place line; in the text of a place, or in one that is skipped; before a call; behind the end.
pub data Phase : Type 0 where
  first : Phase
  places : Loading → Phase
  text : Loading → Option Place → Part → Phase
  calls : Served → Phase
  over : Phase

abbrev pub on_first_line : Option ℕ → Answered Phase
on_first_line none = record { text = refusal_text 1 1; left = over }
on_first_line (some T) = record { text = []; left = places (none_given T) }

abbrev pub as_calls : Answered Served → Answered Phase
as_calls t = record { text = t.text; left = calls t.left }

-- a place line that is out of its form, or whose place was given before or is outside 1 to 8, is 1 alone, "and its text is skipped"
abbrev pub on_place : ℕ → Loading → Option Place → Answered Phase
on_place n z none = record { text = refusal_text 1 n; left = text z none (begun []) }
on_place n z (some p) = record { text = []; left = text (with_place z p.place) (some p) (begun []) }

abbrev pub on_loading_line : ℕ → Loading → Option Bytes → Answered Phase
on_loading_line n z none = as_calls (serve_placed n (started z) none)
on_loading_line n z (some l) = cond (is_place l) (on_place n z (then (place_of l) (not_given z))) (as_calls (serve_placed n (started z) (some l)))

-- a text is judged at its line `(end)`, or at the end of the input
abbrev pub judged : Loading → Option Place → Part → Answered Phase
judged z none t = record { text = []; left = places z }
judged z (some p) t =
    let o = open_part p.limits t in
    record { text = at_text p.place ++ opening_text o; left = places (with_book z p.place o) }

abbrev pub on_text_line : Loading → Option Place → Part → Bool → Answered Phase
on_text_line z p t true = judged z p t
on_text_line z p t false = record { text = []; left = text z p t }

-- line n of the input
abbrev pub serve_day : ℕ → Phase → Option Bytes → Answered Phase
serve_day n first l = on_first_line (then l total_of)
serve_day n (places z) l = on_loading_line n z l
serve_day n (text z p t) l = on_text_line z p (with_line t l) (ends_text l)
serve_day n (calls z) l = as_calls (serve_placed n z l)
serve_day n over l = record { text = []; left = over }

-- ---- the end of the input
-- a last line without its byte 10 is 1
abbrev pub unended_line : ℕ → Part → Bytes
unended_line n (begun []) = []
unended_line n (begun (b ∷ l)) = refusal_text 1 n
unended_line n overlong = refusal_text 1 n

-- what is printed there, by what follows the last byte 10
abbrev pub day_end : ℕ → Phase → Part → Bytes
day_end n first l = refusal_text 1 1
day_end n (places z) l = unended_line n l
day_end n (text z p t) l = (judged z p (joined_parts t l)).text
day_end n (calls z) l = unended_line n l
day_end n over l = []

-- ---- the program
-- the lines from number n on
unfoldable pub day_lines : ℕ → Phase → List Bytes → Bytes
day_lines n x [] = []
day_lines n x (l ∷ []) = day_end n x (kept l)
day_lines n x (l ∷ m ∷ ls) =
    let t = serve_day n x (as_line l) in
    t.text ++ day_lines (suc n) t.left (m ∷ ls)

-- the output for a whole input
unfoldable pub day_program : Bytes → Bytes
day_program s = day_lines 1 first (split newline s)
