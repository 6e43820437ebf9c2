-- A session: a book, then one request to a line, and the answer to each. Paper 01, "Text and program"; paper 02, wishes 2, 11 and 13.
use Rattle.std.specs.Prelude.{ℕ, suc, false, cond, List, [], ◌∷◌, ◌++◌, length, take, ltb}
use Rattle.std.proofs.Math.Option.{Option, none, some}
use Rattle.qbf.specs.Formula.{Limits, Prefix, Literal, number_of}
use Rattle.qbf.specs.Truth.{free_variables}
use Rattle.qbf.specs.Calls.{Call, rule, query, card, forget, withdraw, one, closest, Reply, done, refused, swap, keep, unsettled, lines, card_refused, found, State, step, keep_card}
use Rattle.qbf.specs.Runs.{fresh}
use Rattle.layout.specs.Words.{Bytes, ascii, newline, space, split, same, inside, joined}
use Rattle.layout.specs.Forms.{then, items}
use Rattle.layout.specs.Output.{refusal_text}
use Rattle.layout.specs.Page.{no_page, page_of}
use Rattle.layout.specs.Opening as opening
use Rattle.layout.specs.Session.{sized_by, ceiled_call, answer_text, Parted, parted}
use Rattle.editions.specs.Opening.{both, open_editions}
use Rattle.booktext.specs.Books.{Written, written, write_refused, write_call, text_room}

-- ---- the request of a line
-- a call; or writing the book into a table of so many bytes, or of as many as every text under the book's limits needs; or a page of the
-- card, keep card or closest call answered last
pub data Request : Type 0 where
  call : Call → Request
  write : Option ℕ → Request
  page : ℕ → Request

abbrev pub write_word : Bytes
write_word = ascii "write"

abbrev pub page_word : Bytes
page_word = ascii "page"

-- `(write)`, or `(write 4)` with a table of so many bytes
abbrev pub write_request : List Literal → Option Request
write_request ls = sized_by (write none) (λ n. write (some n)) ls

-- `(page 1)`: a number, and nothing else
abbrev pub page_request : List Literal → Option Request
page_request [] = none
page_request (l ∷ []) = some (page (number_of l))
page_request (l ∷ m ∷ ls) = none

abbrev pub call_request : Call → Option Request
call_request c = some (call c)

unfoldable pub request_from : List Bytes → Option Request
request_from [] = none
request_from (w ∷ ws) =
    cond (same w write_word) (then (items false ws) write_request)
    (cond (same w page_word) (then (items false ws) page_request)
    (then (ceiled_call (w ∷ ws)) call_request))

-- the request of a line without its byte 10; a line longer than a text may be is none
unfoldable pub request_of : Bytes → Option Request
request_of l = cond (ltb opening.text_bytes (length l)) none (then (inside l) (λ s. request_from (split space s)))

-- ---- the answer
abbrev pub table_for : Limits → Option ℕ → ℕ
table_for L none = text_room L
table_for L (some n) = n

-- the text, which is what the table begins with, or the refusal
abbrev pub written_answer : ℕ → Written → Bytes
written_answer line (written n table) = take n table
written_answer line (write_refused n table) = refusal_text n line

-- ---- the card answered last
-- what its pages are printed from: its table, and how many lines and flags it has
pub record Card : Type 0 where
  pub table : Bytes
  pub lines : ℕ
  pub free : ℕ

-- the card of a reply, or that from which a closest reading was found; the other replies have none
abbrev pub card_of : Prefix → Reply → Option Card
card_of D (lines ls tb) = some (record { table = tb; lines = length ls; free = free_variables D })
card_of D (card_refused n tb) = none
card_of D done = none
card_of D (refused n) = none
card_of D swap = none
card_of D keep = none
card_of D unsettled = none
card_of D (found ls tb r) = some (record { table = tb; lines = length ls; free = free_variables D })

-- "a page never shows lines that no longer hold": a rule or exactly-one form that is accepted and a rule that is withdrawn leave no card, a call that is refused leaves what there was
abbrev pub card_after_rule : Reply → Option Card → Option Card
card_after_rule done z = none
card_after_rule (refused n) z = z
card_after_rule (card_refused n tb) z = z
card_after_rule (lines ls tb) z = z
card_after_rule swap z = z
card_after_rule keep z = z
card_after_rule unsettled z = z
card_after_rule (found ls tb r) z = z

-- the card answered last, after a call: "36 also where no card has been answered yet, the last one was refused, or a rule .. was accepted or a rule withdrawn since"
abbrev pub card_after : Prefix → Call → Reply → Option Card → Option Card
card_after D (rule ls) r z = card_after_rule r z
card_after D (query n on off) r z = z
card_after D (card n size) r z = card_of D r
card_after D (keep_card n size) r z = card_of D r
card_after D forget r z = z
card_after D withdraw r z = card_after_rule r z
card_after D (one ls) r z = card_after_rule r z
card_after D (closest n size on off) r z = card_of D r

-- its page, 24 rows, or 36
abbrev pub page_answer : Option Card → ℕ → ℕ → Bytes
page_answer none line k = refusal_text 36 line
page_answer (some z) line k = cond (no_page z.table z.lines z.free k) (refusal_text 36 line) (joined (page_of z.table z.lines z.free k))

-- ---- the session
-- Line n on a state and the card answered last: what is printed, the next state, and the card answered last then. A line that is no request is
-- 1 and leaves both, and so do writing and a page.
pub record Turn : Type 0 where
  pub text : Bytes
  pub state : State
  pub shown : Option Card

abbrev pub turn_of : State → Option Card → ℕ → Option Request → Turn
turn_of x z n none = record { text = refusal_text 1 n; state = x; shown = z }
turn_of x z n (some (call c)) =
    let r = step x c in
    record { text = answer_text x.formula.prefix c n r.out; state = r.state; shown = card_after x.formula.prefix c r.out.reply z }
turn_of x z n (some (write size)) = record { text = written_answer n (write_call (table_for x.formula.limits size) x); state = x; shown = z }
turn_of x z n (some (page k)) = record { text = page_answer z n k; state = x; shown = z }

-- The lines from number n on. What follows the last byte 10 is no line: nothing, or a last line that is not ended.
unfoldable pub serve_lines : ℕ → State → Option Card → List Bytes → Bytes
serve_lines n x z [] = []
serve_lines n x z ([] ∷ []) = []
serve_lines n x z ((b ∷ l) ∷ []) = refusal_text 1 n
serve_lines n x z (l ∷ m ∷ ls) =
    let t = turn_of x z n (request_of l) in
    t.text ++ serve_lines (suc n) t.state t.shown (m ∷ ls)

-- a refused book prints its refusal and ends
abbrev pub opened_session : Parted → opening.Opened → Bytes
opened_session p (opening.refused n line) = refusal_text n line
opened_session p (opening.opened b) = serve_lines (suc p.count) (fresh b) none p.rest

-- the output for a whole input
unfoldable pub session_program : Limits → Bytes → Bytes
session_program L s = let p = parted (split newline s) in opened_session p (open_editions both L p.book)
