-- What the programs `card` and `pages` print for the bytes of their input. Paper 01, "Text and program"; paper 02, wish 11.
use Rattle.std.specs.Prelude.{ℕ, zero, suc, true, [], ◌++◌, length}
use Rattle.qbf.specs.Formula.{Limits, Prefix}
use Rattle.qbf.specs.Truth.{free_variables}
use Rattle.qbf.specs.Learning.{empty_store}
use Rattle.qbf.specs.Ceiling.{highest_ceiling}
use Rattle.qbf.specs.Calls.{Reply, done, refused, swap, keep, unsettled, lines, card_refused, found, Answer, learning_card}
use Rattle.layout.specs.Words.{Bytes, joined}
use Rattle.layout.specs.Output.{card_text, refusal_text}
use Rattle.layout.specs.Page.{pages, printed}
use Rattle.layout.specs.Opening as opening

-- "The program's card table has 65,536 bytes"
abbrev pub table_bytes : ℕ
table_bytes = 65536

-- "a card too large prints only `(refused 21 0)`", "a stopped card only `(refused 34 0)`"; the other replies are no card's
abbrev pub card_printed : Prefix → Reply → ℕ → Bytes
card_printed D (lines ls table) visits = card_text true D ls visits
card_printed D (card_refused n table) visits = refusal_text n 0
card_printed D done visits = []
card_printed D (refused n) visits = []
card_printed D swap visits = []
card_printed D keep visits = []
card_printed D unsettled visits = []
card_printed D (found ls table r) visits = []

abbrev pub answer_printed : Prefix → Answer → Bytes
answer_printed D a = card_printed D a.reply a.visits

abbrev pub opened_printed : ℕ → opening.Opened → Bytes
opened_printed size (opening.refused n line) = refusal_text n line
opened_printed size (opening.opened b) = answer_printed b.prefix (learning_card true b empty_store highest_ceiling size).out

-- the output for an input, with a card table of so many bytes
unfoldable pub card_program : Limits → ℕ → Bytes → Bytes
card_program L size s = opened_printed size (opening.open_text L s)

-- ---- the pages of a card
-- k pages, from page n on
unfoldable pub pages_from : Bytes → ℕ → ℕ → ℕ → ℕ → Bytes
pages_from table count f zero n = []
pages_from table count f (suc k) n = joined (printed table count f n) ++ pages_from table count f k (suc n)

-- all of them
abbrev pub pages_text : Bytes → ℕ → ℕ → Bytes
pages_text table count f = pages_from table count f (pages count) 1

-- refused as the program `card` is
abbrev pub pages_printed : Prefix → Reply → Bytes
pages_printed D (lines ls table) = pages_text table (length ls) (free_variables D)
pages_printed D (card_refused n table) = refusal_text n 0
pages_printed D done = []
pages_printed D (refused n) = []
pages_printed D swap = []
pages_printed D keep = []
pages_printed D unsettled = []
pages_printed D (found ls table r) = []

abbrev pub opened_pages : ℕ → opening.Opened → Bytes
opened_pages size (opening.refused n line) = refusal_text n line
opened_pages size (opening.opened b) = pages_printed b.prefix (learning_card true b empty_store highest_ceiling size).out.reply

unfoldable pub pages_program : Limits → ℕ → Bytes → Bytes
pages_program L size s = opened_pages size (opening.open_text L s)
