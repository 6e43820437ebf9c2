-- The text of a card and of a refusal. Paper 01, "Text and program". Every line ends with byte 10.
use Rattle.std.specs.Prelude.{ℕ, zero, suc, ◌+◌, ◌/◌, ◌%◌, Bool, true, false, cond, List, [], ◌∷◌, ◌++◌, pos, negsuc, ltb}
use Rattle.qbf.specs.Formula.{Prefix, Literal, Node}
use Rattle.layout.specs.Words.{Bytes, ascii, space}
use Rattle.layout.specs.Forms.{off}

-- ---- numbers
-- at most k digits of n, the last ones
unfoldable pub last_digits : ℕ → ℕ → Bytes
last_digits zero n = []
last_digits (suc k) n = cond (ltb n 10) ((48 + n) ∷ []) (last_digits k (n / 10) ++ ((48 + n % 10) ∷ []))

-- "with as many digits as they need"
unfoldable pub decimal : ℕ → Bytes
decimal n = last_digits (suc n) n

-- ---- a card
-- `1` is on, `(no 1)` off
unfoldable pub literal_text : Literal → Bytes
literal_text (pos n) = decimal n
literal_text (negsuc n) = ascii "(no " ++ decimal (suc n) ++ ascii ")"

-- the literals that a node sets, in place order
abbrev pub set_literals : Prefix → Node → List Literal
set_literals [] s = []
set_literals (d ∷ D) [] = []
set_literals (d ∷ D) (v ∷ s) = cond v (pos d.number) (off d.number) ∷ set_literals D s

unfoldable pub items_text : List Literal → Bytes
items_text [] = []
items_text (l ∷ ls) = space ∷ literal_text l ++ items_text ls

-- "each line's set flags in place order"
unfoldable pub line_text : Prefix → Node → Bytes
line_text D s = ascii "(line" ++ items_text (set_literals D s) ++ ascii ")\n"

unfoldable pub lines_text : Prefix → List Node → Bytes
lines_text D [] = []
lines_text D (s ∷ ss) = line_text D s ++ lines_text D ss

unfoldable pub visits_text : ℕ → Bytes
visits_text n = ascii "(visits " ++ decimal n ++ ascii ")\n"

-- "The card's own edition, always 1": of the card, and of the keep card
abbrev pub card_head : Bool → Bytes
card_head true = ascii "(card 1)\n"
card_head false = ascii "(keep-card 1)\n"

-- then the lines, "then visits"
unfoldable pub card_text : Bool → Prefix → List Node → ℕ → Bytes
card_text p D ls n = card_head p ++ lines_text D ls ++ visits_text n ++ ascii "(end)\n"

-- ---- refusals
-- "A refused text prints only `(refused N L)`"
unfoldable pub refusal_text : ℕ → ℕ → Bytes
refusal_text n line = ascii "(refused " ++ decimal n ++ ascii " " ++ decimal line ++ ascii ")\n"

-- a card too large or a stopped call, in a session: its visits are told
unfoldable pub overflow_text : ℕ → ℕ → ℕ → Bytes
overflow_text n line visits = ascii "(refused " ++ decimal n ++ ascii " " ++ decimal line ++ ascii " (visits " ++ decimal visits ++ ascii "))\n"

-- ---- other answers of a session
-- "swap if every completion is a swap, keep if none is, otherwise unsettled" (paper 02, wish 5): the word of a verdict
abbrev pub swap_word : Bytes
swap_word = ascii "swap"

abbrev pub keep_word : Bytes
keep_word = ascii "keep"

abbrev pub unsettled_word : Bytes
unsettled_word = ascii "unsettled"

-- the word and the visits: `(swap (visits 3))`
unfoldable pub query_text : Bytes → ℕ → Bytes
query_text w n = ascii "(" ++ w ++ ascii " (visits " ++ decimal n ++ ascii "))\n"

-- a closest reading, "The reading has every flag in place order, off as `(no ..)`" (paper 02, wish 9):
-- `(closest (reading 1 2) (differs 1) (lines 2) (visits 11))`
unfoldable pub closest_text : Prefix → Node → ℕ → ℕ → ℕ → Bytes
closest_text D t differs lines visits =
    ascii "(closest (reading" ++ items_text (set_literals D t) ++ ascii ") (differs " ++ decimal differs
    ++ ascii ") (lines " ++ decimal lines ++ ascii ") (visits " ++ decimal visits ++ ascii "))\n"

abbrev pub accepted_text : Bytes
accepted_text = ascii "(accepted)\n"

abbrev pub forgotten_text : Bytes
forgotten_text = ascii "(forgotten)\n"

abbrev pub withdrawn_text : Bytes
withdrawn_text = ascii "(withdrawn)\n"
