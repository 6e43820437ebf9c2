-- The book of a session, the call of a line, and the answer of a call. Paper 01, "Text and program". What a whole session prints is in the crate
-- `sessions`.
use Rattle.std.specs.Prelude.{ℕ, suc, true, false, cond, Bool, ◌||◌, List, [], ◌∷◌, ◌++◌, pos, length, leb, ltb, eqb}
use Rattle.std.specs.Bool.{beq}
use Rattle.std.proofs.Math.Option.{Option, none, some}
use Rattle.qbf.specs.Formula.{Prefix, Literal, number_of, positive}
use Rattle.qbf.specs.Calls.{Call, rule, query, card, forget, withdraw, one, closest, Reply, done, refused, swap, keep, unsettled, lines, card_refused, found, Answer, keep_card, card_of}
use Rattle.qbf.specs.Ceiling.{highest_ceiling}
use Rattle.layout.specs.Words.{Bytes, ascii, newline, space, split, same, inside}
use Rattle.layout.specs.Endings.{ended, ceiling_word, ceiling_number, bytes_word, bytes_number}
use Rattle.layout.specs.Forms.{then, items, rule_word, one_word}
use Rattle.layout.specs.Output.{card_text, refusal_text, overflow_text, swap_word, keep_word, unsettled_word, query_text, closest_text, accepted_text, forgotten_text, withdrawn_text}
use Rattle.layout.specs.Program.{table_bytes}
use Rattle.layout.specs.Opening as opening

-- ---- the call of a line
abbrev pub query_word : Bytes
query_word = ascii "query"

abbrev pub card_word : Bytes
card_word = ascii "card"

abbrev pub keep_card_word : Bytes
keep_card_word = ascii "keep-card"

abbrev pub forget_word : Bytes
forget_word = ascii "forget"

abbrev pub withdraw_word : Bytes
withdraw_word = ascii "withdraw"

abbrev pub closest_word : Bytes
closest_word = ascii "closest"

abbrev pub rule_call : List Literal → Option Call
rule_call ls = some (rule ls)

-- "any form of rules": exactly one of some literals
abbrev pub one_call : List Literal → Option Call
one_call ls = some (one ls)

-- "on flags as numbers, off flags as `(no ..)`, in any order": the numbers of one sign, in the order given
abbrev pub named : Bool → List Literal → List Literal
named v [] = []
named v (l ∷ ls) = cond (beq v (positive l)) (pos (number_of l) ∷ named v ls) (named v ls)

-- "a query gives the flags that are on and those that are off, and the rest are open"
abbrev pub query_call : List Literal → Option Call
query_call ls = some (query highest_ceiling (named true ls) (named false ls))

-- a full reading, named as in a query: "without it 65536"
abbrev pub closest_call : List Literal → Option Call
closest_call ls = some (closest highest_ceiling table_bytes (named true ls) (named false ls))

-- what a line says with no item, or with one that is the size of a table
abbrev pub sized_by : {A : Type 0} → A → (ℕ → A) → List Literal → Option A
sized_by whole part [] = some whole
sized_by whole part (l ∷ []) = cond (leb (number_of l) table_bytes) (some (part (number_of l))) none
sized_by whole part (l ∷ m ∷ ls) = none

-- `(card)` with the whole table, `(card 4)` with a table of so many bytes; in the same way `(keep-card)`
abbrev pub card_call : Bool → List Literal → Option Call
card_call p ls = sized_by (card_of p highest_ceiling table_bytes) (card_of p highest_ceiling) ls

-- a call that has no items
abbrev pub alone : Call → List Literal → Option Call
alone c [] = some c
alone c (l ∷ ls) = none

-- the call of a line's words before the size of its table and its ceiling, with the whole table and under the highest; a rule, an exactly-one
-- form, a query and a closest reading have signed items
unfoldable pub call_from : List Bytes → Option Call
call_from [] = none
call_from (w ∷ ws) =
    cond (same w rule_word) (then (items true ws) rule_call)
    (cond (same w query_word) (then (items true ws) query_call)
    (cond (same w card_word) (then (items false ws) (card_call true))
    (cond (same w keep_card_word) (then (items false ws) (card_call false))
    (cond (same w forget_word) (then (items false ws) (alone forget))
    (cond (same w withdraw_word) (then (items false ws) (alone withdraw))
    (cond (same w one_word) (then (items true ws) one_call)
    (cond (same w closest_word) (then (items true ws) closest_call)
    none)))))))

-- "query and either card take a ceiling on visits", and the card of a closest reading is made under one: those calls under a ceiling; the
-- others have none
abbrev pub under : ℕ → Call → Option Call
under n (query m on off) = some (query n on off)
under n (card m size) = some (card n size)
under n (keep_card m size) = some (keep_card n size)
under n (closest m size on off) = some (closest n size on off)
under n (rule ls) = none
under n (one ls) = none
under n forget = none
under n withdraw = none

-- a closest reading has the size of its table in an item of its own; the others have none
abbrev pub into : ℕ → Call → Option Call
into n (closest m size on off) = some (closest m n on off)
into n (query m on off) = none
into n (card m size) = none
into n (keep_card m size) = none
into n (rule ls) = none
into n (one ls) = none
into n forget = none
into n withdraw = none

-- what the number of an item makes of a call, where it is given
abbrev pub takes_given : (ℕ → Call → Option Call) → Option ℕ → Option Call → Option Call
takes_given takes none o = o
takes_given takes (some n) o = then o (takes n)

-- the call of a line's words, by those before an item and its number
abbrev pub ended_call : Bytes → (Bytes → Option ℕ) → (ℕ → Call → Option Call) → (List Bytes → Option Call) → List Bytes → Option Call
ended_call word number takes call ws = then (ended word number ws) (λ z. takes_given takes z.last (call z.words))

-- .. before a ceiling
unfoldable pub sized_call : List Bytes → Option Call
sized_call ws = ended_call bytes_word bytes_number into call_from ws

-- the call of a line's words: "Without it the ceiling is the highest"
unfoldable pub ceiled_call : List Bytes → Option Call
ceiled_call ws = ended_call ceiling_word ceiling_number under sized_call ws

-- the call of a line without its byte 10; a line longer than a text may be is none
unfoldable pub call_of : Bytes → Option Call
call_of l = cond (ltb opening.text_bytes (length l)) none (then (inside l) (λ s. ceiled_call (split space s)))

-- ---- the answer of a call
-- an accepted rule or exactly-one form, a store emptied, a rule withdrawn; the other calls are not answered so
abbrev pub done_text : Call → Bytes
done_text (rule ls) = accepted_text
done_text (one ls) = accepted_text
done_text forget = forgotten_text
done_text withdraw = withdrawn_text
done_text (query n on off) = []
done_text (card n size) = []
done_text (keep_card n size) = []
done_text (closest n size on off) = []

-- the verdict of a card's lines, which its text begins with; the other calls have none
abbrev pub lists_yes : Call → Bool
lists_yes (rule ls) = true
lists_yes (query n on off) = true
lists_yes (card n size) = true
lists_yes forget = true
lists_yes withdraw = true
lists_yes (keep_card n size) = false
lists_yes (one ls) = true
lists_yes (closest n size on off) = true

-- what is refused after a search tells its visits: a card too large (21), a stopped call (34, or 37 where the share of a day's place stopped it), and a card without a line,
-- from which a closest reading was asked (35)
abbrev pub tells_visits : ℕ → Bool
tells_visits n = eqb n 21 || (eqb n 34 || (eqb n 35 || eqb n 37))

abbrev pub search_refusal_text : ℕ → ℕ → ℕ → Bytes
search_refusal_text n line visits = cond (tells_visits n) (overflow_text n line visits) (refusal_text n line)

-- a refused call; the others have not searched
abbrev pub refused_text : Call → ℕ → ℕ → ℕ → Bytes
refused_text (query m on off) n line visits = search_refusal_text n line visits
refused_text (rule ls) n line visits = refusal_text n line
refused_text forget n line visits = refusal_text n line
refused_text withdraw n line visits = refusal_text n line
refused_text (card m size) n line visits = search_refusal_text n line visits
refused_text (keep_card m size) n line visits = search_refusal_text n line visits
refused_text (one ls) n line visits = refusal_text n line
refused_text (closest m size on off) n line visits = search_refusal_text n line visits

-- the reply to a call on some line
abbrev pub reply_printed : Prefix → Call → ℕ → Reply → ℕ → Bytes
reply_printed D c line done visits = done_text c
reply_printed D c line (refused n) visits = refused_text c n line visits
reply_printed D c line swap visits = query_text swap_word visits
reply_printed D c line keep visits = query_text keep_word visits
reply_printed D c line unsettled visits = query_text unsettled_word visits
reply_printed D c line (lines ls table) visits = card_text (lists_yes c) D ls visits
reply_printed D c line (card_refused n table) visits = search_refusal_text n line visits
reply_printed D c line (found ls table r) visits = closest_text D r.reading r.number (length ls) visits

unfoldable pub answer_text : Prefix → Call → ℕ → Answer → Bytes
answer_text D c line a = reply_printed D c line a.reply a.visits

-- ---- the book of a session
abbrev pub end_line : Bytes
end_line = ascii "(end)"

-- "The book is the input up to and with its first line `(end)`": its bytes, its count of lines, and what follows
pub record Parted : Type 0 where
  pub book : Bytes
  pub count : ℕ
  pub rest : List Bytes

abbrev pub onto : Bytes → Parted → Parted
onto l p = record { book = l ++ (newline ∷ p.book); count = suc p.count; rest = p.rest }

unfoldable pub parted : List Bytes → Parted
parted [] = record { book = []; count = 0; rest = [] }
parted (l ∷ []) = record { book = l; count = 0; rest = [] }
parted (l ∷ m ∷ ls) = cond (same l end_line) (record { book = l ++ (newline ∷ []); count = 1; rest = m ∷ ls }) (onto l (parted (m ∷ ls)))
