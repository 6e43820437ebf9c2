-- What making a text's card owes under limits, for every text and all lent tables, and what is printed of it.
use Rattle.std.specs.Prelude.{ℕ, zero, suc, ◌≡◌, true, List, [], ◌∷◌, ℤ, length, Result, Ok, Err}
use Rattle.qbf.specs.Formula.{Limits, Prefix}
use Rattle.qbf.specs.Truth.{free_variables}
use Rattle.qbf.specs.Learning.{empty_store}
use Rattle.qbf.specs.Card.{zero_table}
use Rattle.qbf.specs.Ceiling.{highest_ceiling}
use Rattle.qbf.specs.Calls.{Reply, done, refused, swap, keep, unsettled, lines, card_refused, found, learning_card}
use Rattle.layout.specs.Words.{Bytes, joined}
use Rattle.layout.specs.Output.{refusal_text}
use Rattle.layout.specs.Page.{page_bytes, pages}
use Rattle.layout.specs.Opening as opening
use Rattle.editions.specs.Opening.{both, open_editions}
use Rattle.page.specs.Lent.{PageLent}
use Rattle.refusal.specs.Refusal.{number_of}
use Rattle.opening.specs.declared.text.RefusedAt.{RefusedAt}
use Rattle.cover.specs.declared.CardLines.{CardLines}
use Rattle.lent_texts.specs.Whole.{IfWhole}

-- ---- the card
-- a reply with lines or a refusal, the only ones that a card has
abbrev pub ListsMade : Prefix → ℕ → Bytes → Result CardLines RefusedAt → Bytes → Type 0
ListsMade D n table (Ok m) t = (m.count ≡ n) × (m.free ≡ free_variables D) × (t ≡ table)
ListsMade D n table (Err q) t = ⊥

abbrev pub RefusalMade : ℕ → ℕ → Bytes → Result CardLines RefusedAt → Bytes → Type 0
RefusalMade n line table (Ok m) t = ⊥
RefusalMade n line table (Err q) t = (number_of q.refusal ≡ n) × (q.line ≡ line) × (t ≡ table)

abbrev pub ReplyMade : Prefix → Reply → Result CardLines RefusedAt → Bytes → Type 0
ReplyMade D (lines ls table) r t = ListsMade D (length ls) table r t
ReplyMade D (card_refused n table) r t = RefusalMade n 0 table r t
ReplyMade D done r t = ⊥
ReplyMade D (refused n) r t = ⊥
ReplyMade D swap r t = ⊥
ReplyMade D keep r t = ⊥
ReplyMade D unsettled r t = ⊥
ReplyMade D (found ls tb z) r t = ⊥

abbrev pub CardMade : ℕ → opening.Opened → Result CardLines RefusedAt → Bytes → Type 0
CardMade size (opening.refused n line) r t = RefusalMade n line (zero_table size) r t
CardMade size (opening.opened b) r t = ReplyMade b.prefix (learning_card true b empty_store highest_ceiling size).out.reply r t

-- 22 at no line where the tables are too short for a state
abbrev pub MakesCard : Limits → List ℕ → List ℤ → Bytes → ℕ → Result CardLines RefusedAt → Bytes → Type 0
MakesCard L cells literals s size r t = IfWhole L cells literals (CardMade size (open_editions both L s) r t) (RefusalMade 22 0 (zero_table size) r t)

-- ---- its pages
-- each page, from page n on, as it was written into a table of a page's bytes
abbrev pub PagesWritten : Bytes → ℕ → ℕ → ℕ → ℕ → List Bytes → Type 0
PagesWritten table count f zero n [] = Unit {0}
PagesWritten table count f zero n (d ∷ ds) = ⊥
PagesWritten table count f (suc k) n [] = ⊥
PagesWritten table count f (suc k) n (d ∷ ds) = ((d₀ : Bytes) × (r : ℕ) × (length d₀ ≡ page_bytes) × PageLent table count f n d₀ r d) × PagesWritten table count f k (suc n) ds

-- what is printed: all pages of a card, or the refusal
abbrev pub printed_by : Result CardLines RefusedAt → List Bytes → Bytes
printed_by (Ok m) ds = joined ds
printed_by (Err q) ds = refusal_text (number_of q.refusal) q.line

abbrev pub PagesOf : Result CardLines RefusedAt → Bytes → List Bytes → Type 0
PagesOf (Ok m) t ds = PagesWritten t m.count m.free (pages m.count) 1 ds
PagesOf (Err q) t ds = Unit {0}
