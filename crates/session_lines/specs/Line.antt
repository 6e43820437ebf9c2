-- What a line of a session owes on a state in two lent tables, for every state, line, number and card answered last: its answer, the next state and the card
-- answered last then are those of the session's definition.
use Rattle.std.specs.Prelude.{ℕ, suc, ◌≤◌, ◌<◌, ◌≡◌, cond, List, [], ◌∷◌, ℤ, length, take}
use Rattle.std.proofs.Math.Option.{Option, none, some}
use Rattle.layout.specs.Words.{Bytes, joined}
use Rattle.layout.specs.Output.{refusal_text}
use Rattle.layout.specs.Page.{no_page, page_of}
use Rattle.sessions.specs.Session.{Request, call, write, page, request_of, Card, page_answer}
use Rattle.state_parts.specs.Parts.{read_at}
use Rattle.answer_text.specs.declared.shown.Shown.{Shown}
use Rattle.answer_text.specs.Shown.{card_in}
use Rattle.answer_text.specs.Room.{answer_bytes, TooShort}
use Rattle.text_answers.specs.Text.{write_answer}
use Rattle.line_turns.specs.declared.Turn.{Turn}
use Rattle.line_turns.specs.Line.{CallServedAt, line_card}
use Rattle.session_lines.specs.declared.Spoken.{Spoken}

-- ---- a request: line n, with z the card answered last, was answered by t and left the tables as given last, and z'
-- writing and a page leave every cell of the state, and the card
abbrev pub RequestServedAt : List ℕ → List ℤ → Option Card → Option Request → ℕ → Bytes → List ℕ → List ℤ → Option Card → Type 0
RequestServedAt cells literals z none n t cells' literals' z' = CallServedAt cells literals none n t cells' literals' × (z' ≡ z)
RequestServedAt cells literals z (some (call c)) n t cells' literals' z' = CallServedAt cells literals (some c) n t cells' literals' × (z' ≡ line_card (read_at cells literals) (some c) z)
RequestServedAt cells literals z (some (write size)) n t cells' literals' z' = (t ≡ write_answer (read_at cells literals) n size) × (cells' ≡ cells) × (literals' ≡ literals) × (z' ≡ z)
RequestServedAt cells literals z (some (page k)) n t cells' literals' z' = (t ≡ page_answer z n k) × (cells' ≡ cells) × (literals' ≡ literals) × (z' ≡ z)

-- ---- a page
-- of the card in a table
abbrev pub page_rows : Bytes → ℕ → ℕ → ℕ → ℕ → Bytes
page_rows table lines free n k = cond (no_page table lines free k) (refusal_text 36 n) (joined (page_of table lines free k))

-- the card answered last is left
pub record PageTurnedAt (k n : ℕ) (s : Shown) (t : Bytes) (r : Turn) (d : Bytes) : Type 0 where
  pub within : r.length ≤ length d
  pub text : take r.length d ≡ page_answer (card_in s t) n k
  pub shown : r.shown ≡ s

-- ---- the lent tables
-- the answer stands at the start of the table d; the card answered last was told by s₀ and t₀, and is by the turn and t
pub record RequestTurnedAt (cells : List ℕ) (literals : List ℤ) (q : Option Request) (n : ℕ) (s₀ : Shown) (t₀ : Bytes) (r : Turn) (cells' : List ℕ) (literals' : List ℤ) (t d : Bytes) : Type 0 where
  pub within : r.length ≤ length d
  pub served : RequestServedAt cells literals (card_in s₀ t₀) q n (take r.length d) cells' literals' (card_in r.shown t)

abbrev pub spoken_turn : Spoken → Turn
spoken_turn r = record { shown = r.shown; length = r.length }

-- An answer that is written has no number, whatever its text says. In a table that is too short nothing is served.
pub record ServesLineAt (cells : List ℕ) (literals : List ℤ) (l : Bytes) (n : ℕ) (s₀ : Shown) (t₀ d₀ : Bytes) (r : Spoken) (cells' : List ℕ) (literals' : List ℤ) (t d : Bytes) : Type 0 where
  pub short : length d₀ < answer_bytes → TooShort r.refusal r.length d₀ d × (r.shown ≡ s₀) × (t ≡ t₀) × (cells' ≡ cells) × (literals' ≡ literals)
  pub served : answer_bytes ≤ length d₀ → (r.refusal ≡ 0) × RequestTurnedAt cells literals (request_of l) n s₀ t₀ (spoken_turn r) cells' literals' t d

-- ---- lines one after another, numbered from n on, each on the state and the card that the last one left
abbrev pub ServedLinesAt : List ℕ → List ℤ → Option Card → ℕ → List Bytes → List Bytes → Type 0
ServedLinesAt cells literals z n [] [] = Unit {0}
ServedLinesAt cells literals z n [] (t ∷ ts) = ⊥
ServedLinesAt cells literals z n (l ∷ ls) [] = ⊥
ServedLinesAt cells literals z n (l ∷ ls) (t ∷ ts) =
    (cells' : List ℕ) × (literals' : List ℤ) × (z' : Option Card) × RequestServedAt cells literals z (request_of l) n t cells' literals' z' × ServedLinesAt cells' literals' z' (suc n) ls ts
