-- What a call or the book's text owes on a state in two lent tables, for every state and line number: the answer, the next state and the card answered last are
-- those of the session's definition.
use Rattle.std.specs.Prelude.{ℕ, ◌≤◌, ◌≡◌, List, ℤ, length, take}
use Rattle.std.proofs.Math.Option.{Option, none, some}
use Rattle.qbf.specs.Calls.{Call, State as Read}
use Rattle.qbf.specs.Demands.{AfterSearch, refusal_of}
use Rattle.layout.specs.Words.{Bytes}
use Rattle.sessions.specs.Session.{Card, card_after}
use Rattle.state_parts.specs.Parts.{read_at}
use Rattle.serving.specs.Serves.{out_of, next_of}
use Rattle.answer_text.specs.declared.shown.Shown.{Shown}
use Rattle.answer_text.specs.Shown.{card_in}
use Rattle.text_answers.specs.Text.{TextAnswered}
use Rattle.card_answers.specs.Lines.{prefix_read, line_answer}
use Rattle.line_turns.specs.declared.Turn.{Turn}

abbrev pub line_next : Option Read → Option Call → Option Read
line_next o none = o
line_next o (some c) = next_of o c

abbrev pub line_refusal : Option Read → Option Call → Option ℕ
line_refusal o none = some 1
line_refusal o (some c) = refusal_of (out_of o c).reply

-- a line that is no call leaves the card answered last
abbrev pub line_card : Option Read → Option Call → Option Card → Option Card
line_card o none z = z
line_card o (some c) z = card_after (prefix_read o) c (out_of o c).reply z

-- line n had that call, or none; it was answered by t and left the tables as given last
pub record CallServedAt (cells : List ℕ) (literals : List ℤ) (c : Option Call) (n : ℕ) (t : Bytes) (cells' : List ℕ) (literals' : List ℤ) : Type 0 where
  pub text : t ≡ line_answer (read_at cells literals) n c
  pub next : read_at cells' literals' ≡ line_next (read_at cells literals) c
  -- "A refusal returns .. the state as given .. Only 21 differs", and 34: every cell of it
  pub kept : (k : ℕ) → line_refusal (read_at cells literals) c ≡ some k → (AfterSearch k → ⊥) → (cells' ≡ cells) × (literals' ≡ literals)

-- the answer stands at the start of the table d; the card answered last was told by s₀ and t₀, and is by the turn and t
pub record TurnedAt (cells : List ℕ) (literals : List ℤ) (c : Option Call) (n : ℕ) (s₀ : Shown) (t₀ : Bytes) (r : Turn) (cells' : List ℕ) (literals' : List ℤ) (t d : Bytes) : Type 0 where
  pub within : r.length ≤ length d
  pub served : CallServedAt cells literals c n (take r.length d) cells' literals'
  pub shown : card_in r.shown t ≡ line_card (read_at cells literals) c (card_in s₀ t₀)

-- a call that is no card does not touch the card's table
abbrev pub TurnedBesideAt : List ℕ → List ℤ → Option Call → ℕ → Shown → Turn → List ℕ → List ℤ → Bytes → Type 0
TurnedBesideAt cells literals c n s r cells' literals' d = (t : Bytes) → TurnedAt cells literals c n s t r cells' literals' t d

-- the book's text was asked for; the card answered last is left, and the state is only read
pub record WriteTurnedAt (cells : List ℕ) (literals : List ℤ) (size : Option ℕ) (n : ℕ) (s : Shown) (r : Turn) (d : Bytes) : Type 0 where
  pub text : TextAnswered cells literals size n r.length d
  pub shown : r.shown ≡ s
