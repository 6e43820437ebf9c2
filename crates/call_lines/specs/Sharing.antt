-- What a line owes whose call may make so many visits. Paper 02, wish 12: its limit is its own ceiling or the share, and a stop by the share is told as 37.
use Rattle.std.specs.Prelude.{ℕ, ◌≤◌, ◌≡◌, List, ℤ, length, take}
use Rattle.std.proofs.Math.Option.{Option, none, some}
use Rattle.qbf.specs.Calls.{Call, ceiling_of, Answer, answer, State as Read}
use Rattle.qbf.specs.Demands.{AfterSearch}
use Rattle.layout.specs.Words.{Bytes}
use Rattle.layout.specs.Output.{refusal_text}
use Rattle.layout.specs.Session.{answer_text}
use Rattle.sessions.specs.Session.{Card, card_after}
use Rattle.days.specs.Day.{limited, shared_reply}
use Rattle.state_parts.specs.Parts.{read_at}
use Rattle.serving.specs.Serves.{out_of}
use Rattle.answer_text.specs.declared.shown.Shown.{Shown}
use Rattle.answer_text.specs.Shown.{card_in}
use Rattle.card_answers.specs.Lines.{prefix_read}
use Rattle.line_turns.specs.Line.{line_next, line_refusal}
use Rattle.call_lines.specs.declared.Shared.{Shared}

-- the call of a line under its limit
abbrev pub under_limit : ℕ → Option Call → Option Call
under_limit m none = none
under_limit m (some c) = some (limited m c)

-- the ceiling of a call that has one
abbrev pub HasCeiling : ℕ → Option Call → Type 0
HasCeiling own none = Unit {0}
HasCeiling own (some c) = (k : ℕ) → ceiling_of c ≡ some k → k ≡ own

-- "A walk stopped by the shared total returns 37 where its own ceiling is higher, otherwise 34, with the visits made."
abbrev pub out_shared : ℕ → Option Read → Call → Answer
out_shared m o c =
    let a = out_of o (limited m c) in
    answer (shared_reply (ceiling_of c) m a.reply) a.visits

abbrev pub shared_answer : ℕ → Option Read → ℕ → Option Call → Bytes
shared_answer m o n none = refusal_text 1 n
shared_answer m o n (some c) = answer_text (prefix_read o) c n (out_shared m o c)

abbrev pub shared_visits : ℕ → Option Read → Option Call → ℕ
shared_visits m o none = 0
shared_visits m o (some c) = (out_shared m o c).visits

abbrev pub shared_card : ℕ → Option Read → Option Call → Option Card → Option Card
shared_card m o none z = z
shared_card m o (some c) z = card_after (prefix_read o) c (out_shared m o c).reply z

-- line n had that call, or none, which might make m visits: it was answered by t and left the tables as given last
pub record SharedServedAt (m : ℕ) (cells : List ℕ) (literals : List ℤ) (c : Option Call) (n : ℕ) (t : Bytes) (cells' : List ℕ) (literals' : List ℤ) : Type 0 where
  pub text : t ≡ shared_answer m (read_at cells literals) n c
  pub next : read_at cells' literals' ≡ line_next (read_at cells literals) (under_limit m c)
  -- a refusal before the search leaves every cell
  pub kept : (k : ℕ) → line_refusal (read_at cells literals) (under_limit m c) ≡ some k → (AfterSearch k → ⊥) → (cells' ≡ cells) × (literals' ≡ literals)

-- the answer stands at the start of the table d; the card answered last was told by s₀ and t₀, and is by the turn and t
pub record SharedAt (m : ℕ) (cells : List ℕ) (literals : List ℤ) (c : Option Call) (n : ℕ) (s₀ : Shown) (t₀ : Bytes) (r : Shared) (cells' : List ℕ) (literals' : List ℤ) (t d : Bytes) : Type 0 where
  pub within : r.turn.length ≤ length d
  pub served : SharedServedAt m cells literals c n (take r.turn.length d) cells' literals'
  pub shown : card_in r.turn.shown t ≡ shared_card m (read_at cells literals) c (card_in s₀ t₀)
  pub visits : r.visits ≡ shared_visits m (read_at cells literals) c
