-- What a line owes at a place of a day, whose call may make m visits. Writing and a page make none. Paper 02, wish 12.
use Rattle.std.specs.Prelude.{ℕ, ◌≤◌, ◌≡◌, List, ℤ, length, take}
use Rattle.std.proofs.Math.Option.{Option, none, some}
use Rattle.layout.specs.Words.{Bytes}
use Rattle.sessions.specs.Session.{Request, call, write, page, Card, page_answer}
use Rattle.state_parts.specs.Parts.{read_at}
use Rattle.answer_text.specs.declared.shown.Shown.{Shown}
use Rattle.answer_text.specs.Shown.{card_in}
use Rattle.text_answers.specs.Text.{write_answer}
use Rattle.call_lines.specs.declared.Shared.{Shared}
use Rattle.call_lines.specs.Sharing.{SharedServedAt, shared_card, shared_visits}

abbrev pub RequestSharedServedAt : ℕ → List ℕ → List ℤ → Option Card → Option Request → ℕ → Bytes → List ℕ → List ℤ → Option Card → ℕ → Type 0
RequestSharedServedAt m cells literals z none n t cells' literals' z' v = SharedServedAt m cells literals none n t cells' literals' × (z' ≡ z) × (v ≡ 0)
RequestSharedServedAt m cells literals z (some (call c)) n t cells' literals' z' v =
    SharedServedAt m cells literals (some c) n t cells' literals' × (z' ≡ shared_card m (read_at cells literals) (some c) z) × (v ≡ shared_visits m (read_at cells literals) (some c))
RequestSharedServedAt m cells literals z (some (write size)) n t cells' literals' z' v = (t ≡ write_answer (read_at cells literals) n size) × (cells' ≡ cells) × (literals' ≡ literals) × (z' ≡ z) × (v ≡ 0)
RequestSharedServedAt m cells literals z (some (page k)) n t cells' literals' z' v = (t ≡ page_answer z n k) × (cells' ≡ cells) × (literals' ≡ literals) × (z' ≡ z) × (v ≡ 0)

-- the answer stands at the start of the table d; the card answered last was told by s₀ and t₀, and is by the turn and t
pub record RequestSharedAt (m : ℕ) (cells : List ℕ) (literals : List ℤ) (q : Option Request) (n : ℕ) (s₀ : Shown) (t₀ : Bytes) (r : Shared) (cells' : List ℕ) (literals' : List ℤ) (t d : Bytes) : Type 0 where
  pub within : r.turn.length ≤ length d
  pub served : RequestSharedServedAt m cells literals (card_in s₀ t₀) q n (take r.turn.length d) cells' literals' (card_in r.turn.shown t) r.visits
