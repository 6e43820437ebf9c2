-- What a call owes under its ceiling: a turn, whether its search was stopped, and the visits that it made.
use Rattle.std.specs.Prelude.{ℕ, ◌≡◌, Bool, false, List, ℤ, eqb}
use Rattle.std.proofs.Math.Option.{Option, none, some}
use Rattle.qbf.specs.Calls.{Call, ceiling_of, State as Read}
use Rattle.qbf.specs.Demands.{refusal_of}
use Rattle.layout.specs.Words.{Bytes}
use Rattle.state_parts.specs.Parts.{read_at}
use Rattle.serving.specs.Serves.{number, out_of}
use Rattle.answer_text.specs.declared.shown.Shown.{Shown}
use Rattle.line_turns.specs.Line.{TurnedAt}
use Rattle.call_lines.specs.declared.Called.{Called}

-- a line that is no call makes no visits
abbrev pub line_visits : Option Read → Option Call → ℕ
line_visits o none = 0
line_visits o (some c) = (out_of o c).visits

-- a call without a ceiling is not stopped
abbrev pub stopped_at : Option ℕ → Option ℕ → Bool
stopped_at none r = false
stopped_at (some own) r = eqb (number r) 34

abbrev pub line_stopped : Option Read → Option Call → Bool
line_stopped o none = false
line_stopped o (some c) = stopped_at (ceiling_of c) (refusal_of (out_of o c).reply)

pub record CalledAt (cells : List ℕ) (literals : List ℤ) (c : Option Call) (n : ℕ) (s₀ : Shown) (t₀ : Bytes) (r : Called) (cells' : List ℕ) (literals' : List ℤ) (t d : Bytes) : Type 0 where
  pub turned : TurnedAt cells literals c n s₀ t₀ r.turn cells' literals' t d
  pub stopped : r.stopped ≡ line_stopped (read_at cells literals) c
  pub visits : r.visits ≡ line_visits (read_at cells literals) c

-- a call that is no card does not touch the card's table
abbrev pub CalledBesideAt : List ℕ → List ℤ → Option Call → ℕ → Shown → Called → List ℕ → List ℤ → Bytes → Type 0
CalledBesideAt cells literals c n s r cells' literals' d = (t : Bytes) → CalledAt cells literals c n s t r cells' literals' t d
