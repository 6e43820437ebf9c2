-- What a turn of the program `session` owes for every buffer, on a state in two lent tables: what it prints and leaves is what the definition by steps prints and holds.
use Rattle.std.specs.Prelude.{ℕ, ◌+◌, ◌≤◌, ◌≡◌, List, [], ◌∷◌, ℤ, length}
use Rattle.std.proofs.Math.Option.{some}
use Rattle.qbf.specs.Formula.{Limits}
use Rattle.qbf.specs.Calls.{State as Read}
use Rattle.layout.specs.Words.{Bytes, newline, split}
use Rattle.layout.specs.Output.{refusal_text}
use Rattle.layout.specs.Opening.{text_bytes}
use Rattle.layout.specs.Session.{parted}
use Rattle.feeding.specs.Sessions.{Held, book, calls, over, start, on_byte, at_end}
use Rattle.state_parts.specs.Parts.{read_at, Whole}
use Rattle.answer_text.specs.declared.shown.Shown.{Shown}
use Rattle.answer_text.specs.Shown.{card_in}
use Rattle.answer_text.specs.Room.{answer_bytes}
use Rattle.buffered_lines.specs.declared.Place.{Place}
use Rattle.buffered_lines.specs.Places.{part_in, skips}
use Rattle.buffered_lines.specs.Runs.{Program, TurnOf}
use Rattle.session_turns.specs.declared.Stage.{Stage}
use Rattle.session_turns.specs.declared.Stage.TheVariants as stage
use Rattle.session_turns.specs.declared.Session.{Session}
use Rattle.session_turns.specs.Stages.{view_of}
use Rattle.session_turns.specs.Turns.{Printed}

-- the tables that a session is lent for good: the state's two, and the card's
pub record Tables : Type 0 where
  pub cells : List ℕ
  pub literals : List ℤ
  pub cards : Bytes

abbrev pub tables : List ℕ → List ℤ → Bytes → Tables
tables cells literals cards = record { cells = cells; literals = literals; cards = cards }

-- what the definition holds before the bytes that are not used yet
abbrev pub calls_in : Place → Shown → Bytes → Read → Held
calls_in p s cards y = calls (record { number = p.number; part = part_in (skips p.line); left = record { state = y; shown = card_in s cards } })

-- the state's tables are asked for nothing but room until the book is opened
abbrev pub ShowsAs : Limits → Stage → Shown → Tables → Held → Type 0
ShowsAs L (stage.Book k) s m h = (h ≡ start) × Whole L m.cells m.literals
ShowsAs L (stage.Calls p) s m h = (y : Read) × (read_at m.cells m.literals ≡ some y) × (h ≡ calls_in p s m.cards y)
ShowsAs L stage.Over s m h = h ≡ over

-- nothing is left to be done before more is read
abbrev pub Quiet : Held → Bytes → Type 0
Quiet (book d) q = ((parted (split newline q)).rest ≡ []) × (length q ≤ text_bytes)
Quiet (calls h) q = split newline q ≡ q ∷ []
Quiet over q = Unit {0}

-- the program `session` by turns
abbrev pub session : Limits → Program Session Tables Held
session L =
    record {
      view = λ s. view_of s.stage s.length;
      on = on_byte L;
      at_end = at_end L;
      Shows = λ s m h. ShowsAs L s.stage s.shown m h;
      Quiet = Quiet;
      answer_bytes = answer_bytes;
    }

abbrev pub Turned : Limits → Session → ℕ → Bytes → List ℕ → List ℤ → Bytes → Bytes → Session → Bytes → List ℕ → List ℤ → Bytes → Bytes → Type 0
Turned L s got text cells literals cards d₀ r text' cells' literals' cards' d = TurnOf (session L) s got text (tables cells literals cards) d₀ r text' (tables cells' literals' cards') d

-- "A table of the state shorter than the limits ask is 22", at no line: nothing is done with such tables but to open the book onto them
abbrev pub LeftShort : Stage → Bytes → ℕ → List ℕ → List ℤ → List ℕ → List ℤ → Bytes → Type 0
LeftShort (stage.Book k) d₀ n cells literals cells' literals' d = (n ≡ 0) × (cells' ≡ cells) × (literals' ≡ literals)
LeftShort (stage.Calls p) d₀ n cells literals cells' literals' d = ⊥
LeftShort stage.Over d₀ n cells literals cells' literals' d = Printed (refusal_text 22 0) d₀ n d

abbrev pub TurnedShort : Limits → Session → ℕ → Bytes → List ℕ → List ℤ → Bytes → Session → List ℕ → List ℤ → Bytes → Type 0
TurnedShort L s got text cells literals d₀ r cells' literals' d =
    (k : ℕ) → s.stage ≡ stage.Book k → k + got ≤ length text → (Whole L cells literals → ⊥) → LeftShort r.stage d₀ r.length cells literals cells' literals' d
