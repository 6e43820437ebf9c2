-- What the parts of a session's turn owe, on a state in two lent tables.
use Rattle.std.specs.Prelude.{Option as Answer, Some, None, ℕ, ◌+◌, ◌≤◌, ◌≡◌, Bool, true, false, cond, ◌||◌, List, [], ltb, ℤ, length, take, drop}
use Rattle.std.proofs.Math.Option.{some}
use Rattle.std.specs.Borrow.{Bor}
use Rattle.qbf.specs.Formula.{Limits}
use Rattle.qbf.specs.Calls.{State as Read}
use Rattle.qbf.specs.Runs.{fresh}
use Rattle.layout.specs.Words.{Bytes}
use Rattle.layout.specs.Output.{refusal_text}
use Rattle.layout.specs.Opening.{Opened, refused, opened}
use Rattle.editions.specs.Opening.{both, open_editions}
use Rattle.sessions.specs.Session.{request_of, Turn, turn_of}
use Rattle.feeding.specs.Sessions.{unended_book}
use Rattle.reader.specs.Books.{count_of_lines, BookEnd}
use Rattle.state_parts.specs.Parts.{read_at, Whole}
use Rattle.answer_text.specs.declared.shown.Shown.{Shown}
use Rattle.answer_text.specs.Shown.{card_in, no_card}
use Rattle.answer_text.specs.Room.{answer_bytes}
use Rattle.line_buffer.specs.Numbers.{next_number}
use Rattle.buffered_lines.specs.declared.Line.TheVariants.{Next}
use Rattle.buffered_lines.specs.declared.Place.{Place}
use Rattle.buffered_lines.specs.Places.{skips, served_as, LineIn, Refilled}
use Rattle.session_turns.specs.declared.Stage.TheVariants as stage
use Rattle.session_turns.specs.declared.Session.{Session}

-- what is printed stands at the start of the table d, where that was large enough
abbrev pub Printed : Bytes → Bytes → ℕ → Bytes → Type 0
Printed t d₀ n d = answer_bytes ≤ length d₀ → (n ≤ length d) × (take n d ≡ t)

-- after the last answer
abbrev pub Over : ℕ → Session → Type 0
Over n r = (r.stage ≡ stage.Over) × (r.length ≡ n)

-- the last answer
pub record Ends (t d₀ : Bytes) (r : Session) (d : Bytes) : Type 0 where
  pub over : r.stage ≡ stage.Over
  pub printed : Printed t d₀ r.length d

-- more is read behind what is held, where the buffer has room for it
abbrev pub ReadBehind : ℕ → ℕ → ℕ → Answer ℕ → Type 0
ReadBehind held got room None = held + got ≤ room → ⊥
ReadBehind held got room (Some k) = (k ≡ held + got) × (k ≤ room)

-- ---- the book
abbrev pub WaitsForBook : ℕ → Session → Type 0
WaitsForBook k r = (r.stage ≡ stage.Book k) × (r.length ≡ 0)

abbrev pub started : Session → Type 0
started r = WaitsForBook 0 r

-- before the first line behind n lines and so many bytes, on the state b
pub record Behind (b : Read) (n end held : ℕ) (r : Session) (cells : List ℕ) (literals : List ℤ) : Type 0 where
  pub stage : r.stage ≡ stage.Calls (record { line = Next; at = end; held = held; number = next_number n })
  pub printed : r.length ≡ 0
  pub state : read_at cells literals ≡ some b
  pub shown : r.shown ≡ no_card

abbrev pub BookLeft : Opened → ℕ → ℕ → ℕ → Bytes → Session → List ℕ → List ℤ → Bytes → Type 0
BookLeft (refused k line) n end held d₀ r cells literals d = Ends (refusal_text k line) d₀ r d
BookLeft (opened b) n end held d₀ r cells literals d = Behind (fresh b) n end held r cells literals

-- "A table of the state shorter than the limits ask is 22", at no line
pub record BookOpened (L : Limits) (b : Bytes) (held : ℕ) (cells : List ℕ) (literals : List ℤ) (d₀ : Bytes) (r : Session) (cells' : List ℕ) (literals' : List ℤ) (d : Bytes) : Type 0 where
  pub whole : Whole L cells literals → BookLeft (open_editions both L b) (count_of_lines b) (length b) held d₀ r cells' literals' d
  pub short : (Whole L cells literals → ⊥) → Ends (refusal_text 22 0) d₀ r d

pub record BookClosed (L : Limits) (q : Bytes) (cells : List ℕ) (literals : List ℤ) (d₀ : Bytes) (r : Session) (d : Bytes) : Type 0 where
  pub whole : Whole L cells literals → Ends (unended_book (open_editions both L q)) d₀ r d
  pub short : (Whole L cells literals → ⊥) → Ends (refusal_text 22 0) d₀ r d

-- while the book is waited for the state's tables are left as they are
abbrev pub BookNotEnded : Limits → Bool → Bytes → List ℕ → List ℤ → Bytes → Session → List ℕ → List ℤ → Bytes → Type 0
BookNotEnded L true q cells literals d₀ r cells' literals' d = BookClosed L q cells literals d₀ r d
BookNotEnded L false q cells literals d₀ r cells' literals' d = WaitsForBook (length q) r × (cells' ≡ cells) × (literals' ≡ literals)

-- by where the book ends in what was read, if it does
abbrev pub BookAt : Limits → Answer ℕ → Bytes → Bool → List ℕ → List ℤ → Bytes → Session → List ℕ → List ℤ → Bytes → Type 0
BookAt L None q last cells literals d₀ r cells' literals' d = BookNotEnded L last q cells literals d₀ r cells' literals' d
BookAt L (Some e) q last cells literals d₀ r cells' literals' d = BookOpened L (take e q) (length q) cells literals d₀ r cells' literals' d

abbrev pub BookTurned : Limits → Bytes → Bool → List ℕ → List ℤ → Bytes → Session → List ℕ → List ℤ → Bytes → Type 0
BookTurned L q last cells literals d₀ r cells' literals' d = (e : Answer ℕ) × BookEnd q e × BookAt L e q last cells literals d₀ r cells' literals' d

-- ---- a line
pub record Served (t : Turn) (r : Session) (cells : List ℕ) (literals : List ℤ) (cards d : Bytes) : Type 0 where
  pub within : r.length ≤ length d
  pub text : take r.length d ≡ t.text
  pub state : read_at cells literals ≡ some t.state
  pub shown : card_in r.shown cards ≡ t.shown

-- a line that ends with its byte 10, behind which what is not used yet begins
pub record LineAnswered (p : Place) (s : Shown) (l : Bytes) (cells : List ℕ) (literals : List ℤ) (cards d₀ : Bytes) (r : Session) (cells' : List ℕ) (literals' : List ℤ) (cards' d : Bytes) : Type 0 where
  pub stage : r.stage ≡ stage.Calls (record { line = Next; at = p.at + length l + 1; held = p.held; number = next_number p.number })
  pub served : answer_bytes ≤ length d₀ → (y : Read) → read_at cells literals ≡ some y → Served (turn_of y (card_in s cards) p.number (request_of (served_as (skips p.line) l))) r cells' literals' cards' d

abbrev pub last_text : Bool → Bytes → Bytes
last_text begun t = cond begun t []

pub record LineEnded (p : Place) (s : Shown) (cells : List ℕ) (literals : List ℤ) (cards d₀ : Bytes) (r : Session) (d : Bytes) : Type 0 where
  pub over : r.stage ≡ stage.Over
  pub printed : (y : Read) → read_at cells literals ≡ some y → Printed (last_text (skips p.line || ltb p.at p.held) (turn_of y (card_in s cards) p.number (request_of [])).text) d₀ r.length d

-- more is to be read behind what is kept of a line
pub record MoreWanted (p : Place) (s : Shown) (text : Bytes) (r : Session) (text' : Bytes) : Type 0 where
  pub place : Place
  pub refilled : Refilled p text place text'
  pub stage : r.stage ≡ stage.Calls place
  pub printed : r.length ≡ 0
  pub shown : r.shown ≡ s

abbrev pub LineNotEnded : Bool → Place → Shown → Bytes → List ℕ → List ℤ → Bytes → Bytes → Session → Bytes → List ℕ → List ℤ → Bytes → Bytes → Type 0
LineNotEnded true p s text cells literals cards d₀ r text' cells' literals' cards' d = LineEnded p s cells literals cards d₀ r d × (text' ≡ text)
LineNotEnded false p s text cells literals cards d₀ r text' cells' literals' cards' d = MoreWanted p s text r text' × (cells' ≡ cells) × (literals' ≡ literals) × (cards' ≡ cards)

-- by the first line of what was read, if it is ended
abbrev pub LineAt : Answer (Bor Bytes) → Bool → Place → Shown → Bytes → List ℕ → List ℤ → Bytes → Bytes → Session → Bytes → List ℕ → List ℤ → Bytes → Bytes → Type 0
LineAt None last p s text cells literals cards d₀ r text' cells' literals' cards' d = LineNotEnded last p s text cells literals cards d₀ r text' cells' literals' cards' d
LineAt (Some l) last p s text cells literals cards d₀ r text' cells' literals' cards' d = LineAnswered p s l.now cells literals cards d₀ r cells' literals' cards' d × (text' ≡ text)

abbrev pub LinesTurned : Place → Shown → Bool → Bytes → List ℕ → List ℤ → Bytes → Bytes → Session → Bytes → List ℕ → List ℤ → Bytes → Bytes → Type 0
LinesTurned p s last text cells literals cards d₀ r text' cells' literals' cards' d =
    (l : Answer (Bor Bytes)) × LineIn (drop p.at (take p.held text)) l × LineAt l last p s text cells literals cards d₀ r text' cells' literals' cards' d
