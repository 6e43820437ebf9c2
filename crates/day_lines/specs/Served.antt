-- What a line behind the loading owes on the tables of a day, for every line and whatever stands in them: what is printed, and the day and the cards answered last that
-- they hold then, are those of the program's definition. Paper 02, wish 12.
use Rattle.std.specs.Prelude.{ℕ, ◌-◌, ◌≤◌, ◌≡◌, true, false, List, [], ◌∷◌, ℤ, length, take, set}
use Rattle.std.proofs.Math.Option.{Option, none, some}
use Rattle.layout.specs.Words.{Bytes}
use Rattle.sessions.specs.Session.{Request, Card}
use Rattle.feeding.specs.Lines.{Answered}
use Rattle.days.specs.Accounts.{overspent}
use Rattle.days.specs.Day.{book_at, outside}
use Rattle.day_text.specs.Program.{Served, answer_placed, serve_placed}
use Rattle.answer_text.specs.declared.shown.Shown.{Shown}
use Rattle.answer_text.specs.Shown.{no_card, card_in}
use Rattle.places.specs.Day.{booked, day_in}
use Rattle.day_lines.specs.declared.Kept.{Kept}

-- ---- what the tables hold
-- the card answered last at each place
abbrev pub shown_in : List Shown → List Bytes → List (Option Card)
shown_in [] ts = []
shown_in (s ∷ ss) [] = []
shown_in (s ∷ ss) (t ∷ ts) = card_in s t ∷ shown_in ss ts

abbrev pub served_in : Kept → List ℕ → List ℤ → List Bytes → Served
served_in k cells literals cards = record { day = day_in k.rooms k.accounts cells literals; shown = shown_in k.shown cards }

-- no card was answered last at place k
abbrev pub without_card : Kept → ℕ → Kept
without_card s k = record { rooms = s.rooms; accounts = s.accounts; shown = set s.shown (k - 1) no_card }

-- place k has a book, and the accounts do not stand
abbrev pub Overspent : Kept → ℕ → Type 0
Overspent s k = (outside k ≡ false) × (booked s.accounts.books k ≡ true) × (overspent s.accounts.total s.accounts.used ≡ true)

-- ---- what is owed
-- the text stands in the first r bytes of the table d, and z is left
pub record Told (t : Answered Served) (z : Served) (r : ℕ) (d : Bytes) : Type 0 where
  pub within : r ≤ length d
  pub text : take r d ≡ t.text
  pub left : z ≡ t.left

-- line n
abbrev pub LineServed : ℕ → Served → Option Bytes → Served → ℕ → Bytes → Type 0
LineServed n z l z' r d = Told (serve_placed n z l) z' r d

-- a request at place k on line n
abbrev pub PlaceServed : ℕ → Served → ℕ → Option Request → Served → ℕ → Bytes → Type 0
PlaceServed n z k none z' r d = ⊥
PlaceServed n z k (some q) z' r d = Told (answer_placed (book_at z.day k) z n k q) z' r d
