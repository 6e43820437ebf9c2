-- The tables that a day is lent: two slices in which its books lie, the cards answered last, and what is kept beside them.
use Rattle.std.specs.Prelude.{ℕ, ◌-◌, ◌≡◌, Bool, false, cond, List, ℤ, length, set, replicate, Result}
use Rattle.std.proofs.Math.Option.{Option}
use Rattle.qbf.specs.Formula.{Formula, highest}
use Rattle.layout.specs.Words.{Bytes}
use Rattle.days.specs.Accounts.{books}
use Rattle.days.specs.Day.{outside}
use Rattle.day_text.specs.Output.{opening_text}
use Rattle.day_text.specs.Program.{book_of}
use Rattle.opening.specs.declared.text.RefusedAt.{RefusedAt}
use Rattle.day_reader.specs.declared.place.PlaceLine.{PlaceLine}
use Rattle.lent_texts.specs.declared.TheConstants.{CELLS, LITERALS}
use Rattle.state_parts.specs.Parts.{Whole}
use Rattle.places.specs.declared.rooms.Rooms.{Rooms}
use Rattle.places.specs.Rooms.{part_at}
use Rattle.day_lines.specs.declared.Kept.{Kept}
use Rattle.day_lines.specs.Served.{served_in}
use Rattle.day_turns.specs.Lent.{Shown, Loads}
use Rattle.day_turns.specs.Turns.{text_told, opened_in}

pub record Tables : Type 0 where
  pub kept : Kept
  pub cells : List ℕ
  pub literals : List ℤ
  pub cards : List Bytes

abbrev pub tables : Kept → List ℕ → List ℤ → List Bytes → Tables
tables kept cells literals cards = record { kept = kept; cells = cells; literals = literals; cards = cards }

-- a place has room for a book under any limits that it may be given
pub record LentFor (m : Tables) : Type 0 where
  pub cards : length m.cards ≡ books
  pub accounts : length m.kept.accounts.books ≡ books
  pub rooms : (k : ℕ) → outside k ≡ false → Whole highest (part_at m.kept.rooms.cells k m.cells) (part_at m.kept.rooms.literals k m.literals)

abbrev pub in_tables : Shown Tables
in_tables = record { Lent = LentFor; Serves = λ m z. served_in m.kept m.cells m.literals m.cards ≡ z }

-- ---- what is kept
-- a place has a book, or none
abbrev pub byte_of : Bool → ℕ
byte_of book = cond book 1 0

abbrev pub marked : Kept → ℕ → Bool → Kept
marked s k book =
    record { rooms = s.rooms; accounts = record { total = s.accounts.total; used = s.accounts.used; books = set s.accounts.books (k - 1) (byte_of book) }; shown = s.shown }

-- a text was opened onto the tables of its place, which no longer is without a book, or it was refused; nothing is asked of these but room
pub record PlaceOpened (t : PlaceLine) (b : Bytes) (s : Kept) (cells : List ℕ) (literals : List ℤ) (r : Result (Unit {0}) RefusedAt) (s' : Kept) (cells' : List ℕ) (literals' : List ℤ) : Type 0 where
  pub told : (cards : List Bytes) (total : ℕ) (bs : List (Option Formula)) → outside t.place ≡ false → Loads in_tables (tables s cells literals cards) total bs → opening_text (opened_in t b) ≡ text_told r
  pub loads : (cards : List Bytes) (total : ℕ) (bs : List (Option Formula)) → outside t.place ≡ false → Loads in_tables (tables s cells literals cards) total bs
      → Loads in_tables (tables s' cells' literals' cards) total (set bs (t.place - 1) (book_of (opened_in t b)))

-- ---- the program's own
abbrev pub Unloaded : Kept → Type 0
Unloaded s = (s.rooms ≡ record { cells = replicate books CELLS; literals = replicate books LITERALS }) × (length s.accounts.books ≡ books)
