-- A day that starts, a text opened at a place of it, and a book at a place written as text. Paper 02, wish 12.
use Rattle.std.specs.Prelude.{ℕ, ◌-◌, ◌≡◌, true, false, List, ℤ, set, replicate, Result, Ok, Err}
use Rattle.std.proofs.Math.Option.{Option, none, some}
use Rattle.qbf.specs.Formula.{Limits, Formula}
use Rattle.qbf.specs.Card.{zero_table}
use Rattle.layout.specs.Words.{Bytes}
use Rattle.layout.specs.Opening as text
use Rattle.days.specs.Accounts.{books, opened}
use Rattle.days.specs.Day.{Day, fresh_in, outside}
use Rattle.refusal.specs.declared.Refusal.{Refusal}
use Rattle.refusal.specs.Refusal.{number_of}
use Rattle.state_parts.specs.Parts.{Whole}
use Rattle.book_writer.specs.declared.Written.{Written}
use Rattle.book_writer.specs.Writes.{WritesAt}
use Rattle.book_calls.specs.declared.text.Opened.{Opened}
use Rattle.book_calls.specs.Opened.{OpenedIn}
use Rattle.places.specs.declared.rooms.Rooms.{Rooms}
use Rattle.places.specs.declared.accounts.Accounts.{Accounts}
use Rattle.places.specs.Rooms.{part_at, Beside}
use Rattle.places.specs.Day.{day_in}

-- "all visits used are then 0", and no place has a book
abbrev pub begun : ℕ → Accounts
begun T = record { total = T; used = opened; books = replicate books 0 }

-- the book that a text opens
abbrev pub book_of : text.Opened → Option Formula
book_of (text.refused k n) = none
book_of (text.opened b) = some b

-- a day with another text's book at a place, freshly opened, or with none
abbrev pub with_text : Day → ℕ → Option Formula → Day
with_text d place b = record { total = d.total; used = d.used; places = set d.places (place - 1) (fresh_in b) }

-- a text of these limits that opens o, at a place 1 to 8: the answer is that on the place's own tables, the day has its book there, or none, and nothing else has changed
pub record OpensThere (R : Rooms) (L : Limits) (o : text.Opened) (a : Accounts) (cells : List ℕ) (literals : List ℤ) (place : ℕ) (r : Opened) (a' : Accounts) (cells' : List ℕ) (literals' : List ℤ) : Type 0 where
  pub answer : OpenedIn L o (part_at R.cells place cells) (part_at R.literals place literals) r (part_at R.cells place cells') (part_at R.literals place literals')
  pub whole : Whole L (part_at R.cells place cells) (part_at R.literals place literals) → day_in R a' cells' literals' ≡ with_text (day_in R a cells literals) place (book_of o)
  pub short : (Whole L (part_at R.cells place cells) (part_at R.literals place literals) → ⊥) → day_in R a' cells' literals' ≡ with_text (day_in R a cells literals) place none
  pub cells_beside : Beside R.cells place cells cells'
  pub literals_beside : Beside R.literals place literals literals'

-- "outside 1 to 8, is 38": nothing has changed
pub record OpensAtPlace (R : Rooms) (L : Limits) (o : text.Opened) (a : Accounts) (cells : List ℕ) (literals : List ℤ) (place : ℕ) (r : Opened) (a' : Accounts) (cells' : List ℕ) (literals' : List ℤ) : Type 0 where
  pub inside : outside place ≡ false → OpensThere R L o a cells literals place r a' cells' literals'
  pub beyond : outside place ≡ true → (r.refusal ≡ 38) × (r.line ≡ 0) × (a' ≡ a) × (cells' ≡ cells) × (literals' ≡ literals)

-- the day's refusal, or the book at the place written
abbrev pub WritesAtPlace : Rooms → Result ℕ Refusal → List ℕ → List ℤ → ℕ → ℕ → Written → Bytes → Type 0
WritesAtPlace R (Ok m) cells literals place size w table = WritesAt (part_at R.cells place cells) (part_at R.literals place literals) size w.refusal w.length table
WritesAtPlace R (Err r) cells literals place size w table = (w.refusal ≡ number_of r) × (w.length ≡ 0) × (table ≡ zero_table size)
