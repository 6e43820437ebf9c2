-- The day that two long slices, where the places lie in them and the accounts hold. Paper 02, wish 12.
use Rattle.std.specs.Prelude.{ℕ, zero, suc, ◌-◌, ◌≡◌, Bool, not, cond, eqb, List, [], ◌∷◌, get_or, set, ℤ}
use Rattle.std.proofs.Math.Option.{Option, none, some}
use Rattle.days.specs.Accounts.{books}
use Rattle.days.specs.Day.{Day, Placed}
use Rattle.qbf.specs.Demands.{AfterSearch, refusal_of}
use Rattle.days.specs.Day.{day_step}
use Rattle.serving.specs.Serves.{Said}
use Rattle.rule_calls.specs.Served.{Lists, lists, read_lists}
use Rattle.serving_days.specs.Serves.{Held, day_of, ServesDay}
use Rattle.places.specs.declared.rooms.Rooms.{Rooms}
use Rattle.places.specs.declared.accounts.Accounts.{Accounts}
use Rattle.places.specs.Rooms.{part_at, Beside}

-- "a place without a book": its byte is 0
abbrev pub booked : List ℕ → ℕ → Bool
booked bytes place = not (eqb (get_or bytes (place - 1) 0) 0)

-- a place that is given a book, or loses it
abbrev pub byte_of : Bool → ℕ
byte_of book = cond book 1 0

abbrev pub seated : Accounts → ℕ → Bool → Accounts
seated a place book = record { total = a.total; used = a.used; books = set a.books (place - 1) (byte_of book) }

abbrev pub with_used : Accounts → List ℕ → Accounts
with_used a us = record { total = a.total; used = us; books = a.books }

-- what a function gives for n places, from the i-th on
abbrev pub from_on : {A : Type 0} → ℕ → ℕ → (ℕ → A) → List A
from_on i zero f = []
from_on i (suc n) f = f i ∷ from_on (suc i) n f

-- the tables of a place that has a book
abbrev pub tables_at : Rooms → List ℕ → List ℕ → List ℤ → ℕ → Option Lists
tables_at rooms bytes cells literals place = cond (booked bytes place) (some (lists (part_at rooms.cells place cells) (part_at rooms.literals place literals))) none

abbrev pub held_in : Rooms → Accounts → List ℕ → List ℤ → Held Lists
held_in rooms a cells literals = record { total = a.total; used = a.used; places = from_on 1 books (tables_at rooms a.books cells literals) }

-- the definitions' day: tables that do not read are a malformed book, and no book is none
abbrev pub day_in : Rooms → Accounts → List ℕ → List ℤ → Day
day_in rooms a cells literals = day_of read_lists (held_in rooms a cells literals)

-- a call at a place was answered so, and left the accounts and the two slices as given last
pub record ServesAtPlace (rooms : Rooms) (a : Accounts) (cells : List ℕ) (literals : List ℤ) (p : Placed) (said : Said) (a' : Accounts) (cells' : List ℕ) (literals' : List ℤ) : Type 0 where
  pub serves : ServesDay read_lists (held_in rooms a cells literals) p said (held_in rooms a' cells' literals')
  -- no cell of another place is written, and no place is given a book or loses one
  pub books : a'.books ≡ a.books
  pub cells_beside : Beside rooms.cells p.place cells cells'
  pub literals_beside : Beside rooms.literals p.place literals literals'
  -- a refusal leaves every cell, and the accounts, as they were, but for 21, 34, 35 and 37
  pub kept : (n : ℕ) → refusal_of (day_step (day_in rooms a cells literals) p).out.reply ≡ some n → (AfterSearch n → ⊥) → (n ≡ 37 → ⊥) → (a' ≡ a) × (cells' ≡ cells) × (literals' ≡ literals)
