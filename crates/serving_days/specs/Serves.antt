-- What a call at a place owes: its answer, and the day that it leaves, are those of the definitions' day. Paper 02, wish 12. How a book's state
-- stands in tables is a parameter, with what it reads as.
use Prim.Native.Nat.{ℕ, ◌+◌}
use mathlib.Core.Path.{◌≡◌}
use mathlib.Core.List.{List, [], ◌∷◌, map}
use mathlib.Core.Option.{Option, none, some}
use Rattle.qbf.specs.Formula.{highest}
use Rattle.qbf.specs.Learning.{empty_store}
use Rattle.qbf.specs.Calls.{State as Read}
use Rattle.qbf.specs.Demands.{AfterSearch, refusal_of}
use Rattle.serving.specs.Serves.{Said, said_with, said_of}
use Rattle.days.specs.Accounts.{stop_number}
use Rattle.days.specs.Day.{Day, Placed, day_step, stop_as}

-- ---- a day in tables
-- the total, the visits used at each place, and the state of its book, if it has one
pub record Held (S : Type 0) : Type 0 where
  pub total : ℕ
  pub used : List ℕ
  pub places : List (Option S)

-- a state whose limits are above the highest: every call on it is 22
abbrev pub malformed : Read
malformed = record { formula = record { limits = record { numbers = highest.numbers + 1; clauses = 0; literals = 0; constraints = 0 }; prefix = []; clauses = [] }; store = empty_store }

-- tables that do not read are a malformed state
abbrev pub state_in : Option Read → Read
state_in none = malformed
state_in (some y) = y

module _ {S : Type 0} (read : S → Option Read) where
  abbrev pub book_in : Option S → Option Read
  book_in none = none
  book_in (some x) = some (state_in (read x))

  abbrev pub day_of : Held S → Day
  day_of h = record { total = h.total; used = h.used; places = map book_in h.places }

  -- ---- one call
  -- the call p on the day h was answered by a and left the day h'
  pub record ServesDay (h : Held S) (p : Placed) (a : Said) (h' : Held S) : Type 0 where
    pub answered : a ≡ said_of ((day_step (day_of h) p).out)
    pub next : day_of h' ≡ (day_step (day_of h) p).day
    -- a refusal leaves every cell as it was, but for 21, 34, 35 and 37: "both leave what 34 leaves"
    pub kept : (n : ℕ) → refusal_of (day_step (day_of h) p).out.reply ≡ some n → (AfterSearch n → ⊥) → (n ≡ 37 → ⊥) → h' ≡ h

  -- ---- a list of calls at places, each on the day that the last one left; h' is the day after all of them
  abbrev pub ServedDay : Held S → List Placed → List Said → Held S → Type 0
  ServedDay h [] [] h' = h' ≡ h
  ServedDay h [] (a ∷ qs) h' = ⊥
  ServedDay h (p ∷ ps) [] h' = ⊥
  ServedDay h (p ∷ ps) (a ∷ qs) h' = (k : Held S) × ServesDay h p a k × ServedDay k ps qs h'

-- ---- an answer at a place, from that of the call under its limit: the own ceiling, if the call has one, and the share
abbrev pub renamed : ℕ → Option ℕ → Option ℕ
renamed k none = none
renamed k (some n) = some (stop_as k n)

abbrev pub said_at : Option ℕ → ℕ → Said → Said
said_at none m a = a
said_at (some own) m a = said_with (renamed (stop_number own m) a.refusal) a.verdict a.lines a.visits a.table a.reading a.differs
