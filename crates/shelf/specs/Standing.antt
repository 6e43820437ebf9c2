-- A shelf as the code has it.
use Rattle.std.specs.Prelude.{ℕ, ◌^◌, ◌<◌, ◌≡◌, List, Some, None}
use Rattle.std.specs.Prelude as code
use Rattle.std.proofs.Math.Option.{Option, none, some}
use Rattle.qbf.specs.Formula.{highest}
use Rattle.tables.specs.Shelves.{Entries, entries_of, newest_of, row_at}
use Rattle.shelf.specs.declared.Shelf.{Shelf}

-- its cells and its links agree
abbrev pub Kept : Shelf → Type 0
Kept x = Entries x.cells.now x.links.now

-- the rows that stand, the oldest first
abbrev pub rows : Shelf → List (List ℕ)
rows x = entries_of x.cells.now x.links.now

-- the number of the newest row
abbrev pub newest : Shelf → ℕ
newest x = newest_of x.links.now

-- there is a number for one row more
abbrev pub Room : Shelf → Type 0
Room x = newest x < 2 ^ 63

-- a slot that was found is one of so many
abbrev pub SlotIn : ℕ → code.Option ℕ → Type 0
SlotIn slots (Some r) = r < slots
SlotIn slots None = Unit {0}

-- it holds the row o; where none was found there is none
abbrev pub FoundIn : ℕ → List ℕ → code.Option ℕ → Option (List ℕ) → Type 0
FoundIn stride cells (Some r) o = o ≡ some (row_at stride cells r)
FoundIn stride cells None o = o ≡ none

abbrev pub Found : Shelf → code.Option ℕ → Option (List ℕ) → Type 0
Found x f o = FoundIn highest.numbers x.cells.now f o
