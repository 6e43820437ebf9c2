-- What a call at a place may use and where its tables lie, or why the day refuses it.
use Rattle.std.specs.Prelude.{ℕ, ◌≡◌, List, ℤ, Result, Ok, Err}
use Rattle.qbf.specs.Calls.{Call}
use Rattle.days.specs.Day.{Placed}
use Rattle.refusal.specs.declared.Refusal.{Refusal}
use Rattle.shares.specs.Shares.{share_of}
use Rattle.places.specs.declared.rooms.Rooms.{Rooms}
use Rattle.places.specs.declared.accounts.Accounts.{Accounts}
use Rattle.places.specs.Rooms.{start, room, part_at, BoundsOf}
use Rattle.places.specs.Day.{booked}
use Rattle.qbf.specs.Truth.{free_variables}
use Rattle.state.specs.Reading.{prefix_in}
use Rattle.state_parts.specs.Parts.{state_at}
use Rattle.day_calls.specs.declared.entered.Entered.{Entered}

abbrev pub placed : ℕ → Call → Placed
placed i c = record { place = i; call = c }

-- in slices of n cells and m literals
abbrev pub EnteredAs : Accounts → Rooms → ℕ → ℕ → ℕ → Result Entered Refusal → Type 0
EnteredAs a R place n m (Ok x) =
    (share_of a.total a.used place (booked a.books place) ≡ Ok x.may)
    × BoundsOf (start R.cells place) (room R.cells place) n x.cells
    × BoundsOf (start R.literals place) (room R.literals place) m x.literals
EnteredAs a R place n m (Err r) = share_of a.total a.used place (booked a.books place) ≡ Err r

-- the free variables of the book at a place
abbrev pub free_at : Rooms → List ℕ → List ℤ → ℕ → ℕ
free_at R cells literals place = free_variables (prefix_in (state_at (part_at R.cells place cells) (part_at R.literals place literals)))
