-- The tables of a place, as they are lent, and what the day holds once they are written.
use Prim.Native.Nat.{ℕ, ◌-◌}
use mathlib.Core.Path.{◌≡◌, ap, ◌∙◌}
use mathlib.Core.Bool.{Bool, true, false, cond}
use mathlib.Core.List.{List}
use mathlib.Core.Option.{Option, none, some}
use lib.IntN.{ℤ}
use lib.ListN.{length, get_or, set, take, drop}
use borrow.Rule.Slice.PartMut.{put_mid}
use Rattle.qbf.specs.Calls.{forget, State as Read}
use Rattle.layout.specs.Words.{Bytes}
use Rattle.sessions.specs.Session.{Card}
use Rattle.days.specs.Day.{Placed, outside}
use Rattle.day_text.specs.Program.{Served}
use Rattle.state_parts.specs.Parts.{read_at}
use Rattle.rule_calls.specs.Served.{Lists, lists, read_lists}
use Rattle.serving_days.specs.Serves.{Held, book_in, day_of, state_in}
use Rattle.serving_days.proofs.Places.{map_set, map_get_or}
use Rattle.answer_text.specs.declared.shown.Shown.{Shown}
use Rattle.answer_text.specs.Shown.{card_in}
use Rattle.places.specs.declared.rooms.Bounds.{Bounds}
use Rattle.places.specs.Rooms.{start, room, part_at, BoundsOf}
use Rattle.places.specs.Day.{booked, with_used, held_in}
use Rattle.places.proofs.Parts.{put_beside, put_at}
use Rattle.places.proofs.Places.{tables_here, held_after}
use Rattle.day_lines.specs.declared.Kept.{Kept}
use Rattle.day_lines.specs.Served.{shown_in, served_in}
use Rattle.day_lines.proofs.Shown.{shown_set}

module _ (s : Kept) (cells : List ℕ) (literals : List ℤ) (cards : List Bytes) (k : ℕ) (inside : outside k ≡ false) (book : booked s.accounts.books k ≡ true) where
  abbrev z : Served
  z = served_in s cells literals cards

  abbrev h : Held Lists
  h = held_in s.rooms s.accounts cells literals

  abbrev p : Placed
  p = record { place = k; call = forget }

  mine : get_or h.places (k - 1) none ≡ some (lists (part_at s.rooms.cells k cells) (part_at s.rooms.literals k literals))
  mine =
      tables_here s.rooms s.accounts cells literals p inside
      ∙ ap (λ (o : Bool). cond o (some (lists (part_at s.rooms.cells k cells) (part_at s.rooms.literals k literals))) none) book

  -- the book there
  pub here : get_or z.day.places (k - 1) none ≡ some (state_in (read_at (part_at s.rooms.cells k cells) (part_at s.rooms.literals k literals)))
  here = map_get_or (book_in read_lists) h.places (k - 1) none ∙ ap (book_in read_lists) mine

  module _ (cb lb : Bounds) (cells_at : BoundsOf (start s.rooms.cells k) (room s.rooms.cells k) (length cells) cb)
      (literals_at : BoundsOf (start s.rooms.literals k) (room s.rooms.literals k) (length literals) lb) (cs : List ℕ) (ls : List ℤ)
      (cs_long : length cs ≡ length (take (cb.to - cb.from) (drop cb.from cells))) (ls_long : length ls ≡ length (take (lb.to - lb.from) (drop lb.from literals))) where
    abbrev cells' : List ℕ
    cells' = put_mid cb.from (cb.to - cb.from) cells cs

    abbrev literals' : List ℤ
    literals' = put_mid lb.from (lb.to - lb.from) literals ls

    held_there : (us : List ℕ) → held_in s.rooms (with_used s.accounts us) cells' literals' ≡ record { total = s.accounts.total; used = us; places = set h.places (k - 1) (some (lists cs ls)) }
    held_there us =
        held_after s.rooms s.accounts cells literals p inside us cells' literals'
        (put_beside s.rooms.cells k cells cb cells_at cs cs_long) (put_beside s.rooms.literals k literals lb literals_at ls ls_long)
        ∙ ap (λ (x : Option Lists). record { total = s.accounts.total; used = us; places = set h.places (k - 1) x })
        (ap (λ (o : Bool). cond o (some (lists (part_at s.rooms.cells k cells') (part_at s.rooms.literals k literals'))) none) book
        ∙ ap (λ (l : List ℕ). some (lists l (part_at s.rooms.literals k literals'))) (put_at s.rooms.cells k cells cb cells_at cs cs_long)
        ∙ ap (λ (l : List ℤ). some (lists cs l)) (put_at s.rooms.literals k literals lb literals_at ls ls_long))

    -- what is held with the book's tables written, with other visits used and another card shown there
    pub after : (us : List ℕ) (w : Shown) (t : Bytes)
        → served_in (record { rooms = s.rooms; accounts = with_used s.accounts us; shown = set s.shown (k - 1) w }) cells' literals' (set cards (k - 1) t)
        ≡ record { day = record { total = s.accounts.total; used = us; places = set z.day.places (k - 1) (some (state_in (read_at cs ls))) }; shown = set z.shown (k - 1) (card_in w t) }
    after us w t =
        ap (λ (g : Held Lists). record { day = day_of read_lists g; shown = shown_in (set s.shown (k - 1) w) (set cards (k - 1) t) }) (held_there us)
        ∙ ap (λ (ps : List (Option Read)). record { day = record { total = s.accounts.total; used = us; places = ps }; shown = shown_in (set s.shown (k - 1) w) (set cards (k - 1) t) })
        (map_set (book_in read_lists) h.places (k - 1) (some (lists cs ls)))
        ∙ ap (λ (l : List (Option Card)). record { day = record { total = s.accounts.total; used = us; places = set z.day.places (k - 1) (some (state_in (read_at cs ls))) }; shown = l })
        (shown_set s.shown cards (k - 1) w t)
