-- A request of the book at a place, served on its tables as they are lent.
use Prim.Native.Nat.{ℕ, ◌-◌}
use native.Mathlib.Omega.{arith}
use mathlib.Core.Path.{◌≡◌, sym, ap, subst, ◌∙◌}
use mathlib.Core.Bool.{true, false}
use mathlib.Core.List.{List, []}
use mathlib.Core.Option.{Option}
use lib.IntN.{ℤ}
use lib.ListN.{length, get_or, set, take, drop}
use borrow.Rule.Slice.PartMut.{put_mid}
use Rattle.layout.specs.Words.{Bytes}
use Rattle.sessions.specs.Session.{Request, Card}
use Rattle.days.specs.Accounts.{books}
use Rattle.days.specs.Day.{outside}
use Rattle.days_laws.proofs.Days.{below_eight}
use Rattle.day_text.specs.Program.{Served, shown_at}
use Rattle.shares.specs.Shares.{settled}
use Rattle.answer_text.specs.declared.shown.Shown.{Shown}
use Rattle.answer_text.specs.Shown.{card_in}
use Rattle.call_lines.specs.declared.Shared.{Shared}
use Rattle.session_lines.specs.Sharing.{RequestSharedAt, RequestSharedServedAt}
use Rattle.places.specs.declared.rooms.Bounds.{Bounds}
use Rattle.places.specs.declared.accounts.Accounts.{Accounts}
use Rattle.places.specs.Rooms.{start, room, part_at, BoundsOf}
use Rattle.places.specs.Day.{booked, with_used}
use Rattle.places.proofs.Parts.{lent_at}
use Rattle.day_lines.specs.declared.Kept.{Kept}
use Rattle.day_lines.specs.Served.{served_in}
use Rattle.day_lines.specs.Book.{BookServed}
use Rattle.day_lines.proofs.Shown.{shown_get}
use Rattle.day_lines.proofs.Tables.{after}

module _ (s : Kept) (cells : List ℕ) (literals : List ℤ) (cards : List Bytes) (k n m : ℕ) (q : Option Request) (inside : outside k ≡ false) (book : booked s.accounts.books k ≡ true)
    (eight : length s.shown ≡ books) (tables : length cards ≡ books) (cb lb : Bounds)
    (cells_at : BoundsOf (start s.rooms.cells k) (room s.rooms.cells k) (length cells) cb)
    (literals_at : BoundsOf (start s.rooms.literals k) (room s.rooms.literals k) (length literals) lb) (cs : List ℕ) (ls : List ℤ)
    (cs_long : length cs ≡ length (take (cb.to - cb.from) (drop cb.from cells))) (ls_long : length ls ≡ length (take (lb.to - lb.from) (drop lb.from literals))) where
  abbrev z : Served
  z = served_in s cells literals cards

  shown_there : (d : Shown) → card_in (get_or s.shown (k - 1) d) (get_or cards (k - 1) []) ≡ shown_at z k
  shown_there d = sym (shown_get s.shown cards (k - 1) d [] (omega (arith, eight, below_eight k inside)) (omega (arith, tables, below_eight k inside)))

  pub book_served : (d : Shown) (r : Shared) (t out : Bytes) (a : Accounts) → a ≡ with_used s.accounts (settled s.accounts.total s.accounts.used k r.visits)
      → RequestSharedAt m (take (cb.to - cb.from) (drop cb.from cells)) (take (lb.to - lb.from) (drop lb.from literals)) q n (get_or s.shown (k - 1) d) (get_or cards (k - 1) []) r cs ls t out
      → {left : Bytes} → out ≡ left
      → BookServed k n m q s cells literals cards (record { rooms = s.rooms; accounts = a; shown = set s.shown (k - 1) r.turn.shown })
      (put_mid cb.from (cb.to - cb.from) cells cs) (put_mid lb.from (lb.to - lb.from) literals ls) (set cards (k - 1) t) r.turn.length left
  book_served d r t out a charge w same =
      subst (λ (l : Bytes). BookServed k n m q s cells literals cards (record { rooms = s.rooms; accounts = a; shown = set s.shown (k - 1) r.turn.shown })
      (put_mid cb.from (cb.to - cb.from) cells cs) (put_mid lb.from (lb.to - lb.from) literals ls) (set cards (k - 1) t) r.turn.length l) same
      (record {
        own = cs;
        lits = ls;
        card = card_in r.turn.shown t;
        visits = r.visits;
        within = w.within;
        served = served;
        left =
            ap (λ (b : Accounts). served_in (record { rooms = s.rooms; accounts = b; shown = set s.shown (k - 1) r.turn.shown })
            (put_mid cb.from (cb.to - cb.from) cells cs) (put_mid lb.from (lb.to - lb.from) literals ls) (set cards (k - 1) t)) charge
            ∙ after s cells literals cards k inside book cb lb cells_at literals_at cs ls cs_long ls_long (settled s.accounts.total s.accounts.used k r.visits) r.turn.shown t;
      })
    where
      Owed : List ℕ → List ℤ → Option Card → Type 0
      Owed c l e = RequestSharedServedAt m c l e q n (take r.turn.length out) cs ls (card_in r.turn.shown t) r.visits

      served : Owed (part_at s.rooms.cells k cells) (part_at s.rooms.literals k literals) (shown_at z k)
      served =
          subst (λ (c : List ℕ). Owed c (part_at s.rooms.literals k literals) (shown_at z k)) (lent_at s.rooms.cells k cells cb cells_at)
          (subst (λ (l : List ℤ). Owed (take (cb.to - cb.from) (drop cb.from cells)) l (shown_at z k)) (lent_at s.rooms.literals k literals lb literals_at)
          (subst (λ (e : Option Card). Owed (take (cb.to - cb.from) (drop cb.from cells)) (take (lb.to - lb.from) (drop lb.from literals)) e) (shown_there d) w.served))
