-- The code's share and the definitions' day: what a call at a place does, by the share that the code answers.
use Prim.Native.Nat.{ℕ, ◌-◌, ◌≤◌}
use native.Mathlib.Omega.{arith}
use mathlib.Core.Path.{◌≡◌, refl, sym, ap, ◌∙◌}
use mathlib.Core.Bool.{Bool, true, false, cond, not, ◌||◌}
use mathlib.Core.List.{List}
use mathlib.Core.Option.{Option, none, some}
use lib.ListN.{length, get_or}
use borrow.Author.Tests.{le-leb}
use Rattle.qbf.specs.Calls.{State, answer, refusal}
use Rattle.days.specs.Accounts.{Stands, books, overspent, allowance, charged}
use Rattle.days.specs.Day.{Day, DayStepped, Placed, accounted, at_book, book_at, day_step, outside, share_at, under_share}
use Rattle.days_laws.proofs.Accounts.{charged_stands, not_overspent}
use Rattle.days_laws.proofs.Days.{at_none}
use Rattle.std.specs.Prelude.{Result, Ok, Err}
use Rattle.refusal.specs.Refusal.{number_of}
use Rattle.refusal.specs.declared.Refusal.{Refusal}
use Rattle.refusal.specs.declared.Refusal.TheVariants.{NoBook, Malformed}
use Rattle.shares.specs.Shares.{share_of, allows_of, settled}
use Rattle.shares.proofs.Answers.{Room, allows_room, no_room}

-- ---- the accounts
module _ (T : ℕ) (us : List ℕ) (place v : ℕ) (sized : length us ≡ books) where
  -- whatever is charged, accounts that stand go on standing
  pub settled_stands : Stands T us → Stands T (settled T us place v)
  settled_stands s = by (allows_of (share_of T us place true) v) refl
    where
      by : (o : Bool) → allows_of (share_of T us place true) v ≡ o → Stands T (cond o (charged us (place - 1) v) us)
      by true e =
          let r : Room T us place v = allows_room T us place v e in
          charged_stands T us (place - 1) v (omega (arith, r.first, r.last)) s r.fits
      by false e = s

  -- visits within the share of a place are charged to it
  pub settled_charged : Stands T us → outside place ≡ false → v ≤ allowance T us (place - 1) → settled T us place v ≡ charged us (place - 1) v
  settled_charged s h k =
      ap (λ (o : Bool). cond (allows_of (cond o (Err NoBook) (cond (overspent T us) (Err Malformed) (Ok (allowance T us (place - 1))))) v) (charged us (place - 1) v) us) h
      ∙ ap (λ (o : Bool). cond (allows_of (cond o (Err Malformed) (Ok (allowance T us (place - 1)))) v) (charged us (place - 1) v) us) ((not_overspent T us).1 s)
      ∙ ap (λ (o : Bool). cond o (charged us (place - 1) v) us) (le-leb v (allowance T us (place - 1)) k)

-- ---- the call
abbrev pub held : Option State → Bool
held none = false
held (some x) = true

abbrev refused_at : ℕ → Day → Placed → DayStepped
refused_at n d p = record { day = d; out = answer (refusal n p.call) 0 }

-- what a call at a place does where the code answers this share: the day refuses it, or its book is called with these visits
abbrev pub ByShare : Day → Placed → Result ℕ Refusal → Type 0
ByShare d p (Err r) = day_step d p ≡ refused_at (number_of r) d p
ByShare d p (Ok m) = (x : State) × (book_at d p.place ≡ some x) × (day_step d p ≡ under_share d (p.place - 1) m x p.call)

module _ (d : Day) (p : Placed) where
  abbrev booked : Option State
  booked = get_or d.places (p.place - 1) none

  seen : (o : Bool) → outside p.place ≡ o → (b : Option State) → booked ≡ b → book_at d p.place ≡ cond o none b
  seen o e b f = ap (λ (z : Bool). cond z none booked) e ∙ ap (cond o none) f

  accounts : (over : Bool) → overspent d.total d.used ≡ over → (x : State) → book_at d p.place ≡ some x → day_step d p ≡ accounted over d p.place x p.call
  accounts over g x e = ap (λ (b : Option State). at_book b d p.place p.call) e ∙ ap (λ (z : Bool). accounted z d p.place x p.call) g

  -- whether the place has a book is told of the places 1 to 8; of no other is it asked
  pub by_share : (book : Bool) → (outside p.place ≡ false → book ≡ held booked) → ByShare d p (share_of d.total d.used p.place book)
  by_share book told = go (outside p.place) refl booked refl (overspent d.total d.used) refl book told
    where
      go : (o : Bool) → outside p.place ≡ o → (b : Option State) → booked ≡ b → (over : Bool) → overspent d.total d.used ≡ over → (k : Bool) → (o ≡ false → k ≡ held b)
          → ByShare d p (cond (not k || o) (Err NoBook) (cond over (Err Malformed) (Ok (share_at d p.place))))
      go true e b f over g true t = at_none d p (seen true e b f)
      go true e b f over g false t = at_none d p (seen true e b f)
      go false e none f over g true t = absurd (no_room (sym (t refl)))
      go false e none f over g false t = at_none d p (seen false e none f)
      go false e (some x) f true g true t = accounts true g x (seen false e (some x) f)
      go false e (some x) f false g true t = (x, seen false e (some x) f, accounts false g x (seen false e (some x) f))
      go false e (some x) f over g false t = absurd (no_room (t refl))
