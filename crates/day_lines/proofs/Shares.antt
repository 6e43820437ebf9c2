-- What the code's answer for a place says of the day: no book there, accounts that do not stand, or the visits that a call may make.
use Prim.Native.Nat.{ℕ, ◌-◌, ◌≤◌}
use mathlib.Core.Path.{◌≡◌, refl, sym, ap, subst, ◌∙◌}
use mathlib.Core.Logic.{◌⊎◌, inl, inr}
use mathlib.Core.Bool.{Bool, true, false, cond, not, ◌||◌}
use mathlib.Core.Option.{Option, none, some}
use lib.ListN.{get_or}
use borrow.Author.Tests.{le-leb}
use Rattle.std.specs.Prelude.{Result, Ok, Err}
use Rattle.refusal.specs.declared.Refusal.{Refusal}
use Rattle.refusal.specs.declared.Refusal.TheVariants.{NoBook, Malformed}
use Rattle.refusal.specs.Refusal.{number_of}
use Rattle.qbf.specs.Calls.{Call, State as Read, answer, refusal}
use Rattle.days.specs.Accounts.{overspent, charged}
use Rattle.days.specs.Day.{Day, accounted, at_book, book_at, day_step, outside, share_at, under_share}
use Rattle.shares.specs.Shares.{share_of, allows_of, settled}
use Rattle.shares.proofs.Answers.{no_room}
use Rattle.shares.proofs.Days.{held}

-- a place with a book, in a day whose accounts stand or not
pub record Booked (d : Day) (k : ℕ) (book o : Bool) : Type 0 where
  pub inside : outside k ≡ false
  pub stands : book ≡ true
  pub over : overspent d.total d.used ≡ o
  pub state : Read
  pub here : book_at d k ≡ some state

abbrev pub AtShare : Day → ℕ → Bool → Result ℕ Refusal → Type 0
AtShare d k book (Err r) = ((number_of r ≡ 38) × (book_at d k ≡ none)) ⊎ ((number_of r ≡ 22) × Booked d k book true)
AtShare d k book (Ok m) = (m ≡ share_at d k) × Booked d k book false

module _ (d : Day) (k : ℕ) where
  abbrev kept : Option Read
  kept = get_or d.places (k - 1) none

  seen : (o : Bool) → outside k ≡ o → (b : Option Read) → kept ≡ b → book_at d k ≡ cond o none b
  seen o e b f = ap (λ (z : Bool). cond z none kept) e ∙ ap (cond o none) f

  pub at_share : (book : Bool) → (outside k ≡ false → book ≡ held kept) → AtShare d k book (share_of d.total d.used k book)
  at_share book told = go (outside k) refl kept refl (overspent d.total d.used) refl book told
    where
      go : (o : Bool) → outside k ≡ o → (b : Option Read) → kept ≡ b → (over : Bool) → overspent d.total d.used ≡ over → (t : Bool) → (o ≡ false → t ≡ held b)
          → AtShare d k t (cond (not t || o) (Err NoBook) (cond over (Err Malformed) (Ok (share_at d k))))
      go true e b f over g true t = inl (refl, seen true e b f)
      go true e b f over g false t = inl (refl, seen true e b f)
      go false e none f over g true t = absurd (no_room (sym (t refl)))
      go false e none f over g false t = inl (refl, seen false e none f)
      go false e (some x) f true g true t = inr (refl, record { inside = e; stands = refl; over = g; state = x; here = seen false e (some x) f })
      go false e (some x) f false g true t = (refl, record { inside = e; stands = refl; over = g; state = x; here = seen false e (some x) f })
      go false e (some x) f over g false t = absurd (no_room (t refl))

  -- ---- a call at a place with a book
  module _ (x : Read) (here : book_at d k ≡ some x) (c : Call) where
    accounts : (over : Bool) → overspent d.total d.used ≡ over → day_step d (record { place = k; call = c }) ≡ accounted over d k x c
    accounts over g = ap (λ (b : Option Read). at_book b d k c) here ∙ ap (λ (z : Bool). accounted z d k x c) g

    pub step_shared : overspent d.total d.used ≡ false → (m : ℕ) → m ≡ share_at d k → day_step d (record { place = k; call = c }) ≡ under_share d (k - 1) m x c
    step_shared g m e = accounts false g ∙ ap (λ (j : ℕ). under_share d (k - 1) j x c) (sym e)

    pub step_refused : overspent d.total d.used ≡ true → day_step d (record { place = k; call = c }) ≡ record { day = d; out = answer (refusal 22 c) 0 }
    step_refused g = accounts true g

  -- visits within the share are charged
  pub settled_within : outside k ≡ false → overspent d.total d.used ≡ false → (m v : ℕ) → m ≡ share_at d k → v ≤ m → settled d.total d.used k v ≡ charged d.used (k - 1) v
  settled_within h g m v e le =
      ap (λ (o : Bool). cond (allows_of (cond o (Err NoBook) (cond (overspent d.total d.used) (Err Malformed) (Ok (share_at d k)))) v) (charged d.used (k - 1) v) d.used) h
      ∙ ap (λ (o : Bool). cond (allows_of (cond o (Err Malformed) (Ok (share_at d k))) v) (charged d.used (k - 1) v) d.used) g
      ∙ ap (λ (o : Bool). cond o (charged d.used (k - 1) v) d.used) (le-leb v (share_at d k) (subst (λ (j : ℕ). v ≤ j) e le))
