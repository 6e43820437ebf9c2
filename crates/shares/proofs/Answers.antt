-- The answer for a place, by its tests; and what a share that has room for a call's visits says of the accounts.
use Prim.Native.Nat.{ℕ, ◌+◌, ◌-◌, ◌≤◌}
use native.Mathlib.Omega.{arith}
use mathlib.Core.Path.{◌≡◌, refl, sym, ◌∙◌}
use mathlib.Core.Bool.{Bool, true, false, cond}
use mathlib.Core.List.{List}
use borrow.Author.Tests.{leb-true, ltb-false}
use Rattle.std.specs.Prelude.{Result, Ok, Err}
use Rattle.refusal.specs.declared.Refusal.{Refusal}
use Rattle.refusal.specs.declared.Refusal.TheVariants.{NoBook, Malformed}
use Rattle.days.specs.Accounts.{Stands, books, used, owing, overspent, allowance}
use Rattle.days.specs.Day.{outside}
use Rattle.days_laws.proofs.Days.{from_one, to_eight}
use Rattle.shares.specs.Shares.{share_of, allows_of}

pub no_room : false ≡ true → ⊥
no_room r = let z : ◌≡◌ {A = ℕ} 0 1 = cc in omega arith

module _ (T : ℕ) (us : List ℕ) (place : ℕ) where
  -- 22 or the visits, at a place with a book
  abbrev accounted : Bool → Result ℕ Refusal
  accounted over = cond over (Err Malformed) (Ok (allowance T us (place - 1)))

  -- a share has room for v visits only where the place is 1 to 8 and the accounts stand
  pub record Room (v : ℕ) : Type 0 where
    pub first : 1 ≤ place
    pub last : place ≤ books
    pub stands : Stands T us
    pub fits : v ≤ allowance T us (place - 1)

  pub allows_room : (v : ℕ) → allows_of (share_of T us place true) v ≡ true → Room v
  allows_room v e = by (outside place) (overspent T us) refl refl e
    where
      by : (o over : Bool) → outside place ≡ o → overspent T us ≡ over → allows_of (cond o (Err NoBook) (accounted over)) v ≡ true → Room v
      by true over p q r = absurd (no_room r)
      by false true p q r = absurd (no_room r)
      by false false p q r =
          record { first = from_one place p; last = to_eight place p; stands = ltb-false T (used us + owing T us) q; fits = leb-true v (allowance T us (place - 1)) r }

  -- a charge by its test r
  module _ (v : ℕ) (r : Bool) (e : r ≡ allows_of (share_of T us place true) v) where
    pub charge_room : r ≡ true → Room v
    charge_room z = allows_room v (sym e ∙ z)
