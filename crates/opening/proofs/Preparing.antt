-- The state that a text is opened onto, and the one that a refused text leaves.
use Prim.Native.Nat.{ℕ, suc}
use native.Mathlib.Omega.{arith}
use mathlib.Core.Path.{◌≡◌, refl, sym, ap, subst}
use mathlib.Core.Bool.{Bool, true, false, false≢true}
use mathlib.Core.List.{List, [], ◌∷◌}
use lib.IntN.{ℤ}
use lib.ListN.{get_or, set}
use Rattle.std.specs.Prelude.{Result, Ok, Err}
use Rattle.std.specs.Bool.{then_some}
use Rattle.std.specs.Result.{is_err}
use Rattle.qbf.specs.Formula.{Limits, highest}
use Rattle.qbf.specs.Calls.{limits_are_ok}
use Rattle.state.specs.Reading.{own}
use Rattle.state_parts.specs.declared.limits.Layout.{Layout}
use Rattle.state_parts.specs.Layout.{limits_in}
use Rattle.state_parts.specs.Initial.{Initial}
use Rattle.state_parts.specs.Parts.{limits_of, valid_at, Whole}
use Rattle.state_parts.proofs.Accepted.{valid_whole, checked_at_high}
use Rattle.layout.specs.Opening.{Opened, refused, opened}
use Rattle.opening.specs.declared.text.RefusedAt.{RefusedAt}
use Rattle.opening.specs.Lines.{ReadAt}
use Rattle.opening.specs.Opened.{AnsweredAt, OpenedAt, WholeTold, PreparedAt, ClosedFor}

pub prepared_by : {L : Limits} {cells : List ℕ} (literals : List ℤ) (whole : Bool) (l : Layout) {cells' : List ℕ} → WholeTold (limits_in l) cells literals whole → limits_in l ≡ L → Initial L cells cells'
    → PreparedAt L cells literals (then_some whole l) cells'
prepared_by {L} {cells} literals true l {cells'} w e i =
    let v : Whole L cells literals = subst (λ (M : Limits). Whole M cells literals) e w in (v, e, i.read literals v)
prepared_by {L} {cells} literals false l {cells'} w e i =
    let v : Whole L cells literals → ⊥ = (λ u. w (subst (λ (M : Limits). Whole M cells literals) (sym e) u)) in (v, i.short literals v)

-- a limit that no state may have
high_limits : (t : List ℕ) → get_or t 0 0 ≡ suc highest.numbers → limits_are_ok (limits_of t) ≡ false
high_limits t e = ap (λ (n : ℕ). limits_are_ok (own n (get_or t 1 0))) e

pub closed_cells : (cells : List ℕ) (literals : List ℤ) → valid_at (set cells 0 (suc highest.numbers)) literals ≡ false
closed_cells [] literals = by (valid_at [] literals) refl
  where
    by : (t : Bool) → valid_at [] literals ≡ t → valid_at [] literals ≡ false
    by true e = absurd (omega (arith, (valid_whole [] literals e).cells_room))
    by false e = e
closed_cells (c ∷ cells) literals = sym (checked_at_high (suc highest.numbers ∷ cells) literals (high_limits (suc highest.numbers ∷ cells) refl) [] []).said

pub answered_closed : (o : Opened) (r : Result (Unit {0}) RefusedAt) (cells cells' : List ℕ) (literals : List ℤ) → ReadAt o r cells literals → ClosedFor r cells cells' → AnsweredAt o r cells' literals
answered_closed (refused k n) (Ok u) cells cells' literals h c = absurd h
answered_closed (refused k n) (Err q) cells cells' literals h c = (h.0, h.1, c literals)
answered_closed (opened b) (Ok u) cells cells' literals h c = rw c h
answered_closed (opened b) (Err q) cells cells' literals h c = absurd h

pub closed_for : (r : Result (Unit {0}) RefusedAt) (cells : List ℕ) → is_err r ≡ true → ClosedFor r cells (set cells 0 (suc highest.numbers))
closed_for (Ok u) cells e = absurd (false≢true e)
closed_for (Err q) cells e = closed_cells cells

-- ---- the whole
pub opened_so : {L : Limits} {o : Opened} (r : Result (Unit {0}) RefusedAt) {r' : Result (Unit {0}) RefusedAt} {cells : List ℕ} (cells' : List ℕ) {cells'' : List ℕ} {literals literals' : List ℤ} → Whole L cells literals → ReadAt o r cells' literals' → ClosedFor r cells' cells''
    → r' ≡ r → OpenedAt L o cells literals r' cells'' literals'
opened_so {L} {o} r {r'} {cells} cells' {cells''} {literals} {literals'} w h c e =
    record {
      whole = λ v. subst (λ (t : Result (Unit {0}) RefusedAt). AnsweredAt o t cells'' literals') (sym e) (answered_closed o r cells' cells'' literals' h c);
      short = λ v. absurd (v w);
    }
