-- A state in two lent tables as it was checked: what its parts under its own limits are.
use Prim.Native.Nat.{ℕ, suc, ◌+◌}
use native.Mathlib.Numerals.{add-one}
use mathlib.Core.Path.{◌≡◌, refl, sym, ap, subst, ◌∙◌}
use mathlib.Core.Bool.{true}
use mathlib.Core.List.{List}
use lib.IntN.{ℤ}
use lib.ListN.{get_or, take}
use Rattle.std.specs.Prelude.{Option as Maybe}
use Rattle.qbf.specs.Formula.{Limits}
use Rattle.qbf.specs.Calls.{Call}
use Rattle.tables.specs.Views.{Places, Kinds}
use Rattle.state.specs.State.{State}
use Rattle.state.specs.Reading.{own, prefix_in, accepted}
use Rattle.serving.specs.Serves.{Said}
use Rattle.state_parts.specs.declared.limits.Layout.{Layout}
use Rattle.state_parts.specs.Parts.{limits_of, parts_under, state_at, valid_at}
use Rattle.state_parts.specs.Layout.{limits_in}
use Rattle.state_parts.proofs.Accepted.{valid_accepted}
use Rattle.search_entry.specs.declared.Learned.{Learned}
use Rattle.asking.specs.declared.checked.Checked.{Checked}
use Rattle.asking.specs.Answered.{Answered, state_of}
use Rattle.search_calls.specs.Checked.{ShownAt, CheckedOf}

module _ (l : Layout) (cells : List ℕ) (literals : List ℤ) {places kinds : List ℕ} (s : ShownAt l cells literals places kinds) where
  pub valid_shown : valid_at cells literals ≡ true
  valid_shown = sym s.2.said

  -- the limits as they were read are the state's
  limits_same : limits_in l ≡ limits_of cells
  limits_same = ap (λ (i : ℕ). own i l.clauses) s.0 ∙ ap (own (get_or cells 0 0)) s.1

  pub state_same : parts_under (limits_in l) cells literals ≡ state_at cells literals
  state_same = ap (λ (L : Limits). parts_under L cells literals) limits_same

  pub accepted_in : accepted (limits_in l) (parts_under (limits_in l) cells literals) ≡ true
  accepted_in = subst (λ (L : Limits). accepted L (parts_under L cells literals) ≡ true) (sym limits_same) (valid_accepted cells literals valid_shown)

  pub placed_in : {e : ℕ} → e ≡ l.numbers + 1 → Places (prefix_in (parts_under (limits_in l) cells literals)) (take e places)
  placed_in {e} h =
      subst (λ (i : ℕ). Places (prefix_in (parts_under (limits_in l) cells literals)) (take i places)) (sym (add-one l.numbers) ∙ sym h)
      (subst (λ (L : Limits). Places (prefix_in (parts_under L cells literals)) (take (suc L.numbers) places)) (sym limits_same) (s.2.placed refl))

  pub kinded_in : {e : ℕ} → e ≡ l.numbers + 1 → Kinds (prefix_in (parts_under (limits_in l) cells literals)) (take e kinds)
  kinded_in {e} h =
      subst (λ (i : ℕ). Kinds (prefix_in (parts_under (limits_in l) cells literals)) (take i kinds)) (sym (add-one l.numbers) ∙ sym h)
      (subst (λ (L : Limits). Kinds (prefix_in (parts_under L cells literals)) (take (suc L.numbers) kinds)) (sym limits_same) (s.2.kinded refl))

  -- what was answered on it as it was checked
  module _ {k : Checked} (of : CheckedOf l cells literals k) (c : Call) {a : Said} {o : Maybe Learned} where
    pub answered_in : Answered (own k.numbers k.clauses) (state_of k) c a o → Answered (limits_in l) (parts_under (limits_in l) cells literals) c a o
    answered_in h =
        subst (λ (y : State). Answered (limits_in l) y c a o) of.state
        (subst (λ (i : ℕ). Answered (own i l.clauses) (state_of k) c a o) of.numbers (subst (λ (j : ℕ). Answered (own k.numbers j) (state_of k) c a o) of.clauses h))

  -- of the limits that were read, of the state's
  pub own_at : (P : Limits → Type 0) → P (limits_in l) → P (limits_of cells)
  own_at P h = subst P limits_same h
