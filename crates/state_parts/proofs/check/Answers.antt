-- `check`: limits that are too high, or what the parts' check says.
use Prim.Native.Nat.{ℕ}
use mathlib.Core.Path.{◌≡◌, refl, subst}
use mathlib.Core.Bool.{Bool}
use mathlib.Core.List.{List}
use lib.IntN.{ℤ}
use Rattle.state_parts.specs.Parts.{CheckedAt}
use Rattle.state_parts.proofs.Accepted.{checked_cut, checked_at_high}
use Rattle.state_parts.proofs.check.Goals as goal

told : {cells : List ℕ} {literals : List ℤ} {ok ok' : Bool} {places kinds : List ℕ} → ok ≡ ok' → CheckedAt cells literals ok places kinds → CheckedAt cells literals ok' places kinds
told {cells} {literals} {ok} {ok'} {places} {kinds} e k = subst (λ (b : Bool). CheckedAt cells literals b places kinds) e k

pub returns-in_default : goal.returns-in_default
returns-in_default c = (refl, checked_at_high c.args.cells.now c.args.literals.now c.in_default.ensures _ _)

pub returns-then-not-valid : goal.returns-then-not-valid
returns-then-not-valid c = (
  refl,
  told c.if-not-valid.true
      (checked_cut c.args.cells.now c.args.literals.now c.in-Some.ensures.0 c.in-Some.ensures.1 c.check_parts-valid.ensures.2 c.check_parts-valid.ensures.0 c.check_parts-valid.ensures.1 _ _),
)

pub returns : goal.returns
returns c = (
  c.in-Some.ensures.0,
  c.in-Some.ensures.1,
  told c.if-not-valid.false
      (checked_cut c.args.cells.now c.args.literals.now c.in-Some.ensures.0 c.in-Some.ensures.1 c.check_parts-valid.ensures.2 c.check_parts-valid.ensures.0 c.check_parts-valid.ensures.1 _ _),
)
