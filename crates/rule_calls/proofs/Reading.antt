-- Two tables whose parts under their own limits fit are read as the state of those parts.
use Prim.Native.Nat.{ℕ}
use mathlib.Core.Path.{◌≡◌, ap, ◌∙◌}
use mathlib.Core.Bool.{Bool, true, cond}
use mathlib.Core.List.{List}
use mathlib.Core.Option.{none, some}
use lib.IntN.{ℤ}
use Rattle.qbf.specs.Formula.{Limits}
use Rattle.state.specs.State.{State}
use Rattle.state.specs.Reading.{fits_under, state_under, read_under, roomy}
use Rattle.state.proofs.Rooms.{room_is}
use Rattle.state_parts.specs.Parts.{limits_of, parts_under, read_at, Whole}
use Rattle.state_parts.proofs.Written.{whole_exact, exact_roomy}
use Rattle.state_parts.proofs.Accepted.{read_roomy}

module _ (L : Limits) (cells : List ℕ) (literals : List ℤ) (same : limits_of cells ≡ L) (whole : Whole L cells literals) {x : State} (parts : parts_under L cells literals ≡ x) (fits : fits_under L x ≡ true) where
  room : roomy L (parts_under L cells literals) ≡ true
  room = room_is L (parts_under L cells literals) (exact_roomy L (parts_under L cells literals) (whole_exact L cells literals whole))

  fits_read : read_under L x ≡ some (state_under L x)
  unfolding read_under
  fits_read = ap (λ (q : Bool). cond q (some (state_under L x)) none) fits

  pub parts_read : read_at cells literals ≡ some (state_under L x)
  parts_read =
      read_roomy cells literals (ap (λ (M : Limits). roomy M (parts_under M cells literals)) same ∙ room)
      ∙ ap (λ (M : Limits). read_under M (parts_under M cells literals)) same
      ∙ ap (read_under L) parts
      ∙ fits_read
