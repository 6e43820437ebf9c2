-- `shares::charge` meets its contract. The place may use the visits, so that it is 1 to 8 and the sum at most the total.
use Prim.Native.Nat.{ℕ, ◌+◌, ◌-◌, ◌≤◌}
use mathlib.Core.Path.{◌≡◌}
use mathlib.Core.List.{List}
use native.Mathlib.Omega.{arith}
use lib.ListN.{length, get_or}
use Rattle.days_laws.proofs.Accounts.{charged_fits}
use Rattle.days.specs.Accounts.{books}
use Rattle.shares.proofs.Answers.{Room, charge_room}
use Rattle.shares.proofs.charge.Goals as goal

-- the account stays within the total
within : (T : ℕ) (us : List ℕ) (p v : ℕ) → Room T us p v → length us ≡ books → get_or us (p - 1) 0 + v ≤ T
within T us p v room n = charged_fits T us (p - 1) v (omega (arith, room.first, room.last, n)) room.stands room.fits

pub overflow_add-used : goal.overflow_add-used
overflow_add-used c =
    let room = charge_room c.args.total c.args.used.now c.args.place c.args.visits c.may_use.result c.may_use.ensures.0 c.if-may_use.true in
    omega (arith, within c.args.total c.args.used.now c.args.place c.args.visits room c.may_use.ensures.1)
