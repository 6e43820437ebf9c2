-- The promises of the accounts: the sum used never exceeds the total, and a floor is kept whatever the others do.
use Prim.Native.Nat.{ℕ, ◌+◌, ◌-◌, ◌≤◌, ◌<◌}
use native.Mathlib.Omega.{arith}
use mathlib.Core.Path.{◌≡◌}
use mathlib.Core.Logic.{◌↔◌}
use mathlib.Core.Bool.{false}
use mathlib.Core.List.{List}
use lib.ListN.{length, get_or}
use borrow.Author.Tests.{le-ltb, ltb-false}
use Rattle.days.specs.Accounts.{owed, used, owing, opened, Stands, overspent, allowance, charged}
use Rattle.days_laws.proofs.Sums.{used_set, owing_set, owing_one, used_one}

-- "a state whose visits used and still owed together exceed T is 22": exactly where the accounts do not stand
pub not_overspent : (T : ℕ) (us : List ℕ) → (overspent T us ≡ false) ↔ Stands T us
not_overspent T us = (λ e. ltb-false T (used us + owing T us) e, λ h. le-ltb T (used us + owing T us) h)

-- a day starts with accounts that stand
pub opened_stands : (T : ℕ) → Stands T opened
opened_stands T = omega arith

-- the other way to say what a call may use: what is not used, less what is owed to the others
pub allowance_others : (T : ℕ) (us : List ℕ) (i : ℕ) → i < length us → Stands T us → allowance T us i ≡ T - used us - (owing T us - owed T (get_or us i 0))
allowance_others T us i h s = omega (arith, owing_one T us i h)

-- a charge within the allowance keeps them standing
pub charged_stands : (T : ℕ) (us : List ℕ) (i v : ℕ) → i < length us → Stands T us → v ≤ allowance T us i → Stands T (charged us i v)
charged_stands T us i v h s k = omega (arith, used_set us i (get_or us i 0 + v) h, owing_set T us i (get_or us i 0 + v) h, owing_one T us i h)

-- the number charged is no more than the total: it has 32 bits
pub charged_fits : (T : ℕ) (us : List ℕ) (i v : ℕ) → i < length us → Stands T us → v ≤ allowance T us i → get_or us i 0 + v ≤ T
charged_fits T us i v h s k = omega (arith, used_one us i h, owing_one T us i h)
