-- `shares::committed` meets its contract. The sum so far and what the places left come to is the sum.
use Rattle.std.proofs.Common.{◌≡◌, ◌+◌, ◌≤◌, ◌*◌, drop}
use Rattle.days.specs.Accounts.{used, owing}
use Rattle.shares.proofs.committed.Given as goal

abbrev pub invariant-loop-u : goal.invariant-loop-u
invariant-loop-u l =
    (l.sum ≤ l.u-index * 8589934592)
    × (l.sum + (used (drop l.u-index l.u-items) + owing l.total (drop l.u-index l.u-items)) ≡ used l.u-items + owing l.total l.u-items)
