-- `flag_count`: each turn judges one number more.
use Rattle.std.proofs.Common.{◌≡◌, ◌≤◌, length}
use Rattle.qdimacs_opening.specs.Built.{flags_in}
use Rattle.qdimacs_opening.proofs.flags.flag_count.Given as goal

abbrev pub invariant-loop-i : goal.invariant-loop-i
invariant-loop-i l = (l.count ≡ length (flags_in l.places l.i)) × (l.count ≤ l.i)
