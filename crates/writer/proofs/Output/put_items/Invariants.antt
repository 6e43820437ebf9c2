-- `put_items` writes one item after the other.
use Rattle.std.proofs.Common.{length, ◌≤◌}
use Rattle.writer.specs.Rows.{items_from}
use Rattle.writer.proofs.Appending.{Left}
use Rattle.writer.proofs.Output.put_items.Given as goal

-- what is left are the items of the numbers and the values that are left
abbrev pub invariant-loop-number : goal.invariant-loop-number
invariant-loop-number l =
    (length l.number-iterator.b.rest.now ≤ length l.number-iterator.a.rest.now)
    × Left l.initial.self (items_from l.numbers 1 l.row) (items_from l.number-iterator.a.rest.now 0 l.number-iterator.b.rest.now) l.self
