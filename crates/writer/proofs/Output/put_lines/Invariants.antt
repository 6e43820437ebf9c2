-- `put_lines` writes one row after the other.
use Prim.Native.Nat.{◌-◌, ◌*◌, ◌≤◌}
use lib.ListN.{length}
use Rattle.writer.specs.Rows.{rows_text}
use Rattle.writer.proofs.Appending.{Left}
use Rattle.writer.proofs.Output.put_lines.Given as goal

abbrev pub invariant-rows : goal.invariant-rows
invariant-rows l = record {
  rows : (l.lines.count - l.counter) * l.lines.free ≤ length l.rest;
  wrote : Left l.initial.self (rows_text l.lines.free l.lines.numbers.now l.lines.table.now l.lines.count) (rows_text l.lines.free l.lines.numbers.now l.rest (l.lines.count - l.counter)) l.self;
}
