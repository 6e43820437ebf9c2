-- `put_places` writes one place after the other.
use Prim.Native.Nat.{◌+◌, ◌-◌, ◌*◌, ◌≤◌}
use mathlib.Core.Path.{◌≡◌}
use lib.ListN.{drop}
use Rattle.days.specs.Accounts.{books}
use Rattle.day_text.specs.Output.{shares_from}
use Rattle.writer.proofs.Appending.{Left}
use Rattle.day_writer.specs.Room.{HasRoom, share_bytes}
use Rattle.day_writer.proofs.shares_line.put_places.Given as goal

-- what is left are the places from the next one on, there is room for each, and none took more
abbrev pub invariant-loop-i : goal.invariant-loop-i
invariant-loop-i l = record {
  items : l.u-items ≡ l.fn.used;
  room : HasRoom l.out (share_bytes * (books - l.i));
  within : l.out.at ≤ l.fn.out.at + share_bytes * l.i;
  wrote : Left l.fn.out (shares_from l.fn.total l.fn.used 0 l.fn.used) (shares_from l.fn.total l.fn.used l.i (drop l.i l.fn.used)) l.out;
}
