-- `end_of` meets its contract: the rooms so far, as much as the slice leaves of them, with those that follow.
use Rattle.std.proofs.Common.{◌≡◌, ◌≤◌, ◌+◌, min, sum, drop}
use Rattle.places.proofs.rooms.end_of.Given as goal

abbrev pub invariant-loop-room : goal.invariant-loop-room
invariant-loop-room l = (l.at ≤ l.len) × (min (l.at + sum (drop l.room-index l.rooms)) l.len ≡ min (sum l.rooms) l.len)
