-- `input::read_all` meets its contract: what is held is within the table, which keeps its length.
use Rattle.std.proofs.Common.{◌-◌, ◌≤◌, ◌≡◌, length}
use Rattle.input.proofs.read_all.Given as goal

abbrev pub invariant-loop-held : goal.invariant-loop-held
invariant-loop-held g l = (length l.text ≡ length l.initial.text) × (l.held ≤ length l.text)

abbrev pub decreases-loop-held : goal.decreases-loop-held
decreases-loop-held g l = length l.initial.text - l.held
