-- `at_items` meets its contract: the place, and what is left behind it.
use mathlib.Core.Path.{sym}
use Rattle.day_reader.proofs.Lines.{unplaced, uncalled, placed_call}
use Rattle.day_reader.proofs.at.at_items.Goals as goal

pub returns-in_err-place : goal.returns-in_err-place
returns-in_err-place c = rw c.from_residual.ensures (sym (unplaced c.cut.ensures c.in_err-place.ensures))

pub returns-in_err-call : goal.returns-in_err-call
returns-in_err-call c = rw c.from_residual-in_err-call.ensures (sym (uncalled c.cut.ensures c.in_err-call.was))

pub returns : goal.returns
returns c = sym (placed_call c.cut.ensures _ _ c.in_ok-place.ensures c.in_ok-call.was)
