-- `two_limits` meets its contract: nothing stands behind the two numbers.
use mathlib.Core.Path.{sym}
use Rattle.day_reader.proofs.Lines.{limits_more}
use Rattle.day_reader.proofs.place.two_limits.Goals as goal

pub returns-in-Some : goal.returns-in-Some
returns-in-Some c = sym (limits_more c.cut.ensures _ c.in_ok-left.was c.cut-2.ensures _ c.in-Some.is)
