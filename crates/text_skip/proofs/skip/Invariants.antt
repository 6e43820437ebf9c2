-- `skip` meets its contract: what is left, with what is seen so far, gives its answer.
use mathlib.Core.Path.{◌≡◌}
use lib.ListN.{drop}
use Rattle.text_skip.specs.Skip.{skip_from}
use Rattle.text_skip.proofs.skip.Given as goal

abbrev pub invariant-loop-i : goal.invariant-loop-i
invariant-loop-i l = skip_from 0 l.fn.seen l.text ≡ skip_from l.i l.here (drop l.i l.text)
