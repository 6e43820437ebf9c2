-- `closest::show` meets its contract. The values passed are as they are shown, and the others as they were.
use Rattle.closest.proofs.Bytes.{Changed, shown}
use Rattle.closest.proofs.show.Given as goal

abbrev pub invariant-loop-value : goal.invariant-loop-value
invariant-loop-value l = Changed shown l.initial.values l.value-index l.values
