-- `Checked::free` meets its contract.
use Rattle.asking.proofs.Finding.{frees_of}
use Rattle.asking.proofs.checked.Checked.free.Goals as goal

pub returns : goal.returns
returns c = frees_of c.args.self c.free_count.ensures
