-- `asking::open::query` meets its contract.
use Rattle.asking.proofs.Finding.{few_of, clauses_of}
use Rattle.asking.proofs.open.query.Goals as goal

pub invariant_of-asked : goal.invariant_of-asked
invariant_of-asked c = record { ready = record { few = few_of c.args.checked; frees = c.requires; clauses_in = clauses_of c.args.checked } }
