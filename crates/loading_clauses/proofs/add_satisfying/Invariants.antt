-- After i turns the clause is in the rows of its first i codes.
use lib.ListN.{take}
use Rattle.loading_clauses.specs.Coded.{Satisfying}
use Rattle.loading_clauses.proofs.add_satisfying.Given as goal

abbrev pub invariant-loop-code : goal.invariant-loop-code
invariant-loop-code l = Satisfying l.words (take l.code-index l.row) l.k l.initial.sets l.sets
