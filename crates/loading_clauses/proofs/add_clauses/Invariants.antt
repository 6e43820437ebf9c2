-- After k turns the first k clauses are in their rows and in the sets.
use Prim.Native.Nat.{◌*◌}
use mathlib.Core.Path.{◌≡◌}
use lib.ListN.{length}
use Rattle.qbf.specs.Formula.{highest}
use Rattle.tables.specs.Matrices.{clause_row}
use Rattle.loading_clauses.proofs.Matrix.{FilledBelow}
use Rattle.loading_clauses.proofs.add_clauses.Given as goal

abbrev pub invariant-loop-k : goal.invariant-loop-k
invariant-loop-k l = (length l.matrix.rows ≡ highest.clauses * clause_row)
    × (length l.matrix.sets ≡ length l.initial.matrix.sets)
    × (l.matrix.quantifiers ≡ l.initial.matrix.quantifiers)
    × FilledBelow l.clauses.width l.clauses.cells.now l.clauses.sizes.now l.places l.initial.matrix.quantifiers l.words l.k l.initial.matrix.sets l.matrix.rows l.matrix.sets
