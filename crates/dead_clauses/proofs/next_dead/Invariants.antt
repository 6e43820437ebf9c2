-- `dead_clauses::next_dead`: the outer loop has passed clauses that are not dead, the inner one the literals of a clause that are lost.
use Rattle.std.proofs.Common.{◌≡◌, ℕ, ◌<◌, ◌≤◌, get_or, true, pos}
use Rattle.dead_clauses.specs.Dead.{lost, Alive}
use Rattle.dead_clauses.proofs.next_dead.Given as goal

abbrev pub invariant-clauses : goal.invariant-clauses
invariant-clauses l = (l.from ≤ l.k) × Alive l.clauses.width l.clauses.cells.now l.clauses.sizes.now l.kinds l.values l.from l.k

abbrev pub invariant-loop-lit : goal.invariant-loop-lit
invariant-loop-lit l = (j : ℕ) → j < l.lit-index → lost l.kinds l.values (get_or l.lit-items j (pos 0)) ≡ true
