-- `form_rows::add_pairs` meets its contract: the pairs of each literal, from the left.
use Prim.Native.Nat.{◌≤◌}
use mathlib.Core.Path.{◌≡◌}
use lib.ListN.{length, drop}
use Rattle.qbf.specs.One.{pairs}
use Rattle.form_rows.proofs.Adding.{Adding}
use Rattle.form_rows.proofs.add_pairs.Given as goal

-- with the pairs of the literals from i on all pairs are added
abbrev pub invariant-loop-i : goal.invariant-loop-i
invariant-loop-i l =
    (l.i ≤ length l.lits)
    × (l.rows.most ≡ l.initial.rows.most)
    × (l.rows.cells.ghost_name ≡ l.initial.rows.cells.ghost_name)
    × (l.rows.sizes.ghost_name ≡ l.initial.rows.sizes.ghost_name)
    × Adding l.initial.rows.most l.initial.rows.cells.now l.initial.rows.sizes.now l.places (pairs l.lits) (pairs (drop l.i l.lits)) l.rows.cells.now l.rows.sizes.now
