-- `form_rows::add_pairs_with` meets its contract: the pairs of one literal, from the left.
use Prim.Native.Nat.{◌≤◌}
use mathlib.Core.Path.{◌≡◌}
use lib.ListN.{length, drop}
use Rattle.qbf.specs.One.{pairs_with}
use Rattle.form_rows.proofs.Adding.{Adding}
use Rattle.form_rows.proofs.add_pairs_with.Given as goal

-- with the pairs of the literals that are left those of all others are added
abbrev pub invariant-loop-other : goal.invariant-loop-other
invariant-loop-other l =
    (l.other-index ≤ length l.rest)
    × (l.rows.most ≡ l.initial.rows.most)
    × (l.rows.cells.ghost_name ≡ l.initial.rows.cells.ghost_name)
    × (l.rows.sizes.ghost_name ≡ l.initial.rows.sizes.ghost_name)
    × Adding l.initial.rows.most l.initial.rows.cells.now l.initial.rows.sizes.now l.places (pairs_with l.fn.lit l.rest) (pairs_with l.fn.lit (drop l.other-index l.rest)) l.rows.cells.now l.rows.sizes.now
