use Prim.Native.Nat.{◌+◌, ◌-◌, ◌*◌}
use Rattle.qbf.specs.Formula.{highest}
use Rattle.search.proofs.+branch_exists_forall_free_side_sides_visit.Given as goal

abbrev pub decreases-branch : goal.decreases-branch
decreases-branch l = 7 * (highest.numbers - l.p.at) + 4

abbrev pub decreases-side : goal.decreases-side
decreases-side l = 7 * (highest.numbers - l.p.at) + 6

abbrev pub decreases-visit : goal.decreases-visit
decreases-visit l = 7 * (highest.numbers - l.p.at) + 5

abbrev pub decreases-exists : goal.decreases-exists
decreases-exists l = 7 * (highest.numbers - l.p.at) + 3

abbrev pub decreases-forall : goal.decreases-forall
decreases-forall l = 7 * (highest.numbers - l.p.at) + 3

abbrev pub decreases-free : goal.decreases-free
decreases-free l = 7 * (highest.numbers - l.p.at) + 3

abbrev pub decreases-sides : goal.decreases-sides
decreases-sides l = 7 * (highest.numbers - l.p.at) + 2
