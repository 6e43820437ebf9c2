use Prim.Native.Nat.{◌+◌, ◌-◌, ◌*◌}
use Rattle.qbf.specs.Formula.{highest}
use Rattle.open_search.proofs.+branch_exists_forall_free_sides_visit.Given as goal

abbrev pub decreases-branch : goal.decreases-branch
decreases-branch l = 4 * (highest.numbers - l.p.at) + 2

abbrev pub decreases-free : goal.decreases-free
decreases-free l = 4 * (highest.numbers - l.p.at) + 1

abbrev pub decreases-sides : goal.decreases-sides
decreases-sides l = 4 * (highest.numbers - l.p.at)

abbrev pub decreases-visit : goal.decreases-visit
decreases-visit l = 4 * (highest.numbers - l.p.at) + 3

abbrev pub decreases-exists : goal.decreases-exists
decreases-exists l = 4 * (highest.numbers - l.p.at) + 1

abbrev pub decreases-forall : goal.decreases-forall
decreases-forall l = 4 * (highest.numbers - l.p.at) + 1
