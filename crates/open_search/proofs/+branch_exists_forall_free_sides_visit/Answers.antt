-- The visitors meet their contracts: `visit`, `branch`, `exists`, `forall`, `free` and `sides`, by the laws of Budgets, Rows and Visiting.
use native.Mathlib.Omega.{arith}
use mathlib.Core.Path.{◌∙◌, refl, sym, ap}
use mathlib.Core.Bool.{false}
use Prim.Native.Nat.{suc, ◌+◌}
use Rattle.qbf.specs.Formula.{exists, forall, free, ◌▹◌}
use Rattle.node.specs.declared.Verdict.TheVariants.{Mixed}
use Rattle.open_search.specs.Searching.{search_at}
use Rattle.open_search.proofs.Budgets.{found_decided, found_up, found_both, found_with, fewer_as, answer_as, verdict_as}
use Rattle.open_search.proofs.Rows.{rows_same, rows_then, rows_less, rows_united, rows_side, opened_kept, below_dead, below_satisfied, below_opened}
use Rattle.open_search.proofs.Visiting.{visit_stopped, visit_no, visit_yes, kind_found, end_found, next_in, next_is, enter_open, enter_recorded, left_as, visited_as, branched_as, entered_as}
use Rattle.open_search.proofs.+branch_exists_forall_free_sides_visit.Goals as goal

pub branch-returns-then-kind-eq-EXISTS : goal.branch-returns-then-kind-eq-EXISTS
branch-returns-then-kind-eq-EXISTS t c = (left_as (ap suc c.fork.ensures.0) c.fork.ensures.1 refl c.exists.ensures.0, record { result = λ D R os s task opened. kind_found task opened c.next_kind-kind.result c.next_kind-kind.ensures exists c.args.budget c.exists.result c.if-kind-eq-EXISTS.true ((branched_as c.fork.ensures.0 c.fork.ensures.1 refl c.exists.ensures.1).result D R os s exists task opened (next_in task opened c.next_kind-kind.result c.next_kind-kind.ensures exists c.if-kind-eq-EXISTS.true) refl) })

pub branch-returns-then-kind-eq-FORALL : goal.branch-returns-then-kind-eq-FORALL
branch-returns-then-kind-eq-FORALL t c = (left_as (ap suc c.fork-then-kind-eq-FORALL.ensures.0) c.fork-then-kind-eq-FORALL.ensures.1 refl c.forall.ensures.0, record { result = λ D R os s task opened. kind_found task opened c.next_kind-kind.result c.next_kind-kind.ensures forall c.args.budget c.forall.result c.if-kind-eq-FORALL.true ((branched_as c.fork-then-kind-eq-FORALL.ensures.0 c.fork-then-kind-eq-FORALL.ensures.1 refl c.forall.ensures.1).result D R os s forall task opened (next_in task opened c.next_kind-kind.result c.next_kind-kind.ensures forall c.if-kind-eq-FORALL.true) refl) })

pub branch-returns-then-kind-eq-FREE : goal.branch-returns-then-kind-eq-FREE
branch-returns-then-kind-eq-FREE t c = (left_as (ap suc c.fork-then-kind-eq-FREE.ensures.0) c.fork-then-kind-eq-FREE.ensures.1 refl c.free.ensures.0, record { result = λ D R os s task opened. kind_found task opened c.next_kind-kind.result c.next_kind-kind.ensures free c.args.budget c.free.result c.if-kind-eq-FREE.true ((entered_as c.fork-then-kind-eq-FREE.ensures.0 c.fork-then-kind-eq-FREE.ensures.1 refl c.free.ensures.1).result D R os s task opened (next_in task opened c.next_kind-kind.result c.next_kind-kind.ensures free c.if-kind-eq-FREE.true) (next_is task opened c.next_kind-kind.result c.next_kind-kind.ensures free c.if-kind-eq-FREE.true (next_in task opened c.next_kind-kind.result c.next_kind-kind.ensures free c.if-kind-eq-FREE.true))) })

pub branch-returns-else-kind-eq-FREE : goal.branch-returns-else-kind-eq-FREE
branch-returns-else-kind-eq-FREE t c = (record { kept = rows_same _ _ _; fewer = fewer_as c.found.ensures (omega (arith, c.counted.ensures)) }, record { result = λ D R os s task opened. end_found task opened c.next_kind-kind.result c.next_kind-kind.ensures c.args.budget c.found.result c.if-kind-eq-EXISTS.false c.if-kind-eq-FORALL.false c.if-kind-eq-FREE.false (answer_as c.found.ensures c.counted.ensures (found_decided false c.args.budget)) })

pub free-returns-then-open : goal.free-returns-then-open
free-returns-then-open t c = (c.sides.ensures.0, record { result = λ D R os s task opened inside is. enter_open task opened c.args.budget c.sides.result c.recorded_in-value.result inside is c.recorded_in-value.ensures c.if-open.true (c.sides.ensures.1.result D R os s free task opened inside refl) })

pub free-returns : goal.free-returns
free-returns t c = (record { kept = rows_side (left_as c.below-below.ensures.0 c.below-below.ensures.1 refl c.visit.ensures.0).kept; fewer = omega (arith, c.visit.ensures.0.fewer, c.counted-left.ensures) }, record { result = λ D R os s task opened inside is. enter_recorded task opened c.args.budget c.visit.result c.recorded_in-value.result inside is c.recorded_in-value.ensures c.if-open.false (found_with c.counted-left.ensures ((visited_as c.below-below.ensures.0 c.below-below.ensures.1 refl c.visit.ensures.1).result D R os s c.args.p.at task opened inside refl)) })

-- ---- sides
pub sides-returns-then-is_enough : goal.sides-returns-then-is_enough
sides-returns-then-is_enough t c = (record { kept = rows_side (left_as c.below-below.ensures.0 c.below-below.ensures.1 refl c.visit-off.ensures.0).kept; fewer = omega (arith, c.visit-off.ensures.0.fewer, c.counted-left.ensures) }, record { result = λ D R os s κ task opened inside code. (found_up κ (search_at D R os (c.args.p.at + 1)) s c.args.budget c.visit-off.result (found_with c.counted-left.ensures ((visited_as c.below-below.ensures.0 c.below-below.ensures.1 refl c.visit-off.ensures.1).result D R os s c.args.p.at task opened inside refl)) (sym (c.is_enough.ensures κ code) ∙ c.if-is_enough.true)) })

pub sides-returns : goal.sides-returns
sides-returns t c = (record { kept = rows_then (rows_side (left_as c.below-below.ensures.0 c.below-below.ensures.1 refl c.visit-off.ensures.0).kept) (rows_side (left_as c.below-below.ensures.0 c.below-below.ensures.1 refl c.visit-on.ensures.0).kept); fewer = fewer_as c.found.ensures (omega (arith, c.visit-off.ensures.0.fewer, c.visit-on.ensures.0.fewer, c.counted-left.ensures)) }, record { result = λ D R os s κ task opened inside code. verdict_as c.found.ensures (c.joined.ensures κ code) (found_both κ (search_at D R os (c.args.p.at + 1)) s c.args.budget c.visit-off.result (found_with c.counted-left.ensures ((visited_as c.below-below.ensures.0 c.below-below.ensures.1 refl c.visit-off.ensures.1).result D R os s c.args.p.at task opened inside refl)) (sym (c.is_enough.ensures κ code) ∙ c.if-is_enough.false) c.visit-on.result ((visited_as c.below-below.ensures.0 c.below-below.ensures.1 refl c.visit-on.ensures.1).result D R os s c.args.p.at task (opened_kept opened (rows_side (left_as c.below-below.ensures.0 c.below-below.ensures.1 refl c.visit-off.ensures.0).kept)) inside refl)) })

pub visit-returns-then-spent : goal.visit-returns-then-spent
visit-returns-then-spent t c = (record { kept = rows_same _ _ _; fewer = fewer_as c.found.ensures (omega arith) }, record { result = λ D R os s k task opened inside next. answer_as c.found.ensures refl (visit_stopped D R os c.args.p.at (s ▹ c.args.on) c.args.budget Mixed (omega (arith, c.if-spent.true))) })

pub visit-returns-then-any_dies : goal.visit-returns-then-any_dies
visit-returns-then-any_dies t c = (record { kept = rows_same _ _ _; fewer = fewer_as c.found-then-any_dies.ensures (omega (arith, c.counted.ensures)) }, record { result = λ D R os s k task opened inside next. answer_as c.found-then-any_dies.ensures c.counted.ensures (visit_no D R os c.args.p.at (s ▹ c.args.on) c.args.budget (sym (below_dead task opened inside c.args.on next c.code_at.ensures.0 c.any_dies.ensures) ∙ c.if-any_dies.true)) })

pub visit-returns-then-step : goal.visit-returns-then-step
visit-returns-then-step t c = (
  record { kept = rows_united c.row_down-step.ensures; fewer = fewer_as c.found-then-step.ensures (omega (arith, c.counted-then-step.ensures)) },
  record {
    result = λ D R os s k task opened inside next.
        let alive = sym (below_dead task opened inside c.args.on next c.code_at.ensures.0 c.any_dies.ensures) ∙ c.if-any_dies.false in
        let all = sym (below_satisfied task opened inside c.args.on next c.code_at.ensures.0 c.row_down-step.ensures) ∙ c.if-step.true in
        answer_as c.found-then-step.ensures c.counted-then-step.ensures (visit_yes D R os c.args.p.at (s ▹ c.args.on) c.args.budget alive all);
  },
)

pub visit-returns : goal.visit-returns
visit-returns t c = (
  record { kept = rows_then (rows_united c.row_down-step.ensures) (rows_less c.branch-matrix.ensures.0.kept); fewer = c.branch-matrix.ensures.0.fewer },
  record {
    result = λ D R os s k task opened inside next.
        let alive = sym (below_dead task opened inside c.args.on next c.code_at.ensures.0 c.any_dies.ensures) ∙ c.if-any_dies.false in
        c.branch-matrix.ensures.1.result D R os (s ▹ c.args.on) task (below_opened task opened inside c.args.on next c.code_at.ensures.0 c.row_down-step.ensures alive c.if-step.false);
  },
)
