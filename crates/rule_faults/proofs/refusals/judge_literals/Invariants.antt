-- After i turns the first i literals have no fault, and their numbers are named.
use Rattle.state_parts.specs.Layout.{limits_in}
use Rattle.rule_faults.proofs.Refusing.{Judging}
use Rattle.rule_faults.proofs.refusals.judge_literals.Given as goal

abbrev pub invariant-loop-lit : goal.invariant-loop-lit
invariant-loop-lit l = Judging (limits_in l.limits) l.lits l.places l.named l.lit-index
