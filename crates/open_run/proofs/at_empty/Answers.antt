-- `open_run::at_empty` meets its contract: a table of open marks shows the empty node.
use mathlib.Core.Path.{◌∙◌, sym}
use mathlib.Core.List.{[]}
use Rattle.open_run.proofs.Walking.{open_values}
use Rattle.open_run.proofs.at_empty.Goals as goal

pub returns-then-any_dead : goal.returns-then-any_dead
returns-then-any_dead c = record { tests = λ D k. sym (c.any_dead.ensures D [] k (open_values D 1)) ∙ c.if-any_dead.true }

pub returns-then-all_satisfied : goal.returns-then-all_satisfied
returns-then-all_satisfied c = record { tests = λ D k. (sym (c.any_dead.ensures D [] k (open_values D 1)) ∙ c.if-any_dead.false, sym (c.all_satisfied.ensures D [] (open_values D 1)) ∙ c.if-all_satisfied.true) }

pub returns : goal.returns
returns c = record { tests = λ D k. (sym (c.any_dead.ensures D [] k (open_values D 1)) ∙ c.if-any_dead.false, sym (c.all_satisfied.ensures D [] (open_values D 1)) ∙ c.if-all_satisfied.false) }
