-- `take_rule`: the order, then the call rule.
use mathlib.Core.Path.{ap}
use Rattle.std.proofs.lemmas.Result.{err_from_is_err_and}
use Rattle.state_parts.specs.Layout.{limits_in}
use Rattle.opening.specs.Stages.{rank_of}
use Rattle.opening.proofs.Taking.{rule_refused, rule_taken}
use Rattle.opening.proofs.book.Book.take_rule.Goals as goal

pub returns-in_err-rule : goal.returns-in_err-rule
returns-in_err-rule c =
    let p = err_from_is_err_and c.from_residual-in_err-rule.result c.from_residual-in_err-rule.ensures.1 in
    rw (p.1, p.2) (rule_refused c.requires c.args.lits.now c.in_ok-place.ensures c.rule.result c.rule.ensures.serves c.in_err-rule.was)

pub returns : goal.returns
returns c = rule_taken c.requires c.args.lits.now c.in_ok-place.ensures c.rule.result c.rule.ensures.serves c.in_ok-rule.was c.at.result (ap limits_in c.at.ensures.1) (ap rank_of c.at.ensures.0)
