-- `one` meets its contract: a malformed state, a fault, and what is accepted. No more is written than a form may.
use mathlib.Core.Path.{refl}
use Rattle.std.proofs.lemmas.Result.{err_from_is_err_and}
use Rattle.qbf.specs.Calls.{one}
use Rattle.rule_calls.specs.StaysAt.{rule_writes}
use Rattle.rule_calls.proofs.Calls.{malformed, malformed_by}
use Rattle.rule_calls.proofs.Stays.{same_stays, added_stays}
use Rattle.rule_calls.proofs.Adds.{found_at}
use Rattle.rule_calls.proofs.Called.{one_found, one_refused, one_short, one_named, one_room, one_accepted}
use Rattle.rule_calls.proofs.forms.one.Goals as goal

pub returns-in_default-clause-serves : goal.returns-in_default-clause-serves
returns-in_default-clause-serves c = malformed c.args.cells.now c.args.literals.now (one c.args.lits.now) (malformed_by _ _ c.check.result _ _ c.check.ensures c.in_default.not-Ok)

pub returns-in_default-clause-frame : goal.returns-in_default-clause-frame
returns-in_default-clause-frame c = same_stays rule_writes c.args.cells.now c.args.literals.now

pub returns-in_err-judge_form-clause-serves : goal.returns-in_err-judge_form-clause-serves
returns-in_err-judge_form-clause-serves c =
    let p = err_from_is_err_and c.from_residual.result c.from_residual.ensures.1 in
    rw (p.1, p.2) (one_refused c.args.lits.now (found_at c.args.cells.now c.args.literals.now (one_found c.args.lits.now) c.in-Ok.ensures.0 c.in-Ok.ensures.1 c.clause_sizes_at.ensures c.cell_at-standing.ensures c.in-Ok.ensures.2 refl c.in_err-judge_form.ensures) _ refl)

pub returns-in_err-judge_form-clause-frame : goal.returns-in_err-judge_form-clause-frame
returns-in_err-judge_form-clause-frame c = same_stays rule_writes c.args.cells.now c.args.literals.now

pub invariant_of-rule : goal.invariant_of-rule
invariant_of-rule c = record { short = one_short c.args.lits.now (found_at c.args.cells.now c.args.literals.now (one_found c.args.lits.now) c.in-Ok.ensures.0 c.in-Ok.ensures.1 c.clause_sizes_at.ensures c.cell_at-standing.ensures c.in-Ok.ensures.2 refl c.in_ok-judge_form.ensures) refl }

pub accept_form-requires : goal.accept_form-requires
accept_form-requires c = (one_room c.args.lits.now (found_at c.args.cells.now c.args.literals.now (one_found c.args.lits.now) c.in-Ok.ensures.0 c.in-Ok.ensures.1 c.clause_sizes_at.ensures c.cell_at-standing.ensures c.in-Ok.ensures.2 refl c.in_ok-judge_form.ensures) refl, one_named c.args.lits.now (found_at c.args.cells.now c.args.literals.now (one_found c.args.lits.now) c.in-Ok.ensures.0 c.in-Ok.ensures.1 c.clause_sizes_at.ensures c.cell_at-standing.ensures c.in-Ok.ensures.2 refl c.in_ok-judge_form.ensures) refl)

pub returns-clause-frame : goal.returns-clause-frame
returns-clause-frame c = added_stays c.in-Ok.ensures.0 c.in-Ok.ensures.1 c.accept_form.ensures

pub returns-clause-serves : goal.returns-clause-serves
returns-clause-serves c = one_accepted c.args.lits.now (found_at c.args.cells.now c.args.literals.now (one_found c.args.lits.now) c.in-Ok.ensures.0 c.in-Ok.ensures.1 c.clause_sizes_at.ensures c.cell_at-standing.ensures c.in-Ok.ensures.2 refl c.in_ok-judge_form.ensures) refl c.accept_form.ensures.at
