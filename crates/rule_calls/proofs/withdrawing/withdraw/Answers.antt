-- `withdraw` meets its contract: a malformed state, one in which no clause stands, and what remains. No more is written than a withdrawal may.
use native.Mathlib.Omega.{arith}
use mathlib.Core.Path.{sym}
use Rattle.qbf.specs.Calls.{withdraw}
use Rattle.rule_calls.specs.StaysAt.{withdraw_writes}
use Rattle.rule_calls.proofs.Calls.{malformed, malformed_by}
use Rattle.rule_calls.proofs.Stays.{same_stays, withdrawn_stays}
use Rattle.rule_calls.proofs.Withdrawn.{none_read, learned_read, withdrawn_read}
use Rattle.rule_calls.proofs.withdrawing.withdraw.Goals as goal

pub returns-in_default-clause-serves : goal.returns-in_default-clause-serves
returns-in_default-clause-serves c = malformed c.args.cells.now c.args.literals.now withdraw (malformed_by _ _ c.check.result _ _ c.check.ensures c.in_default.not-Ok)

pub returns-in_default-clause-frame : goal.returns-in_default-clause-frame
returns-in_default-clause-frame c = same_stays withdraw_writes c.args.cells.now c.args.literals.now

pub returns-then-standing-eq0-clause-serves : goal.returns-then-standing-eq0-clause-serves
returns-then-standing-eq0-clause-serves c =
    none_read c.args.cells.now c.args.literals.now (sym c.in-Ok.ensures.2.said) c.in-Ok.ensures.0 c.in-Ok.ensures.1 c.clause_sizes_at.ensures c.cell_at-standing.ensures (omega (arith, c.if-standing-eq0.true))

pub returns-then-standing-eq0-clause-frame : goal.returns-then-standing-eq0-clause-frame
returns-then-standing-eq0-clause-frame c = same_stays withdraw_writes c.args.cells.now c.args.literals.now

pub take_last-requires : goal.take_last-requires
take_last-requires c =
    learned_read c.args.cells.now c.args.literals.now (sym c.in-Ok.ensures.2.said) c.in-Ok.ensures.0 c.in-Ok.ensures.1 c.clause_sizes_at.ensures c.cell_at-standing.ensures

pub returns-clause-frame : goal.returns-clause-frame
returns-clause-frame c = withdrawn_stays c.in-Ok.ensures.0 c.in-Ok.ensures.1 c.take_last.ensures

pub returns-clause-serves : goal.returns-clause-serves
returns-clause-serves c =
    withdrawn_read c.args.cells.now c.args.literals.now (sym c.in-Ok.ensures.2.said) c.in-Ok.ensures.0 c.in-Ok.ensures.1 c.clause_sizes_at.ensures c.cell_at-standing.ensures (omega (arith, c.if-standing-eq0.false)) c.take_last.ensures.at
