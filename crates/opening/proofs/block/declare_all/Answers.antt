-- `declare_all`: what is left of the literals declares what the whole would.
use Rattle.std.proofs.Common.{rules, get_or, pos}
use borrow.Author.Rules.{sfits_of}
use Rattle.std.proofs.lemmas.Result.{err_from_is_err_and}
use Rattle.literal.proofs.Signed.{back}
use mathlib.Core.Path.{refl}
use Rattle.opening.proofs.Growing.{left_refused, left_more, declarable_at}
use Rattle.opening.proofs.block.declare_all.Goals as goal

pub declare-requires : goal.declare-requires
declare-requires c = declarable_at c.loop-lit.invariant.growable

pub returns-in_err-declare : goal.returns-in_err-declare
returns-in_err-declare c = let p = err_from_is_err_and c.from_residual.result c.from_residual.ensures.1 in rw (p.1, p.2) (left_refused c.loop-lit.invariant c.loop-lit-test.true (back {z = get_or c.args.lits.now c.loop-lit.lit-index (pos 0)} (sfits_of (search rules))) c.number_of.ensures c.in_err-declare.ensures refl)

pub loop-lit-preserved : goal.loop-lit-preserved
loop-lit-preserved c = left_more c.loop-lit.invariant c.loop-lit-test.true (back {z = get_or c.args.lits.now c.loop-lit.lit-index (pos 0)} (sfits_of (search rules))) c.number_of.ensures c.in_ok-declare.ensures refl
