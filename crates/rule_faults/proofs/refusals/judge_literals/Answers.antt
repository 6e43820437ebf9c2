use borrow.Author.Rules.{rules, sfits_of}
use native.Mathlib.Omega.{arith}
use Prim.Native.Nat.{suc}
use mathlib.Core.Path.{refl}
use Rattle.qbf.specs.Formula.{highest}
use mathlib.Core.Option.{none}
use Rattle.literal.proofs.Signed.{back}
use Rattle.state_parts.specs.Layout.{limits_in}
use Rattle.rule_faults.proofs.Refusing.{judging_none, judging_more}
use Rattle.rule_faults.proofs.refusals.judge_literals.Goals as goal

pub loop-lit-init : goal.loop-lit-init
loop-lit-init c = judging_none (limits_in c.args.limits) (suc highest.numbers) (omega (arith, c.args.limits.few_numbers)) c.args.lits.now c.args.places.now

pub loop-lit-preserved : goal.loop-lit-preserved
loop-lit-preserved c = judging_more c.loop-lit.invariant c.loop-lit-test.true (back (sfits_of (search rules))) c.number_of-number.ensures none c.in_ok-judge_number.ensures refl
