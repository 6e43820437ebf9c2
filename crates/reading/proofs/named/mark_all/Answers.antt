-- `reading::named::mark_all`: what is left of the literals is judged as the whole was.
use borrow.Author.Rules.{rules, sfits_of}
use mathlib.Core.Path.{refl}
use Rattle.std.proofs.lemmas.Result.{err_from_is_err_and}
use Rattle.literal.proofs.Signed.{back}
use Rattle.reading.proofs.Marking.{marking_more, marking_bad, marking_end}
use Rattle.reading.proofs.named.mark_all.Goals as goal

pub returns-in_err-mark : goal.returns-in_err-mark
returns-in_err-mark c = let p = err_from_is_err_and c.from_residual.result c.from_residual.ensures.1 in rw (p.1, p.2) (c.in_err-mark.ensures.0, marking_bad c.args.flags.places.now c.args.flags.free c.args.value c.args.values.now c.args.literals.now c.loop-lit.invariant c.loop-lit-test.true (back (sfits_of (search rules))) c.in_err-mark.ensures.1 refl)

pub loop-lit-preserved : goal.loop-lit-preserved
loop-lit-preserved c = marking_more c.args.flags.places.now c.args.flags.free c.args.value c.args.values.now c.args.literals.now c.loop-lit.invariant c.loop-lit-test.true (back (sfits_of (search rules))) c.in_ok-mark.ensures refl

pub returns : goal.returns
returns c = marking_end c.args.flags.places.now c.args.flags.free c.args.value c.args.values.now c.args.literals.now c.loop-lit.invariant c.loop-lit-test.false
