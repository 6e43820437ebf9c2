-- `write_tagged`: the refusal of a reader of edition 1, or the converted text.
use Rattle.std.proofs.Common.{length}
use Rattle.std.proofs.lemmas.Result.{err_from_is_err_and}
use Rattle.qbf.specs.Formula.{capped}
use Rattle.editions.specs.Opening.{only}
use Rattle.editions.specs.Converting.{tagged_text, fitted, to_tagged}
use Rattle.edition_conversion.proofs.Judging.{judged_refused, judged_opened, judged_short}
use Rattle.edition_conversion.proofs.write_tagged.Goals as goal

pub returns-in_err-open : goal.returns-in_err-open
unfolding to_tagged
returns-in_err-open c = let p = err_from_is_err_and c.from_residual.result c.from_residual.ensures.1 in rw (p.1, p.2)
    (judged_refused (only 1) (capped c.args.limits.numbers c.args.limits.clauses) c.args.text.now c.in_err-open.field-0.0 c.in_err-open.ensures (fitted (length c.args.table.now) (tagged_text c.args.text.now)) c.args.table.now)

pub invariant_of-read : goal.invariant_of-read
invariant_of-read c = record { short = judged_short (only 1) (capped c.args.limits.numbers c.args.limits.clauses) c.args.text.now c.in_ok-open.ensures }

pub returns : goal.returns
unfolding to_tagged
returns c = judged_opened (only 1) (capped c.args.limits.numbers c.args.limits.clauses) c.args.text.now c.in_ok-open.ensures (fitted (length c.args.table.now) (tagged_text c.args.text.now)) c.write.result c.write.new.table c.write.ensures
