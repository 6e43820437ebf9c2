-- `write_untagged`: the refusal of a reader of edition 2, then the first tag that would be lost, or the converted text.
use Rattle.std.proofs.Common.{length}
use Rattle.std.proofs.lemmas.Result.{err_from_is_err_and}
use Rattle.qbf.specs.Formula.{capped}
use Rattle.layout.specs.Words.{Bytes, newline, split}
use Rattle.editions.specs.Opening.{only}
use Rattle.editions.specs.Converting.{Converted, lost_line, untagged_text, fitted, unlost, to_untagged}
use Rattle.edition_conversion.proofs.Judging.{judged_refused, judged_opened, judged_short, lost_refused, lost_none}
use Rattle.edition_conversion.proofs.write_untagged.Goals as goal

-- the text without its tags, and before it the tag that would be lost
abbrev fitting : Bytes → Bytes → Converted
fitting s d = fitted (length d) (untagged_text s)

abbrev judged : Bytes → Bytes → Converted
judged s d = unlost (lost_line (split newline s)) (fitting s d)

pub returns-in_err-open : goal.returns-in_err-open
unfolding to_untagged
returns-in_err-open c = let p = err_from_is_err_and c.from_residual.result c.from_residual.ensures.1 in rw (p.1, p.2)
    (judged_refused (only 2) (capped c.args.limits.numbers c.args.limits.clauses) c.args.text.now c.in_err-open.field-0.0 c.in_err-open.ensures (judged c.args.text.now c.args.table.now) c.args.table.now)

pub invariant_of-read : goal.invariant_of-read
invariant_of-read c = record { short = judged_short (only 2) (capped c.args.limits.numbers c.args.limits.clauses) c.args.text.now c.in_ok-open.ensures }

pub returns-in-Some : goal.returns-in-Some
unfolding to_untagged
returns-in-Some c = rw c.at.ensures
    (judged_opened (only 2) (capped c.args.limits.numbers c.args.limits.clauses) c.args.text.now c.in_ok-open.ensures (judged c.args.text.now c.args.table.now) _ c.args.table.now (lost_refused (fitting c.args.text.now c.args.table.now) c.args.table.now c.in-Some.ensures))

pub returns : goal.returns
unfolding to_untagged
returns c = judged_opened (only 2) (capped c.args.limits.numbers c.args.limits.clauses) c.args.text.now c.in_ok-open.ensures (judged c.args.text.now c.args.table.now) c.write.result c.write.new.table (lost_none (fitting c.args.text.now c.args.table.now) c.write.new.table c.write.result c.in_default.ensures c.write.ensures)
