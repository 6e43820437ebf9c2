-- `read_rule` meets its contract: a tag, or none.
use mathlib.Core.Bool.{true}
use mathlib.Core.Path.{sym, subst, ap, ◌∙◌}
use Rattle.std.specs.Prelude.{Option as Answer, Some, None}
use Rattle.std.specs.Borrow.{Bor}
use Rattle.layout.specs.Words.{Bytes, space}
use Rattle.reader.specs.Pieces.{pieces}
use Rattle.layout.specs.Forms.{items}
use Rattle.reader.specs.Items.{Filled}
use Rattle.editions.specs.Lines.{rule_from}
use Rattle.edition_reader.specs.Lines.{LineRead}
use Rattle.edition_reader.specs.declared.line.Line.TheVariants as line
use Rattle.edition_reader.proofs.Lines.{rule_empty, rule_tagged, plain_is, rule_unread, rule_read}
use Rattle.edition_reader.proofs.line.read_rule.Goals as goal

pub returns-in_default : goal.returns-in_default
returns-in_default c = subst (λ (l : Answer (Bor Bytes)). LineRead (rule_from (pieces space l)) (Some (line.Rule 0)) c.args.out.now) (sym c.in_default.is) (rule_empty _)

pub returns-then-same_word : goal.returns-then-same_word
returns-then-same_word c = subst (λ (l : Answer (Bor Bytes)). LineRead (rule_from (pieces space l)) c.read_tagged.result c.read_tagged.new.out) (sym c.in-Some.is) (rule_tagged c.cut.ensures c.read_tagged.result _ (sym c.same_word.ensures ∙ c.if-same_word.true) c.read_tagged.ensures)

pub returns-in_err-n : goal.returns-in_err-n
returns-in_err-n c = rw c.from_residual.ensures (subst (λ (l : Answer (Bor Bytes)). LineRead (rule_from (pieces space l)) None c.read_items.new.out) (sym c.in-Some.is) (rule_unread _ (plain_is c.cut.ensures (sym c.same_word.ensures ∙ c.if-same_word.false)) (ap (λ (l : Answer (Bor Bytes)). items true (pieces space l)) (sym c.in-Some.is) ∙ c.in_err-n.ensures)))

pub returns : goal.returns
returns c = subst (λ (l : Answer (Bor Bytes)). LineRead (rule_from (pieces space l)) (Some (line.Rule c.in_ok-n.n)) c.read_items.new.out) (sym c.in-Some.is) (rule_read _ (plain_is c.cut.ensures (sym c.same_word.ensures ∙ c.if-same_word.false)) c.in_ok-n.n (subst (λ (l : Answer (Bor Bytes)). Filled (items true (pieces space l)) (Some c.in_ok-n.n) c.read_items.new.out) c.in-Some.is c.in_ok-n.ensures))
