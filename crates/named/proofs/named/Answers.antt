-- `named::named`: the literals looked at, and the numbers of the sign among them.
use mathlib.Core.Path.{ap, ◌∙◌}
use lib.ListN.{set}
use borrow.Author.Rules.{rules, sfits_of}
use Rattle.literal.proofs.Signed.{back}
use Rattle.named.proofs.Signs.{narrow_back}
use Rattle.named.proofs.Gathering.{naming_none, naming_more, naming_past, naming_end}
use Rattle.named.proofs.named.Goals as goal
use Rattle.named.proofs.named.Goals.{then-is_of, else-is_of}

pub loop-l-init : goal.loop-l-init
loop-l-init c = naming_none _ _ _

pub loop-l-preserved : goal.loop-l-preserved
loop-l-preserved c =
    elim c.if-is_of.branch [
      | then-is_of w ↦ rw w.n-is
          (naming_more c.loop-l.invariant c.loop-l-test.true (back (sfits_of (search rules))) c.is_of.ensures w.if-is_of.true
          (w.out-is ∙ w.put.ensures ∙ ap (set c.loop-l.out c.loop-l.n) (narrow_back _ w.number_in.ensures)))
      | else-is_of w ↦ rw (w.n-is, w.out-is) (naming_past c.loop-l.invariant c.loop-l-test.true (back (sfits_of (search rules))) c.is_of.ensures w.if-is_of.false)
    ]

pub returns : goal.returns
returns c = naming_end c.loop-l.invariant c.loop-l-test.false
