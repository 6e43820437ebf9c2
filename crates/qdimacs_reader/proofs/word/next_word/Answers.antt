-- `next_word`: empty pieces are passed over.
use mathlib.Core.Path.{refl, sym}
use borrow.Author.Tests.{eqb-true, eqb-false}
use Rattle.qdimacs_reader.proofs.Words.{pass_over, pass_more, pass_word}
use Rattle.qdimacs_reader.proofs.word.next_word.Goals as goal

pub returns-then-not-is_empty : goal.returns-then-not-is_empty
returns-then-not-is_empty c = pass_word c.loop-left.invariant c.in-Some.is c.cut.ensures (eqb-false _ _ (sym c.if-not-is_empty.ensures)) refl

pub loop-left-preserved : goal.loop-left-preserved
loop-left-preserved c = pass_more c.loop-left.invariant c.in-Some.is c.cut.ensures (eqb-true _ _ (sym c.if-not-is_empty.ensures))

pub returns : goal.returns
returns c = pass_over c.loop-left.invariant c.in_default.is
