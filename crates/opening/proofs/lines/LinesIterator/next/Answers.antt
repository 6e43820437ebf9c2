-- The next line ends at the first byte 10.
use mathlib.Core.Path.{refl, sym, subst}
use borrow.Author.Tests.{eqb-false}
use Rattle.layout.specs.Words.{newline}
use Rattle.reader.specs.Pieces.{Cut}
use Rattle.opening.proofs.Reading.{next_missing}
use Rattle.opening.proofs.lines.LinesIterator.next.Goals as goal

pub returns-in_default-clause-steps : goal.returns-in_default-clause-steps
returns-in_default-clause-steps c = let m = next_missing (subst (Cut newline _ _) c.in_default.is c.cut.ensures) (eqb-false _ _ (sym c.if-is_empty.ensures)) in (refl, m.0, m.1, m.2)
