-- `cut` meets its contract: the first place where the byte stands, or none.
use mathlib.Core.Path.{refl}
use Rattle.reader.proofs.Pieces.{cut_some, cut_none}
use Rattle.reader.proofs.word.cut.Goals as goal

pub returns-in-Some : goal.returns-in-Some
returns-in-Some c = cut_some c.args.c c.args.s.now c.in-Some.ensures refl

pub returns-in-None : goal.returns-in-None
returns-in-None c = cut_none c.args.c c.args.s.now c.in-None.ensures
