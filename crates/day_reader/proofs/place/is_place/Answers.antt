-- `is_place` meets its contract: another keyword, this one alone, or this one and a byte behind it.
use native.Mathlib.Omega.{arith}
use mathlib.Core.Bool.{not}
use mathlib.Core.Path.{sym, ap, ◌∙◌}
use Rattle.day_reader.proofs.Lines.{other_keyword, keyword_alone, keyword_more}
use Rattle.day_reader.proofs.place.is_place.Goals as goal

pub returns-in-Some-empty : goal.returns-in-Some-empty
returns-in-Some-empty c = let s = c.in-Some-empty.ensures.cases in
    sym (keyword_alone c.args.l.now _ s.0 s.1 (omega arith))

pub returns-in-Some-len1-up : goal.returns-in-Some-len1-up
returns-in-Some-len1-up c = let s = c.in-Some-len1-up.ensures.cases in
    ap not c.of_keyword.ensures ∙ sym (keyword_more c.args.l.now _ s.0 s.1 (omega arith))

pub returns-in-None : goal.returns-in-None
returns-in-None c = sym (other_keyword c.args.l.now c.in-None.ensures.cases)
