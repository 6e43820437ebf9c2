-- `is_edged`: the tests in the order of the definition.
use Rattle.qdimacs_reader.proofs.Words.{edged_none, edged_first, edged_last}
use Rattle.qdimacs_reader.proofs.word.is_edged.Goals as goal

pub returns-then-n-eq0 : goal.returns-then-n-eq0
returns-then-n-eq0 c = edged_none _ c.if-n-eq0.true

pub returns-then-l-eq-SPACE : goal.returns-then-l-eq-SPACE
returns-then-l-eq-SPACE c = edged_first _ c.if-n-eq0.false c.if-l-eq-SPACE.true

pub returns : goal.returns
returns c = edged_last _ c.if-n-eq0.false c.if-l-eq-SPACE.false
