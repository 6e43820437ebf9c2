-- `same_word` meets its contract: two words are the same where `==` says so.
use mathlib.Core.Path.{◌∙◌}
use Rattle.reader.proofs.Words.{pointwise_same}
use Rattle.reader.proofs.word.same_word.Goals as goal

pub returns : goal.returns
returns c = c.eq.ensures ∙ pointwise_same c.args.w.now c.args.v.now
