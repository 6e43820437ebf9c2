-- `searching::run::decided` meets its contract.
use mathlib.Core.Path.{ap}
use Rattle.std.specs.Prelude.{None}
use Rattle.node.specs.declared.answer.Answer.{Answer}
use Rattle.searching.proofs.run.decided.Goals as goal

pub returns : goal.returns
returns c = ap (λ (a : Answer). record { answer = a; learned = None }) c.ended-answer.ensures
