-- `query_turn` meets its contract.
use mathlib.Core.Path.{refl}
use Rattle.std.proofs.Math.Option.{some}
use Rattle.qbf.specs.Calls.{query}
use Rattle.line_turns.proofs.Turns.{turned}
use Rattle.line_turns.proofs.Answered.{query_answered}
use Rattle.line_turns.proofs.query.query_turn.Goals as goal

pub returns-clause-turned : goal.returns-clause-turned
returns-clause-turned c = λ cells literals ceiling on off cells' literals' s t.
    turned cells literals (some (query ceiling on off)) c.args.at.number cells' literals' c.args.at.shown c.args.at.shown c.put_ruling-length.ensures.wrote
    (λ u e. query_answered ceiling cells literals on off c.args.at.number c.args.ruled.ruling c.args.ruled.visits cells' literals' u s e)
    t t refl
