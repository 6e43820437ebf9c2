-- `whole`: the flags before the groups, or what stands.
use Rattle.qdimacs_opening.specs.declared.head.Part.TheVariants.{Groups}
use Rattle.qdimacs_opening.proofs.Taking.{grouped, whole_same, whole_completed}
use Rattle.qdimacs_opening.proofs.Turns.{same_part, other_part, last_part}
use Rattle.qdimacs_opening.proofs.problem.Problem.whole.Goals as goal

pub returns-then-ne : goal.returns-then-ne
returns-then-ne c = λ literals s z. whole_same c.args.self s (last_part c.args.self.head.part z (other_part c.args.self.head.part Groups c.ne.ensures c.if-ne.true))

pub returns : goal.returns
returns c = λ literals s z.
    let e = same_part c.args.self.head.part Groups c.ne.ensures c.if-ne.false in
    whole_completed c.args.self s e (c.complete-crowd.ensures literals (grouped c.args.self s e))
