-- `end`: a problem ends where its header stands, its flags are few, and its count holds.
use Prim.Native.Nat.{ℕ}
use mathlib.Core.Path.{ap, ◌∙◌}
use lib.ListN.{get_or}
use Rattle.qdimacs_opening.specs.declared.head.Part.TheVariants.{Start}
use Rattle.qdimacs_opening.specs.Stands.{reading_at}
use Rattle.qdimacs_opening.proofs.Turns.{is_part, not_part, end_started, end_judged}
use Rattle.qdimacs_opening.proofs.problem.Problem.end.Goals as goal

pub returns-then-eq : goal.returns-then-eq
returns-then-eq c = λ literals s. end_started (reading_at c.args.self c.args.cells.now literals) (is_part c.args.self.head.part Start c.eq.ensures c.if-eq.true) c.args.cells.now literals

pub returns : goal.returns
returns c = λ literals s.
    let started = not_part c.args.self.head.part Start c.eq.ensures c.if-eq.false in
    end_judged started (c.whole-whole.ensures literals s started) (c.cell_at-count.ensures ∙ ap (λ (i : ℕ). get_or c.whole-whole.new.cells i 0) c.clause_sizes_at.ensures) c.judge_counts.result c.judge_counts.ensures
