-- `bullacetop_day_closest` meets its contract.
use Prim.Native.Nat.{ℕ}
use mathlib.Core.Path.{refl, ap, ◌∙◌}
use lib.ListN.{length, take}
use Rattle.qbf.specs.Calls.{closest}
use Rattle.serving.specs.Serves.{said, fault_of}
use Rattle.std.proofs.Math.Option.{some}
use Rattle.refusal.specs.Refusal.{number_of}
use Rattle.closest_call.specs.Nearest.{padded}
use Rattle.reply_numbers.specs.Answers.{closest_said, unless_refused}
use Rattle.day_calls.proofs.Served.{refused_call, searched, closest_at, returned_at, free_lent}
use Rattle.day_calls.proofs.searches.bullacetop_day_closest.Goals as goal

pub returns-in-Err-clause-serves : goal.returns-in-Err-clause-serves
returns-in-Err-clause-serves c = refused_call c.args.rooms.now c.args.accounts.now c.args.cells.now c.args.literals.now c.args.place ((λ (k : ℕ). closest k (length c.args.table.now) c.args.asked.on.now c.args.asked.off.now) c.args.asked.ceiling) c.in-Err.refusal c.in-Err.ensures _ (c.refused_closest.ensures.told _ _ ∙ ap (said (some (number_of c.in-Err.refusal)) 0 0 0) c.clear.ensures)

pub returns-clause-serves : goal.returns-clause-serves
returns-clause-serves c =
    searched c.args.rooms.now c.args.accounts.now c.args.cells.now c.args.literals.now c.args.place c.in-Ok.at.may c.in-Ok.at.cells c.in-Ok.at.literals c.in-Ok.ensures c.bullacetop_book_closest-made.new.cells c.bullacetop_book_closest-made.new.literals c.bullacetop_book_closest-made.auto.cells c.bullacetop_book_closest-made.auto.literals
    (λ (k : ℕ). closest k (length c.args.table.now) c.args.asked.on.now c.args.asked.off.now) c.args.asked.ceiling refl refl c.limit.result c.limit.ensures _ c.bullacetop_book_closest-made.ensures.serves _
    (closest_at c.args.asked.ceiling c.in-Ok.at.may c.bullacetop_book_closest-made.result c.settle-refusal.result c.settle-refusal.ensures.0 c.bullacetop_book_closest-made.new.table _
    ∙ ap (λ (k : ℕ). closest_said (record { refusal = c.settle-refusal.result; differs = c.bullacetop_book_closest-made.result.differs; lines = c.bullacetop_book_closest-made.result.lines; visits = c.bullacetop_book_closest-made.result.visits }) c.bullacetop_book_closest-made.new.table (take k c.bullacetop_book_closest-made.new.reading))
    (free_lent c.args.rooms.now c.args.accounts.now c.args.cells.now c.args.literals.now c.args.place c.in-Ok.at.may c.in-Ok.at.cells c.in-Ok.at.literals c.in-Ok.ensures c.bullacetop_book_closest-made.new.cells c.bullacetop_book_closest-made.new.literals c.bullacetop_book_closest-made.auto.cells c.bullacetop_book_closest-made.auto.literals))
    c.settle-refusal.new.accounts c.settle-refusal.ensures.1

pub returns-clause-reading_after : goal.returns-clause-reading_after
returns-clause-reading_after c =
    c.bullacetop_book_closest-made.ensures.reading_after
    ∙ ap (λ (k : ℕ). padded (unless_refused (fault_of c.bullacetop_book_closest-made.result.refusal) (take k c.bullacetop_book_closest-made.new.reading))) (free_lent c.args.rooms.now c.args.accounts.now c.args.cells.now c.args.literals.now c.args.place c.in-Ok.at.may c.in-Ok.at.cells c.in-Ok.at.literals c.in-Ok.ensures c.bullacetop_book_closest-made.new.cells c.bullacetop_book_closest-made.new.literals c.bullacetop_book_closest-made.auto.cells c.bullacetop_book_closest-made.auto.literals)
    ∙ ap padded (returned_at c.args.asked.ceiling c.in-Ok.at.may c.bullacetop_book_closest-made.result.refusal c.settle-refusal.result c.settle-refusal.ensures.0 _)
