-- `bullacetop_day_query` meets its contract.
use Prim.Native.Nat.{ℕ}
use mathlib.Core.Path.{refl}
use mathlib.Core.List.{[]}
use Rattle.qbf.specs.Calls.{query}
use Rattle.day_calls.proofs.Served.{refused_call, searched, reply_at}
use Rattle.day_calls.proofs.searches.bullacetop_day_query.Goals as goal

pub returns-in-Err : goal.returns-in-Err
returns-in-Err c = refused_call c.args.rooms.now c.args.accounts.now c.args.cells.now c.args.literals.now c.args.place ((λ (k : ℕ). query k c.args.asked.on.now c.args.asked.off.now) c.args.asked.ceiling) c.in-Err.refusal c.in-Err.ensures _ (c.refused.ensures [])

pub returns : goal.returns
returns c =
    searched c.args.rooms.now c.args.accounts.now c.args.cells.now c.args.literals.now c.args.place c.in-Ok.at.may c.in-Ok.at.cells c.in-Ok.at.literals c.in-Ok.ensures c.bullacetop_book_query-made.new.cells c.bullacetop_book_query-made.new.literals c.bullacetop_book_query-made.auto.cells c.bullacetop_book_query-made.auto.literals
    (λ (k : ℕ). query k c.args.asked.on.now c.args.asked.off.now) c.args.asked.ceiling refl refl c.limit.result c.limit.ensures _ c.bullacetop_book_query-made.ensures.serves _
    (reply_at c.args.asked.ceiling c.in-Ok.at.may c.bullacetop_book_query-made.result c.settle-refusal.result c.settle-refusal.ensures.0 []) c.settle-refusal.new.accounts c.settle-refusal.ensures.1
