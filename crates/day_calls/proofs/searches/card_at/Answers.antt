-- `card_at` meets its contract.
use Prim.Native.Nat.{ℕ}
use mathlib.Core.Path.{ap, ◌∙◌}
use mathlib.Core.Option.{some}
use lib.ListN.{length}
use Rattle.qbf.specs.Calls.{card_of}
use Rattle.serving.specs.Serves.{said}
use Rattle.refusal.specs.Refusal.{number_of}
use Rattle.day_calls.proofs.Served.{card_ceiling, card_limited, card_refused, refused_call, searched, reply_at}
use Rattle.day_calls.proofs.searches.card_at.Goals as goal

pub returns-in-Err : goal.returns-in-Err
returns-in-Err c = refused_call c.args.rooms.now c.args.accounts.now c.args.cells.now c.args.literals.now c.args.place ((λ (k : ℕ). card_of c.args.yes k (length c.args.table.now)) c.args.ceiling) c.in-Err.refusal c.in-Err.ensures _ (c.refused.ensures _ ∙ ap (said (some (number_of c.in-Err.refusal)) 0 0 0) c.clear.ensures ∙ card_refused c.args.yes c.args.ceiling (length c.args.table.now) (number_of c.in-Err.refusal))

pub returns : goal.returns
returns c =
    searched c.args.rooms.now c.args.accounts.now c.args.cells.now c.args.literals.now c.args.place c.in-Ok.at.may c.in-Ok.at.cells c.in-Ok.at.literals c.in-Ok.ensures c.card_of-made.new.cells c.card_of-made.new.literals c.card_of-made.auto.cells c.card_of-made.auto.literals
    (λ (k : ℕ). card_of c.args.yes k (length c.args.table.now)) c.args.ceiling (card_ceiling c.args.yes c.args.ceiling (length c.args.table.now)) (card_limited c.args.yes c.in-Ok.at.may c.args.ceiling (length c.args.table.now)) c.limit-limit.result c.limit-limit.ensures _ c.card_of-made.ensures.serves _
    (reply_at c.args.ceiling c.in-Ok.at.may c.card_of-made.result c.settle-refusal.result c.settle-refusal.ensures.0 c.card_of-made.new.table) c.settle-refusal.new.accounts c.settle-refusal.ensures.1
