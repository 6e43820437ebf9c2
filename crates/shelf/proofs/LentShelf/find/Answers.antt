-- `find` meets its contract: what was found is the first match among the rows passed, and the number is that of the newest row before them that
-- ends in the code.
use native.Mathlib.Omega.{arith}
use mathlib.Core.Path.{refl, sym, ap, ◌∙◌}
use Rattle.std.specs.Prelude.{Bool, cond, Some}
use Rattle.shelf.proofs.Finding.{find_start, find_more, find_less, find_end}
use Rattle.shelf.proofs.LentShelf.find.Goals as goal
use Rattle.shelf.proofs.LentShelf.find.Goals.{then-hit, else-hit}

pub loop-number-init : goal.loop-number-init
loop-number-init c = find_start c.args.statuses.now c.args.code c.args.want c.args.word c.args.self.agree c.before_oldest-base.result _ c.before_oldest-base.ensures (omega (arith, c.ranges.code)) c.head-number.ensures

pub loop-number-smaller : goal.loop-number-smaller
loop-number-smaller c = find_less c.args.statuses.now c.args.code c.args.want c.args.word c.args.self.agree c.loop-number.invariant (omega arith) c.slot_of-slot.result c.hits-hit.result _ _ c.slot_of-slot.ensures.0 c.slot_of-slot.ensures.1 c.hits-hit.ensures refl refl

pub loop-number-preserved : goal.loop-number-preserved
loop-number-preserved c = find_more c.args.statuses.now c.args.code c.args.want c.args.word c.args.self.agree c.loop-number.invariant (omega arith) c.slot_of-slot.result c.hits-hit.result _ _ c.slot_of-slot.ensures.0 c.slot_of-slot.ensures.1 c.hits-hit.ensures refl
    (elim c.if-hit.branch [
      | then-hit w ↦ w.found-is ∙ ap (λ (b : Bool). cond b (Some c.slot_of-slot.result) c.loop-number.found) (sym w.if-hit.true)
      | else-hit w ↦ w.found-is ∙ ap (λ (b : Bool). cond b (Some c.slot_of-slot.result) c.loop-number.found) (sym w.if-hit.false)
    ])

pub returns-clause-found : goal.returns-clause-found
returns-clause-found c = find_end c.args.statuses.now c.args.code c.args.want c.args.word c.args.self.agree c.loop-number.invariant (omega arith)
