-- `session_turns::turn` meets its contract.
use mathlib.Core.Path.{◌≡◌, refl, sym, ap, ◌∙◌}
use mathlib.Core.Bool.{Bool, ◌&&◌, ◌||◌}
use Prim.Native.Nat.{ℕ, ◌+◌}
use lib.Dec.{eqb}
use lib.ListN.{length}
use Rattle.qbf.specs.Formula.{capped}
use Rattle.session_turns.specs.declared.Stage.{Stage}
use Rattle.session_turns.specs.Stages.{waits_in, held_in}
use Rattle.session_turns.proofs.Turns.{turned_over, turned_book, turned_lines, lines_more}
use Rattle.session_turns.proofs.turn.Goals.{then-ended, else-ended}
use Rattle.session_turns.proofs.turn.Goals as goal

pub returns-after-ended-clause-turned : goal.returns-after-ended-clause-turned
returns-after-ended-clause-turned c =
    let last : c.if-ended.last ≡ (c.ended-ended.result || eqb c.in-Some.read (length c.args.text.now)) =
    elim c.if-ended.branch [
      | then-ended w ↦ w.last-is ∙ w.if-ended.true ∙ sym (ap (λ (b : Bool). b || eqb c.in-Some.read (length c.args.text.now)) w.if-ended.true)
      | else-ended w ↦ w.last-is ∙ sym (ap (λ (b : Bool). b || eqb c.in-Some.read (length c.args.text.now)) w.if-ended.false)
    ] in
    turned_book (capped c.args.limits.numbers c.args.limits.clauses) c.args.s c.text_turn.result c.args.got c.args.text.now c.args.cells.now c.args.literals.now c.args.cards.now c.args.answer.now c.args.text.now
    c.text_turn.new.cells c.text_turn.new.literals c.args.cards.now c.text_turn.new.answer c.in-Book.field-0 c.in-Some.read c.in-Book.is
    ((c.in-Some.ensures {u = tt}).0 ∙ ap (λ (j : ℕ). j + c.args.got) (c.held.ensures ∙ ap held_in c.in-Book.is))
    c.ended-ended.result c.if-ended.last (c.ended-ended.ensures ∙ ap (λ (g : Stage). waits_in g && eqb c.args.got 0) c.in-Book.is) last refl refl c.text_turn.ensures

pub returns-else-place-clause-turned : goal.returns-else-place-clause-turned
returns-else-place-clause-turned c =
    turned_lines (capped c.args.limits.numbers c.args.limits.clauses) c.args.s c.lines_turn.result c.args.got c.args.text.now c.args.cells.now c.args.literals.now c.args.cards.now c.args.answer.now c.lines_turn.new.text
    c.lines_turn.new.cells c.lines_turn.new.literals c.lines_turn.new.cards c.lines_turn.new.answer c.in-Calls.place c.in-Calls.is c.ended-ended.result
    (c.ended-ended.ensures ∙ ap (λ (g : Stage). waits_in g && eqb c.args.got 0) c.in-Calls.is)
    (lines_more c.in-Calls.place c.args.got c.in-Some.read ((c.in-Some.ensures {u = tt}).0 ∙ ap (λ (j : ℕ). j + c.args.got) (c.held.ensures ∙ ap held_in c.in-Calls.is)) c.args.s.shown c.ended-ended.result c.args.text.now
    c.args.cells.now c.args.literals.now c.args.cards.now c.args.answer.now c.lines_turn.result c.lines_turn.new.text c.lines_turn.new.cells c.lines_turn.new.literals c.lines_turn.new.cards c.lines_turn.new.answer c.lines_turn.ensures)

pub returns-in-Over-clause-turned : goal.returns-in-Over-clause-turned
returns-in-Over-clause-turned c =
    turned_over (capped c.args.limits.numbers c.args.limits.clauses) c.args.s c.over-in-Over.result c.args.got c.args.text.now c.args.cells.now c.args.literals.now c.args.cards.now c.args.answer.now c.args.text.now
    c.args.cells.now c.args.literals.now c.args.cards.now c.args.answer.now c.in-Over.is c.over-in-Over.ensures refl
