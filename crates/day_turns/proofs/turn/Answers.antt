-- `turn` meets its contract.
use mathlib.Core.Path.{refl, sym, ap, ◌∙◌}
use Prim.Native.Nat.{◌-◌}
use lib.ListN.{length, take, drop}
use Rattle.std.proofs.lemmas.List.{take_rest}
use Rattle.day_lines.specs.declared.TheConstants.{ANSWER}
use Rattle.day_turns.specs.Tables.{tables, in_tables}
use Rattle.day_turns.proofs.Turns.{turned_over}
use Rattle.day_turns.proofs.Parts.{line_turned, held_turned, skip_turned}
use Rattle.day_turns.proofs.turn.Goals as goal

pub returns-in-First : goal.returns-in-First
returns-in-First c =
    line_turned in_tables ANSWER c.args.s c.lines_turn.result c.args.got c.in-Some.held (c.in-Some.ensures {u = tt}).0 c.ended-ended.result c.ended-ended.ensures c.args.text.now
    (tables c.args.kept.now c.args.cells.now c.args.literals.now c.args.cards.now) c.args.answer.now c.lines_turn.new.text (tables c.lines_turn.new.kept c.lines_turn.new.cells c.lines_turn.new.literals c.lines_turn.new.cards) c.lines_turn.new.answer
    c.in-First.is c.lines_turn.ensures

pub returns-in-Text : goal.returns-in-Text
returns-in-Text c =
    held_turned in_tables ANSWER c.args.s c.text_turn.result c.args.got c.in-Some.held (c.in-Some.ensures {u = tt}).0 c.ended-ended.result c.ended-ended.ensures c.args.text.now
    (tables c.args.kept.now c.args.cells.now c.args.literals.now c.args.cards.now) c.args.answer.now c.text_turn.new.text (tables c.text_turn.new.kept c.text_turn.new.cells c.text_turn.new.literals c.args.cards.now) c.text_turn.new.answer
    c.in-Text.t c.in-Text.is (c.text_turn.ensures c.args.cards.now)

pub returns-in-Skip : goal.returns-in-Skip
returns-in-Skip c =
    skip_turned in_tables ANSWER c.args.s c.skip_turn.result c.args.got c.in-Some.held (c.in-Some.ensures {u = tt}).0 c.ended-ended.result c.ended-ended.ensures c.args.text.now
    (tables c.args.kept.now c.args.cells.now c.args.literals.now c.args.cards.now) c.args.answer.now c.args.text.now (tables c.skip_turn.new.kept c.args.cells.now c.args.literals.now c.args.cards.now) c.skip_turn.new.answer
    c.in-Skip.k (take (length (take c.in-Some.held c.args.text.now) - c.args.s.place.at) (drop c.args.s.place.at (take c.in-Some.held c.args.text.now))) (take_rest (take c.in-Some.held c.args.text.now) c.args.s.place.at)
    c.in-Skip.is refl (c.skip_turn.ensures c.args.cells.now c.args.literals.now c.args.cards.now)

pub returns-in-Over : goal.returns-in-Over
returns-in-Over c =
    turned_over in_tables ANSWER c.args.s c.over-in-Over.result c.args.got c.args.text.now (tables c.args.kept.now c.args.cells.now c.args.literals.now c.args.cards.now) c.args.answer.now c.args.text.now
    (tables c.args.kept.now c.args.cells.now c.args.literals.now c.args.cards.now) c.args.answer.now c.in-Over.is c.over-in-Over.ensures refl
