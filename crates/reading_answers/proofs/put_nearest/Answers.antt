-- `put_nearest` meets its contract: the row by the bytes is the reading, or it is refused.
use Prim.Native.Nat.{ℕ}
use mathlib.Core.Path.{ap, ◌∙◌}
use borrow.Author.Rules.{rules}
use Rattle.layout.specs.Session.{search_refusal_text}
use Rattle.answer_text.proofs.Room.{wrote_as}
use Rattle.reading_answers.proofs.NearestTexts.{nearest_written, nearest_refused}
use Rattle.reading_answers.proofs.put_nearest.Goals as goal

pub put_closest-requires : goal.put_closest-requires
put_closest-requires c = let w = nearest_written c.requires.ceiling c.requires.on c.requires.off c.requires.read c.requires.table c.args.reading.now c.args.nearest.told c.args.nearest.lines c.args.nearest.visits c.args.names.free c.requires.said c.in-Ok.differs c.in-Ok.is (search rules, search rules) c.args.names.numbers.now c.requires.names in
    w.short

pub returns : goal.returns
returns c = λ h.
    let w = nearest_written h.ceiling h.on h.off h.read h.table c.args.reading.now c.args.nearest.told c.args.nearest.lines c.args.nearest.visits c.args.names.free h.said c.in-Ok.differs c.in-Ok.is (search rules, search rules) c.args.names.numbers.now h.names in
    record { held = c.put_closest.ensures.held; wrote = wrote_as (w.text c.args.line) c.put_closest.ensures.wrote }

pub returns-in-Err : goal.returns-in-Err
returns-in-Err c = λ h. record {
  held = c.put_search_refusal.ensures.held;
  wrote = wrote_as
      (ap (λ (k : ℕ). search_refusal_text k c.args.line c.args.nearest.visits) c.number.ensures ∙ nearest_refused h.ceiling h.on h.off h.read h.table c.args.reading.now c.args.nearest.told c.args.nearest.lines c.args.nearest.visits c.args.names.free h.said c.in-Err.refusal c.args.line c.in-Err.is)
      c.put_search_refusal.ensures.wrote;
}
