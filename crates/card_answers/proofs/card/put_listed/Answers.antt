-- `put_listed` meets its contract: by the lines, or by the refusal.
use Prim.Native.Nat.{ℕ}
use mathlib.Core.Path.{ap, ◌∙◌}
use Rattle.layout.specs.Session.{search_refusal_text}
use Rattle.answer_text.proofs.Room.{wrote_as}
use Rattle.card_answers.proofs.CardTexts.{shown_said, refused_text}
use Rattle.card_answers.proofs.card.put_listed.Goals as goal

pub put_shown-requires : goal.put_shown-requires
put_shown-requires c = record {
  read = c.requires.read;
  names = c.requires.names;
  said = shown_said _ c.args.filled.table.now c.in-Ok.count c.args.listed.lines c.args.listed.visits c.requires.said c.in-Ok.is;
}

pub returns-in-Ok : goal.returns-in-Ok
returns-in-Ok c = λ h. c.put_shown.ensures (record { read = h.read; names = h.names; said = shown_said _ c.args.filled.table.now c.in-Ok.count c.args.listed.lines c.args.listed.visits h.said c.in-Ok.is }) c.args.line

pub returns-in-Err : goal.returns-in-Err
returns-in-Err c = λ h. record {
  held = c.put_search_refusal.ensures.held;
  wrote = wrote_as (ap (λ (k : ℕ). search_refusal_text k c.args.line c.args.listed.visits) c.number.ensures ∙ refused_text c.args.filled.sought.ceiling c.args.filled.sought.yes h.read c.args.line c.args.filled.table.now c.in-Err.refusal c.args.listed.lines c.args.listed.visits h.said c.in-Err.is) c.put_search_refusal.ensures.wrote;
}
