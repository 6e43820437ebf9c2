-- `skip_turn` meets its contract.
use mathlib.Core.Path.{refl, sym, ap, ◌∙◌}
use Prim.Native.Nat.{ℕ}
use lib.ListN.{length, take}
use Rattle.text_skip.specs.declared.Skipped.TheVariants as skipped
use Rattle.day_turns.specs.Turns.{skipped_text, behind}
use Rattle.day_turns.specs.Tables.{tables, in_tables}
use Rattle.day_turns.proofs.Shows.{written}
use Rattle.day_turns.proofs.Skips.{skip_within}
use Rattle.day_turns.proofs.Parts.{skip_told}
use Rattle.day_turns.proofs.skip.skip_turn.Goals as goal

pub slice_bounds-skipped-end : goal.slice_bounds-skipped-end
slice_bounds-skipped-end c = skip_within c.args.text.now c.args.k.seen c.in-Ended.end (sym c.skip.ensures ∙ c.in-Ended.is)

pub returns-in-Ended : goal.returns-in-Ended
returns-in-Ended c = λ cells literals cards.
    skip_told in_tables c.args.ended c.args.s (tables c.args.kept.now cells literals cards) _ (tables c.leave.new.kept cells literals cards) c.tell_skipped.new.answer c.args.k c.args.text.now (skipped.Ended c.in-Ended.end)
    (sym c.skip.ensures ∙ c.in-Ended.is)
    (record {
      stage = refl;
      place = ap (λ (n : ℕ). behind c.args.s.place (length (take c.in-Ended.end c.args.text.now)) n) c.behind.ensures;
      given = refl;
      printed = written (skipped_text c.args.k.told) c.args.answer.now c.tell_skipped.new.answer c.tell_skipped.result c.tell_skipped.ensures;
      skips = c.leave.ensures cells literals cards;
    })
