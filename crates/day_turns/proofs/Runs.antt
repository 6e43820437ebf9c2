-- Whatever the pieces are that are read, what the program prints, put together, is what the day prints for its whole input.
use Prim.Native.Nat.{ℕ, suc, ◌<◌}
use mathlib.Core.Path.{◌≡◌, refl, sym, ap, subst, ◌∙◌}
use mathlib.Core.Bool.{Bool, true}
use mathlib.Core.List.{List, [], ◌∷◌}
use lib.ListN.{length}
use Rattle.layout.specs.Words.{Bytes, newline, split, joined}
use Rattle.layout.specs.Opening.{text_bytes}
use Rattle.feeding.specs.Lines.{fed}
use Rattle.day_text.specs.Program.{first, over, day_program}
use Rattle.day_feeding.specs.Steps.{Held, start, on_byte, at_end}
use Rattle.day_feeding.proofs.Steps.{by_steps}
use Rattle.line_buffer.specs.Numbers.{last_number}
use Rattle.buffered_lines.specs.declared.Place.{Place}
use Rattle.buffered_lines.specs.Turns.{whole}
use Rattle.buffered_lines.specs.Runs.{Ran}
use Rattle.buffered_lines.proofs.Runs.{true_false, printed}
use Rattle.day_turns.specs.declared.Stage.{Stage}
use Rattle.day_turns.specs.declared.Stage.TheVariants as stage
use Rattle.day_turns.specs.declared.Day.{Day}
use Rattle.day_turns.specs.Lent.{Shown}
use Rattle.day_turns.specs.Turns.{Started}
use Rattle.day_turns.specs.Turned.{is_over, line_in, ShowsIn, day}
use Rattle.day_turns.proofs.Shows.{silent_over}

split_none : split newline [] ≡ [] ∷ []
unfolding split
split_none = refl

module _ {M : Type 0} (T : Shown M) (room_for : ℕ) where
  -- after the last answer nothing is printed
  silent_as : (g : Stage) (p : Place) (given : List Bool) (m : M) (h : Held) → is_over g ≡ true → ShowsIn T g p given m h → (q : Bytes) → whole at_end (fed on_byte h q) ≡ []
  silent_as stage.First p given m h e w q = absurd (true_false (sym e))
  silent_as stage.Places p given m h e w q = absurd (true_false (sym e))
  silent_as (stage.Text t) p given m h e w q = absurd (true_false (sym e))
  silent_as (stage.Skip k) p given m h e w q = absurd (true_false (sym e))
  silent_as stage.Calls p given m h e w q = absurd (true_false (sym e))
  silent_as stage.Over p given m h e w q = silent_over h q w

  -- From its start on, with a buffer of 65,537 bytes, tables that hold eight books, and an input of fewer than 2 ^ 64 - 1 bytes, in whatever pieces that is read: what was
  -- printed when the program is over is what the day prints.
  pub day_printed : (s : Day) (text : Bytes) (m : M) (input : Bytes) (outs : List Bytes) → Started s → T.Lent m → length text ≡ suc text_bytes → length input < last_number
      → Ran (day T room_for) s text m input outs → joined outs ≡ day_program input
  day_printed s text m input outs b lent room few ran =
      printed (day T room_for) (λ s m h e w q. silent_as s.stage s.place s.given m h e w q) s text m input outs start
      (ap (λ (p : Place). p.at) b.place) (ap (λ (p : Place). p.held) b.place) (ap (λ (p : Place). p.number) b.place)
      (subst (λ (g : Stage). ShowsIn T g s.place s.given m start) (sym b.stage) (lent, sym (ap (λ (p : Place). line_in p first) b.place)))
      split_none room few ran
      ∙ by_steps input
