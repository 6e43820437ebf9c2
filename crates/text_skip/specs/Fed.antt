-- What skipping says of a day: the bytes of a text that is skipped print nothing before its line `(end)`, and the next place line begins behind it. So it
-- is with the text behind a refused place line, and with what is left of a text that is too long, which is 9 there.
use Rattle.std.specs.Prelude.{ℕ, ◌+◌, ◌≡◌, [], ◌++◌, length}
use Rattle.std.proofs.Math.Option.{Option, none, some}
use Rattle.layout.specs.Words.{Bytes}
use Rattle.feeding.specs.Lines.{Part, overlong, at_line, fed}
use Rattle.day_text.specs.Lines.{Place}
use Rattle.day_text.specs.Program.{Loading, joined_parts, text, judged}
use Rattle.day_feeding.specs.Steps.{Held, on_byte}
use Rattle.reader.specs.Books.{count_of_lines}
use Rattle.text_skip.specs.Skip.{seen_of}
use Rattle.text_skip.specs.declared.Skipped.{Skipped}
use Rattle.text_skip.specs.declared.Skipped.TheVariants as skipped

-- a text that need not be kept, of which p is what was read of a line and t what came before: behind a refused place line, or too long already
abbrev pub Skips : Option Place → Part → Part → Type 0
Skips none p t = Unit {0}
Skips (some k) p t = joined_parts t p ≡ overlong

-- in such a text: the number of the line, what was read of it, and what is kept of the text
abbrev pub inside : Loading → Option Place → ℕ → Part → Part → Held
inside z o n p t = record { number = n; part = p; left = text z o t }

-- The bytes s behind i others, read from h on: the text ends within them, or they are all of it.
abbrev pub SkipFed : Loading → Option Place → Held → ℕ → Bytes → Skipped → Type 0
SkipFed z o h i s (skipped.Ended m) =
    (a : Bytes) × (b : Bytes) × (s ≡ a ++ b) × (m ≡ i + length a)
    × (fed on_byte h a ≡ record { text = (judged z o overlong).text; held = at_line (h.number + count_of_lines a) (judged z o overlong).left })
SkipFed z o h i s (skipped.Inside k) =
    (p : Part) × (t : Part) × (fed on_byte h s ≡ record { text = []; held = inside z o (h.number + count_of_lines s) p t }) × (k ≡ seen_of p) × Skips o p t
