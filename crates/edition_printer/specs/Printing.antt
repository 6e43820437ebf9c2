-- What the programs `tag` and `untag` print. Paper 02, wishes 8 and 13.
use Rattle.std.specs.Prelude.{ℕ, List, ℤ}
use Rattle.qbf.specs.Formula.{Limits}
use Rattle.layout.specs.Words.{Bytes}
use Rattle.layout.specs.Output.{refusal_text}
use Rattle.layout.specs.Opening.{text_bytes}
use Rattle.editions.specs.Converting.{Converted, converted, refused, to_tagged, to_untagged}
use Rattle.edition_reader.specs.declared.Edition.{Edition}
use Rattle.edition_reader.specs.declared.Edition.TheVariants.{First, Second}
use Rattle.writer.specs.Wrote.{Wrote}
use Rattle.lent_texts.specs.Whole.{IfWhole}

-- the text in the other edition, or the refusal with its line
abbrev pub converted_text : Converted → Bytes
converted_text (converted t) = t
converted_text (refused k n) = refusal_text k n

unfoldable pub tag_program : Limits → Bytes → Bytes
tag_program L s = converted_text (to_tagged L text_bytes s)

unfoldable pub untag_program : Limits → Bytes → Bytes
untag_program L s = converted_text (to_untagged L text_bytes s)

-- by the edition that the text is converted to
abbrev pub converting_program : Edition → Limits → Bytes → Bytes
converting_program First = untag_program
converting_program Second = tag_program

-- ---- what printing it owes, where the text is judged onto two tables for a state: 22 at no line where they are too short for it
-- by the edition that the text is converted to
abbrev pub ConversionWritten : Edition → Limits → List ℕ → List ℤ → Bytes → Bytes → Bytes → ℕ → Type 0
ConversionWritten e L cells literals s d₀ d r = IfWhole L cells literals (Wrote d₀ 0 (converting_program e L s) d r) (Wrote d₀ 0 (refusal_text 22 0) d r)

-- .. each program by its name
abbrev pub TaggedWritten : Limits → List ℕ → List ℤ → Bytes → Bytes → Bytes → ℕ → Type 0
TaggedWritten L cells literals s d₀ d r = IfWhole L cells literals (Wrote d₀ 0 (tag_program L s) d r) (Wrote d₀ 0 (refusal_text 22 0) d r)

abbrev pub UntaggedWritten : Limits → List ℕ → List ℤ → Bytes → Bytes → Bytes → ℕ → Type 0
UntaggedWritten L cells literals s d₀ d r = IfWhole L cells literals (Wrote d₀ 0 (untag_program L s) d r) (Wrote d₀ 0 (refusal_text 22 0) d r)
