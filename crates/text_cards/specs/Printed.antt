-- What printing a book's card owes under limits, for every text, every two tables for its state and every table for the answer.
use Rattle.std.specs.Prelude.{ℕ, List, ℤ}
use Rattle.qbf.specs.Formula.{Limits}
use Rattle.layout.specs.Words.{Bytes}
use Rattle.layout.specs.Output.{refusal_text}
use Rattle.layout.specs.Program.{table_bytes}
use Rattle.editions.specs.Program.{card_program}
use Rattle.writer.specs.Wrote.{Wrote}
use Rattle.book_writer.specs.declared.Written.{Written}
use Rattle.answer_text.specs.Books.{Prints, PrintsRefusal}
use Rattle.lent_texts.specs.Whole.{IfWhole}

-- "What `card` prints" for the text s, written at the start of a table that holds it; 22 at no line where the tables are too short for a state
abbrev pub WritesCard : Limits → List ℕ → List ℤ → Bytes → Bytes → Bytes → ℕ → Type 0
WritesCard L cells literals s d₀ d r = IfWhole L cells literals (Wrote d₀ 0 (card_program L table_bytes s) d r) (Wrote d₀ 0 (refusal_text 22 0) d r)

-- .. in a lent table of any length
abbrev pub PrintsCard : Limits → List ℕ → List ℤ → Bytes → Bytes → Written → Bytes → Type 0
PrintsCard L cells literals s d₀ r d = IfWhole L cells literals (Prints (card_program L table_bytes s) d₀ r d) (PrintsRefusal 22 0 d₀ r d)
