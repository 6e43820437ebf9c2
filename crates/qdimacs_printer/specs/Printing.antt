-- What the program `qdimacs` prints. Paper 02, wishes 1, 2 and 8.
use Rattle.std.specs.Prelude.{ℕ, ◌≤◌, ◌≡◌, List, ℤ, length, take}
use Rattle.qbf.specs.Formula.{Limits}
use Rattle.layout.specs.Words.{Bytes}
use Rattle.layout.specs.Output.{refusal_text}
use Rattle.layout.specs.Opening.{Opened, refused, opened}
use Rattle.booktext.specs.Books.{book_text}
use Rattle.qdimacs_form.specs.Opening.{open_qdimacs}
use Rattle.lent_texts.specs.Whole.{IfWhole}

-- the book in our own text, or the refusal with its line
abbrev pub opened_text : Opened → Bytes
opened_text (refused n line) = refusal_text n line
opened_text (opened b) = book_text b

unfoldable pub qdimacs_program : Limits → Bytes → Bytes
qdimacs_program L s = opened_text (open_qdimacs L s)

-- the text t stands in the first r bytes of the table d
pub record Printed (t : Bytes) (r : ℕ) (d : Bytes) : Type 0 where
  pub within : r ≤ length d
  pub is : take r d ≡ t

-- .. where the text is opened onto two tables for a state: 22 at no line where they are too short for it
abbrev pub BookPrinted : Limits → List ℕ → List ℤ → Bytes → ℕ → Bytes → Type 0
BookPrinted L cells literals s r d = IfWhole L cells literals (Printed (qdimacs_program L s) r d) (Printed (refusal_text 22 0) r d)
