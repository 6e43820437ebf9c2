-- What the line that asks for a book's text owes, of a state in two lent tables. Paper 02, wishes 2 and 8.
use Rattle.std.specs.Prelude.{ℕ, ◌≤◌, ◌≡◌, List, ℤ, length, take}
use Rattle.std.proofs.Math.Option.{Option, none, some}
use Rattle.qbf.specs.Calls.{State as Read}
use Rattle.layout.specs.Words.{Bytes}
use Rattle.sessions.specs.Session.{table_for, written_answer}
use Rattle.state_parts.specs.Parts.{read_at}
use Rattle.book_writer.specs.Writes.{written_of}

-- the table that holds every text is as large as the book's limits ask; a state that does not read has none, and is 22 in any table
abbrev pub table_read : Option Read → Option ℕ → ℕ
table_read none size = 0
table_read (some y) size = table_for y.formula.limits size

abbrev pub write_answer : Option Read → ℕ → Option ℕ → Bytes
write_answer o n size = written_answer n (written_of (table_read o size) o)

-- line n asks for the text in a table of so many bytes, or in one that holds every text: the answer stands in the first r bytes of the table d
pub record TextAnswered (cells : List ℕ) (literals : List ℤ) (size : Option ℕ) (n r : ℕ) (d : Bytes) : Type 0 where
  pub within : r ≤ length d
  pub text : take r d ≡ write_answer (read_at cells literals) n size
