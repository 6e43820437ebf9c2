-- What writing a state's book owes for every state and every table, whichever way the state lies.
use Rattle.std.specs.Prelude.{ℕ, ◌≡◌, List, ℤ}
use Rattle.std.proofs.Math.Option.{Option, none, some}
use Rattle.qbf.specs.Card.{zero_table}
use Rattle.qbf.specs.Calls.{State as Read}
use Rattle.state_parts.specs.Parts.{read_at}
use Rattle.serving.specs.Serves.{fault_of}
use Rattle.layout.specs.Words.{Bytes}
use Rattle.booktext.specs.Books.{Written, written, write_refused, write_call}

-- An answer: the refusal's number, the length of the text (0 where it is refused), and the bytes of the table.
pub record Answer : Type 0 where
  pub refusal : Option ℕ
  pub length : ℕ
  pub table : Bytes

-- as code gives it
abbrev pub answered : ℕ → ℕ → Bytes → Answer
answered refusal length table = record { refusal = fault_of refusal; length = length; table = table }

-- as the definitions give it
abbrev pub told : Written → Answer
told (written n table) = record { refusal = none; length = n; table = table }
told (write_refused n table) = record { refusal = some n; length = 0; table = table }

-- a state that does not read is malformed
abbrev pub written_of : ℕ → Option Read → Written
written_of size none = write_refused 22 (zero_table size)
written_of size (some y) = write_call size y

-- the book of the state that was read was written into a table of so many bytes
pub record WritesRead (o : Option Read) (size refusal length : ℕ) (table : Bytes) : Type 0 where
  pub said : answered refusal length table ≡ told (written_of size o)

-- .. of a state that lies in two tables, under its own limits (paper 02, wish 8: "a state with higher ones is 22")
abbrev pub WritesAt : List ℕ → List ℤ → ℕ → ℕ → ℕ → Bytes → Type 0
WritesAt cells literals size refusal length table = WritesRead (read_at cells literals) size refusal length table
