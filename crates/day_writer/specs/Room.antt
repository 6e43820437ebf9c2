-- The room that a day's line needs.
use Rattle.std.specs.Prelude.{ℕ, ◌+◌, ◌*◌, ◌≤◌, length}
use Rattle.days.specs.Accounts.{books}
use Rattle.writer.specs.declared.Output.{Output}

-- No place of the shares is longer: a number of 64 bits has at most 20 digits, and a place has three of them.
abbrev pub share_bytes : ℕ
share_bytes = 85

-- No line of a day that is no answer of a book is longer, nor the place of a text and its refusal, two lines.
abbrev pub line_bytes : ℕ
line_bytes = share_bytes * books + 38

-- there is room for so many bytes
abbrev pub HasRoom : Output → ℕ → Type 0
HasRoom o n = o.at + n ≤ length o.bytes.now
