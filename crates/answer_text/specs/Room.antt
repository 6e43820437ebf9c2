-- The lent table of an answer.
use Rattle.std.specs.Prelude.{ℕ, ◌+◌, ◌*◌, ◌≡◌, length}
use Rattle.qbf.specs.Card.{zero_table}
use Rattle.layout.specs.Words.{Bytes}
use Rattle.layout.specs.Program.{table_bytes}

-- No answer is longer. All lines of a card together have no more places than its table has bytes, and there are no more lines than
-- that; a line has at most 10 bytes for each of its places, ` (no 1000)`, and 7 more, what is no line at most 50. A book's text is shorter (`longest_book`).
abbrev pub answer_bytes : ℕ
answer_bytes = 17 * table_bytes + 50

-- No refusal with its line is longer: two numbers of 64 bits have at most 20 digits each.
abbrev pub refusal_bytes : ℕ
refusal_bytes = 52

-- "A table too short is 31 .. and zeroed" (paper 02): one that is too short for some answers. Nothing else is done, and nothing is written.
abbrev pub TooShort : ℕ → ℕ → Bytes → Bytes → Type 0
TooShort refusal written d₀ d = (refusal ≡ 31) × (written ≡ 0) × (d ≡ zero_table (length d₀))
