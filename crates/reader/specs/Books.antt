-- Where the book of a session's input ends, and how many lines it has.
use Rattle.std.specs.Prelude.{Option as Answer, Some, None, ℕ, ◌+◌, ◌<◌, ◌≤◌, ◌≡◌, cond, [], ◌∷◌, eqb, length, take, drop}
use Rattle.layout.specs.Words.{Bytes, newline, split}
use Rattle.layout.specs.Session.{parted}
use Rattle.std.specs.Borrow.{Bor}
use Rattle.reader.specs.Pieces.{Cut}

-- bytes 10
unfoldable pub count_of_lines : Bytes → ℕ
count_of_lines [] = 0
count_of_lines (b ∷ s) = cond (eqb b newline) 1 0 + count_of_lines s

-- the next of the lines that are left of a text, and what is left then
abbrev pub NextLine : Answer (Bor Bytes) → Answer (Bor Bytes) → Answer (Bor Bytes) → Type 0
NextLine s None t = s ≡ None
NextLine s (Some l) t = (m : Bor Bytes) × (s ≡ Some m) × Cut newline m.now l.now t

-- r bytes, at least one, are the book, and what follows them are the lines behind it; or no line `(end)` stands
abbrev pub BookEnd : Bytes → Answer ℕ → Type 0
BookEnd s None = (parted (split newline s)).rest ≡ []
BookEnd s (Some r) = (r ≤ length s) × (take r s ≡ (parted (split newline s)).book) × (split newline (drop r s) ≡ (parted (split newline s)).rest) × (0 < r)
