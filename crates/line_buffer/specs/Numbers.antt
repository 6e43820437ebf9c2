-- The number of a line.
use Rattle.std.specs.Prelude.{ℕ, ◌+◌, min}

-- it has 64 bits
abbrev pub last_number : ℕ
last_number = 18446744073709551615

abbrev pub next_number : ℕ → ℕ
next_number n = min (n + 1) last_number
