-- A number right-aligned, digit by digit from the last: what the code writes.
use Rattle.std.specs.Prelude.{ℕ, zero, suc, ◌+◌, ◌/◌, ◌%◌, cond, [], ◌∷◌, ◌++◌, eqb}
use Rattle.layout.specs.Words.{Bytes, space}

-- the last digit of n; a blank where n is 0, which has no digit left
unfoldable pub digit : ℕ → ℕ
digit n = cond (eqb n 0) space (48 + n % 10)

-- the last k digits
abbrev pub columns : ℕ → ℕ → Bytes
columns zero n = []
columns (suc k) n = columns k (n / 10) ++ (digit n ∷ [])
