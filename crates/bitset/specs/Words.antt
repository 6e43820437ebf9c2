-- Words: what the functions do to the words of a row.
use Rattle.std.specs.Prelude.{ℕ, List, get_or}
use Rattle.std.specs.Int.Bits.{bit_and, bit_or, bit_xor}

-- the digits of a that are not in b
abbrev pub rest : ℕ → ℕ → ℕ
rest a b = bit_xor a (bit_and a b)

-- word k of two tables
abbrev pub rest_at : List ℕ → ℕ → List ℕ → ℕ → ℕ
rest_at a i b k = rest (get_or a i 0) (get_or b k 0)

-- the word that a union writes, and what is new in it
abbrev pub both : List ℕ → ℕ → List ℕ → ℕ → ℕ
both t from by b₀ = bit_or (get_or t from 0) (get_or by b₀ 0)

abbrev pub new_in : List ℕ → ℕ → List ℕ → ℕ → ℕ
new_in t from by b₀ = bit_xor (get_or t from 0) (both t from by b₀)
