-- Sets of numbers as rows of words in a table. A row begins at a word, and may be as long as the table goes on; rows of one table do not
-- overlap where their words do not. Nothing outside this crate speaks of a word's digits: `member` is all that a caller sees of a row.
use Rattle.std.specs.Prelude.{ℕ, zero, suc, ◌+◌, ◌*◌, ◌/◌, ◌%◌, ◌≤◌, ◌<◌, ◌≡◌, Bool, true, false, cond, not, ◌&&◌, ◌||◌, List, length, get_or, take, drop, eqb}

-- how many numbers a word has room for
abbrev pub width : ℕ
width = 64

-- the digit i of a number, from the lowest
unfoldable pub digit : ℕ → ℕ → ℕ
digit zero w = w % 2
digit (suc i) w = digit i (w / 2)

-- number i is in the row that begins at word `from`: digit (i % 64) of the word from + i / 64
unfoldable pub member : List ℕ → ℕ → ℕ → Bool
member table from i = eqb (digit (i % width) (get_or table (from + i / width) 0)) 1

-- the n words from a word on, as a row alone
abbrev pub row : List ℕ → ℕ → ℕ → List ℕ
row table from n = take n (drop from table)

-- in the first row and not in the second
abbrev pub outside : List ℕ → ℕ → List ℕ → ℕ → ℕ → Bool
outside a a₀ b b₀ i = member a a₀ i && not (member b b₀ i)

-- ---- a test on the numbers below n
unfoldable pub all_below : (ℕ → Bool) → ℕ → Bool
all_below f zero = true
all_below f (suc n) = all_below f n && f n

unfoldable pub some_below : (ℕ → Bool) → ℕ → Bool
some_below f zero = false
some_below f (suc n) = some_below f n || f n

-- the least that passes; n where none does
unfoldable pub least_below : (ℕ → Bool) → ℕ → ℕ
least_below f zero = zero
least_below f (suc n) = cond (f zero) zero (suc (least_below (λ i. f (suc i)) n))

-- ---- what the functions do to a table. Of a number in a row the pair (row, number) counts only by row * 64 + number.

-- all is as it was but the row of n words that begins at `from`
pub record Kept (from n : ℕ) (t t' : List ℕ) : Type 0 where
  pub long : length t' ≡ length t
  pub below : (f i : ℕ) → f * width + i < from * width → member t' f i ≡ member t f i
  pub above : (f i : ℕ) → (from + n) * width ≤ f * width + i → member t' f i ≡ member t f i

-- number i is in the row at `from`, and all else is as it was
pub record Inserted (from i : ℕ) (t t' : List ℕ) : Type 0 where
  pub long : length t' ≡ length t
  pub members : (f j : ℕ) → member t' f j ≡ (member t f j || eqb (f * width + j) (from * width + i))

-- the row is empty
pub record Cleared (from n : ℕ) (t t' : List ℕ) : Type 0 where
  pub empty : (i : ℕ) → i < n * width → member t' from i ≡ false
  pub kept : Kept from n t t'

-- the row at `to` is the union of the row at `from` and a row of another table; whether it has every number, and whether one that the row at
-- `from` had not
pub record Unites (from to : ℕ) (by : List ℕ) (b₀ n : ℕ) (t t' : List ℕ) (every new : Bool) : Type 0 where
  pub row : (i : ℕ) → i < n * width → member t' to i ≡ (member t from i || member by b₀ i)
  pub kept : Kept to n t t'
  pub all : every ≡ all_below (member t' to) (n * width)
  pub fresh : new ≡ some_below (outside t' to t from) (n * width)
