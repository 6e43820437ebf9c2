-- The closest reading from the bytes of a card's table. Papers 01, "Calls and card", and 02, wish 9.
use Rattle.std.specs.Prelude.{ℕ, zero, suc, ◌*◌, ◌-◌, ◌≤◌, ◌<◌, ◌≡◌, ◌⊎◌, Bool, cond, List, [], ◌∷◌, map, take, drop, eqb}
use Rattle.std.proofs.Math.Option.{Option, none, some}
use Rattle.qbf.specs.Formula.{Node}
use Rattle.qbf.specs.Card.{byte_of}
use Rattle.std.specs.Prelude.{Some, None}
use Rattle.std.specs.Prelude.{Option as Maybe}
use Rattle.qbf.specs.Closest.{distance, Found, on_line, closest_in}

-- "0 open, 1 off, 2 on": the value of a byte that is not open
abbrev pub value_in : ℕ → Bool
value_in b = eqb b 2

-- the values of a full reading in bytes
unfoldable pub values_in : List ℕ → Node
values_in bytes = map value_in bytes

-- "A line is f bytes in place order": the line of a row, whose set flags stand before its open ones
unfoldable pub line_in : List ℕ → Node
line_in [] = []
line_in (b ∷ bs) = cond (eqb b 0) [] (value_in b ∷ line_in bs)

-- the first n lines of a table
unfoldable pub lines_in : ℕ → ℕ → List ℕ → List Node
lines_in f zero table = []
lines_in f (suc n) table = line_in (take f table) ∷ lines_in f n (drop f table)

-- the row with the number k, from 0
abbrev pub row_at : ℕ → List ℕ → ℕ → List ℕ
row_at f table k = take f (drop (k * f) table)

-- the code's answer: the number, or no line (the wish's 35)
abbrev pub answer_of : Option Found → Maybe ℕ
answer_of none = None
answer_of (some r) = Some r.number

-- the bytes of the reading, each off or on; where there is no line they stay as they were
abbrev pub reading_after : Option Found → List ℕ → List ℕ
reading_after none old = old
reading_after (some r) old = map byte_of r.reading

-- what the lines from k on give, in the search from the last line to the first: nothing yet, or a line's reading with its number
pub record Best (f lines : ℕ) (table : List ℕ) (t : Node) (k line number : ℕ) : Type 0 where
  pub within : line < lines
  pub small : number ≤ f
  pub is : closest_in (lines_in f (lines - k) (drop (k * f) table)) t ≡ some (on_line (line_in (row_at f table line)) t)
  pub far : number ≡ distance (line_in (row_at f table line)) t

abbrev pub SoFar : (f lines : ℕ) (table : List ℕ) (t : Node) (k line number : ℕ) → Type 0
SoFar f lines table t k line number = ((k ≡ lines) × (number ≡ f)) ⊎ Best f lines table t k line number
