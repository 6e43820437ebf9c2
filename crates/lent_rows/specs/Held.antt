-- The rows of a state's lent table.
use Rattle.std.specs.Prelude.{ℕ, suc, ◌+◌, ◌*◌, ◌≤◌, ◌<◌, List, length, get_or}

-- The rows that stand lie within a lent table, whatever room it has beyond them: no more than `most`, and none of more than `stride` cells.
pub record Held {A : Type 0} (stride most : ℕ) (flat : List A) (sizes : List ℕ) : Type 0 where
  pub counted : get_or sizes 0 0 < length sizes
  pub few : get_or sizes 0 0 ≤ most
  pub short : (k : ℕ) → k < get_or sizes 0 0 → get_or sizes (suc k) 0 ≤ stride
  pub inside : (k : ℕ) → k < get_or sizes 0 0 → k * stride + get_or sizes (suc k) 0 ≤ length flat
