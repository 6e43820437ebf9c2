-- How the lent table of a card holds the lines that the search has found so far. Paper 01, "Calls and card".
use Rattle.std.specs.Prelude.{ℕ, zero, suc, ◌/◌, ◌≤◌, ◌≡◌, true, List, [], ◌∷◌, ◌++◌, length, take, get_or}
use Rattle.qbf.specs.Formula.{Node}
use Rattle.qbf.specs.Card.{Mem, table_of}
use Rattle.tables.specs.Codes.{code_at}

-- "The table holds its length divided by f, rounded down": the first lines, as many as fit. With f = 0 a line has no bytes, and
-- which of them the table holds makes no difference.
abbrev pub held : ℕ → ℕ → List Node → List Node
held f size ls = take (size / f) ls

-- The lines are ls: the table has the bytes of those that fit, and zeros after them.
pub record Covers (f : ℕ) (table : List ℕ) (ls : List Node) : Type 0 where
  pub bytes : table ≡ table_of f (length table) (held f (length table) ls)
  pub short : (s : Node) → Mem s ls → length s ≤ f

-- the bytes of the first k places: the statuses of their positive literals
unfoldable pub first_bytes : List ℕ → ℕ → List ℕ
first_bytes statuses zero = []
first_bytes statuses (suc k) = first_bytes statuses k ++ (get_or statuses (code_at (suc k) true) 0 ∷ [])
