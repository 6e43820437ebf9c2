-- The learned clauses after a withdrawal, in rows of w cells.
use Rattle.std.specs.Prelude.{ℕ, suc, ◌+◌, ◌*◌, ◌≤◌, ◌<◌, ◌≡◌, List, [], ◌∷◌, ◌++◌, ℤ, length, get_or, drop}
use Rattle.qbf.specs.Formula.{paper, highest}
use Rattle.qbf.specs.Calls.{standing}
use Rattle.tables.specs.Views.{Table, row, rows_of}
use Rattle.state.specs.Reading.{record_at, records_of}

-- rows within their table, and room for the records behind the sizes
pub record Room (w : ℕ) (cells : List ℤ) (sizes : List ℕ) : Type 0 where
  pub table : Table w paper.constraints cells sizes
  pub behind : suc paper.constraints + paper.constraints ≤ length sizes

-- row i may stand behind those that are kept: it is not before them, and no longer than w
pub record Movable (w : ℕ) (cells : List ℤ) (sizes : List ℕ) (i : ℕ) : Type 0 where
  pub wide : w ≤ highest.numbers
  pub room : Room w cells sizes
  pub few : get_or sizes 0 0 ≤ i
  pub low : i < paper.constraints
  pub short : get_or sizes (suc i) 0 ≤ w

-- what row j reads is as it was
pub record Same (w j : ℕ) (cells : List ℤ) (sizes : List ℕ) (cells' : List ℤ) (sizes' : List ℕ) : Type 0 where
  pub size : get_or sizes' (suc j) 0 ≡ get_or sizes (suc j) 0
  pub part : drop (j * w) cells' ≡ drop (j * w) cells
  pub record_kept : record_at sizes' j ≡ record_at sizes j

-- from row i on
abbrev pub SameFrom : ℕ → ℕ → List ℤ → List ℕ → List ℤ → List ℕ → Type 0
SameFrom w i cells sizes cells' sizes' = (j : ℕ) → i ≤ j → j < paper.constraints → Same w j cells sizes cells' sizes'

-- one more, with its record
pub record Grown (w : ℕ) (cells : List ℤ) (sizes : List ℕ) (row : List ℤ) (k : ℕ) (cells' : List ℤ) (sizes' : List ℕ) : Type 0 where
  pub room : Room w cells' sizes'
  pub kept : length sizes' ≡ length sizes
  pub rows : rows_of w cells' sizes' ≡ rows_of w cells sizes ++ (row ∷ [])
  pub records : records_of sizes' ≡ records_of sizes ++ (k ∷ [])

-- row i is one more; those behind it are as they were
pub record Moved (w i : ℕ) (cells : List ℤ) (sizes : List ℕ) (cells' : List ℤ) (sizes' : List ℕ) : Type 0 where
  pub grown : Grown w cells sizes (row w cells sizes i) (record_at sizes i) cells' sizes'
  pub later : SameFrom w (suc i) cells sizes cells' sizes'

-- the same where its record is at most n
pub record KeptRow (w i n : ℕ) (cells : List ℤ) (sizes : List ℕ) (cells' : List ℤ) (sizes' : List ℕ) : Type 0 where
  pub room : Room w cells' sizes'
  pub kept : length sizes' ≡ length sizes
  pub rows : rows_of w cells' sizes' ≡ rows_of w cells sizes ++ standing n (record_at sizes i ∷ []) (row w cells sizes i ∷ [])
  pub records : records_of sizes' ≡ records_of sizes ++ standing n (record_at sizes i ∷ []) (record_at sizes i ∷ [])
  pub later : SameFrom w (suc i) cells sizes cells' sizes'

-- of the learned clauses those whose record is at most n, with their records
pub record Kept (w : ℕ) (cells : List ℤ) (sizes : List ℕ) (n : ℕ) (cells' : List ℤ) (sizes' : List ℕ) : Type 0 where
  pub room : Room w cells' sizes'
  pub kept : length sizes' ≡ length sizes
  pub rows : rows_of w cells' sizes' ≡ standing n (records_of sizes) (rows_of w cells sizes)
  pub records : records_of sizes' ≡ standing n (records_of sizes) (records_of sizes)
