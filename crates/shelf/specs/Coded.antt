-- A row of literals' codes that is made where it goes.
use Rattle.std.specs.Prelude.{ℕ, suc, ◌≤◌, ◌<◌, ◌≡◌, List, ℤ, length, take, drop, set}
use Rattle.std.proofs.Math.Seq.{paste}
use Rattle.qbf.specs.Formula.{highest, Prefix}
use Rattle.tables.specs.Views.{Places}
use Rattle.tables.specs.Codes.{codes, last_code}
use Rattle.tables.specs.Shelves.{code_count}

-- the cells behind that of the row's length, as many as there are literals
abbrev pub row_behind : List ℤ → ℕ → List ℕ → List ℕ
row_behind lits at cells = take (length lits) (drop (suc at) cells)

-- the row's length, then its codes; all other cells stay
pub record RowCoded (lits : List ℤ) (places : List ℕ) (at : ℕ) (cells cells' : List ℕ) : Type 0 where
  pub long : length (row_behind lits at cells') ≡ length lits
  pub written : cells' ≡ paste (set cells at (length lits)) (suc at) (row_behind lits at cells') (length lits)
  pub low : last_code (row_behind lits at cells') < code_count
  pub coded : (D : Prefix) → Places D places → length D ≤ highest.numbers → row_behind lits at cells' ≡ codes D lits
