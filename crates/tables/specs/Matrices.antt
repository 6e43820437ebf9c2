-- The clauses inside a search: of each the codes that universal reduction leaves, in a row with their number first, and the sets of clauses by code
-- (Sets). Clauses are numbered from 0 in the order of adding. Cells of rows that are no clause's are free.
use Rattle.std.specs.Prelude.{ℕ, zero, suc, ◌*◌, ◌/◌, ◌≤◌, ◌<◌, ◌≡◌, false, List, [], ◌∷◌, ◌++◌, length, get_or, take, drop}
use Rattle.bitset.specs.Rows.{width}
use Rattle.qbf.specs.Formula.{paper, highest, Prefix, Clause}
use Rattle.qbf.specs.Learning.{reduce}
use Rattle.tables.specs.Codes.{codes}
use Rattle.tables.specs.Sets.{ClauseSets}

-- what f gives for the first n numbers
unfoldable pub listed : {A : Type 0} → (ℕ → A) → ℕ → List A
listed f zero = []
listed f (suc n) = listed f n ++ (f n ∷ [])

-- ---- the cells
-- what a clause takes: how many codes are left, then the codes
abbrev pub clause_row : ℕ
clause_row = suc paper.literals

abbrev pub left_at : List ℕ → ℕ → ℕ
left_at cells k = get_or cells (k * clause_row) 0

-- the codes of clause k that universal reduction leaves
abbrev pub dying_at : List ℕ → ℕ → List ℕ
dying_at cells k = take (left_at cells k) (drop (suc (k * clause_row)) cells)

-- ---- the sets
-- the words of a row are a multiple of these
abbrev pub block : ℕ
block = 4

-- The words of a row of n clauses, a multiple of a block with room for one number more, and of the longest row.
abbrev pub words_of : ℕ → ℕ
words_of n = suc (n / (width * block)) * block

abbrev pub row_words : ℕ
row_words = words_of highest.clauses

-- how long a row of words may be
pub record RowLength (wc : ℕ) : Type 0 where
  pub few : wc ≤ row_words

-- both show the clauses R
pub record MatrixShown (D : Prefix) (R : List Clause) (wc : ℕ) (cells sets : List ℕ) : Type 0 where
  pub few : length R ≤ highest.clauses
  pub short : (k : ℕ) → k < length R → left_at cells k ≤ paper.literals
  pub dying : (k : ℕ) → k < length R → dying_at cells k ≡ codes D (reduce D false (get_or R k []))
  pub by_code : ClauseSets D R wc sets
