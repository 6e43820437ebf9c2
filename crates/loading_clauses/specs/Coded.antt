-- The clauses of a formula as the rows and the sets of a search.
use Rattle.std.specs.Prelude.{ℕ, suc, ◌*◌, ◌≤◌, ◌<◌, ◌≡◌, Bool, false, not, ◌&&◌, ◌||◌, List, eqb, ℤ, length, get_or, take, drop}
use Rattle.bitset.specs.Rows.{width, member}
use Rattle.qbf.specs.Formula.{highest, Prefix, any}
use Rattle.qbf.specs.Learning.{reduce}
use Rattle.tables.specs.Views.{Places}
use Rattle.tables.specs.Codes.{code_at, codes, Quantified}
use Rattle.tables.specs.Sets.{satisfying_row, dying_row}
use Rattle.tables.specs.Shelves.{code_count, ends_in}
use Rattle.tables.specs.Matrices.{clause_row, dying_at}

-- each is a code
abbrev pub Low : List ℕ → Type 0
Low row = (i : ℕ) → i < length row → get_or row i 0 < code_count

-- a clause's row begins at a cell: how many codes universal reduction leaves, and all its codes
pub record Coded (lits : List ℤ) (places quantifiers : List ℕ) (at : ℕ) (cells : List ℕ) : Type 0 where
  pub less : get_or cells at 0 ≤ length lits
  pub low : Low (take (length lits) (drop (suc at) cells))
  pub whole : (D : Prefix) → Places D places → length D ≤ highest.numbers → take (length lits) (drop (suc at) cells) ≡ codes D lits
  pub reduced : (D : Prefix) → Places D places → Quantified D quantifiers → length D ≤ highest.numbers
      → take (get_or cells at 0) (drop (suc at) cells) ≡ codes D (reduce D false lits)

-- d is the code of the opposite literal
pub record Opposite (c d : ℕ) : Type 0 where
  pub low : d < code_count
  pub is : (p : ℕ) (b : Bool) → eqb (code_at p b) d ≡ eqb c (code_at p (not b))

-- room for the two rows of every code, and for clause k in each
pub record SetsFor (wc k : ℕ) (sets : List ℕ) : Type 0 where
  pub room : code_count * 2 * wc ≤ length sets
  pub number : k < wc * width

-- clause k is put into the rows of the codes that satisfy it
pub record Satisfying (wc : ℕ) (row : List ℕ) (k : ℕ) (t t' : List ℕ) : Type 0 where
  pub long : length t' ≡ length t
  pub members : (c i : ℕ) → i < wc * width
      → member t' (satisfying_row wc c) i ≡ (member t (satisfying_row wc c) i || (eqb i k && any (λ d. eqb d c) row))
  pub others : (c i : ℕ) → i < wc * width → member t' (dying_row wc c) i ≡ member t (dying_row wc c) i

-- .. and into that of the code by which the last of those that are left is false
pub record Added (wc : ℕ) (row left : List ℕ) (k : ℕ) (t t' : List ℕ) : Type 0 where
  pub long : length t' ≡ length t
  pub satisfying : (c i : ℕ) → i < wc * width
      → member t' (satisfying_row wc c) i ≡ (member t (satisfying_row wc c) i || (eqb i k && any (λ d. eqb d c) row))
  pub dying : (p : ℕ) (b : Bool) (i : ℕ) → i < wc * width
      → member t' (dying_row wc (code_at p b)) i ≡ (member t (dying_row wc (code_at p b)) i || (eqb i k && ends_in (code_at p (not b)) left))

-- clause k is in its row, before which the cells stay, and in the sets
pub record Filled (lits : List ℤ) (places quantifiers : List ℕ) (wc k : ℕ) (cells sets cells' sets' : List ℕ) : Type 0 where
  pub room : length cells' ≡ length cells
  pub kept : take (k * clause_row) cells' ≡ take (k * clause_row) cells
  pub coded : Coded lits places quantifiers (k * clause_row) cells'
  pub added : Added wc (take (length lits) (drop (suc (k * clause_row)) cells')) (dying_at cells' k) k sets sets'
