-- The formula that a state's tables hold, and what is counted of its text.
use Rattle.std.specs.Prelude.{ℕ, ◌+◌, ◌*◌, ◌≤◌, ◌<◌, ◌≡◌, cond, List, [], length, get_or, ℤ}
use Rattle.qbf.specs.Formula.{paper, Quantifier, same_quantifier, Formula}
use Rattle.tables.specs.Views.{rows_of}
use Rattle.state.specs.Reading.{entry_at, prefix_of}
use Rattle.layout.specs.Words.{Bytes}
use Rattle.booktext.specs.Books.{heading_text}

abbrev pub formula_of : List ℕ → List ℕ → List ℕ → List ℤ → List ℕ → Formula
formula_of ns ls ks cells sizes = record { limits = paper; prefix = prefix_of ns ls ks; clauses = rows_of paper.literals cells sizes }

-- the end of a line of variables and the word of the next one, where that one's kind is another
abbrev pub head_text : Quantifier → Quantifier → Bytes
head_text κ μ = cond (same_quantifier κ μ) [] (heading_text μ)

-- the rows that stand lie within their table; how many rows it has room for does not matter
pub record Standing (cells : List ℤ) (sizes : List ℕ) : Type 0 where
  pub room : get_or sizes 0 0 * paper.literals ≤ length cells
  pub short : (k : ℕ) → k < get_or sizes 0 0 → entry_at sizes k ≤ paper.literals

-- r bytes, and no more than so many
pub record Counted (t : Bytes) (most r : ℕ) : Type 0 where
  pub is : r ≡ length t
  pub few : r ≤ most

-- ---- the most bytes of each part, so that no sum is too large: numbers and counts have 16 bits
abbrev pub most_count : ℕ
most_count = 65535

abbrev pub most_digits : ℕ
most_digits = 5

-- the end of a line, and a word of six letters
abbrev pub most_heading : ℕ
most_heading = 9

abbrev pub most_variable : ℕ
most_variable = most_heading + (1 + most_digits)

-- ` (no 12345)`
abbrev pub most_literal : ℕ
most_literal = 6 + most_digits

abbrev pub most_literals : ℕ
most_literals = paper.literals * most_literal

abbrev pub most_rule : ℕ
most_rule = 7 + most_literals
