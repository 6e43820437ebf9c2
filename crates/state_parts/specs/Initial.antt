-- The state that opening starts from: no variable, no clause and an empty store, under limits of its own. Paper 02, wish 8: "A book is opened with its own
-- limits for numbers and rules, capped at these".
use Rattle.std.specs.Prelude.{ℕ, ◌≡◌, true, false, List, [], ℤ, set}
use Rattle.std.proofs.Math.Option.{some}
use Rattle.qbf.specs.Formula.{Limits}
use Rattle.qbf.specs.Learning.{empty_store}
use Rattle.qbf.specs.Calls.{State as Read}
use Rattle.state_parts.specs.Parts.{numbers_at, clause_sizes_at, learned_clause_sizes_at, learned_cube_sizes_at, read_at, valid_at, Whole}

abbrev pub empty_under : Limits → Read
empty_under L = record { formula = record { limits = L; prefix = []; clauses = [] }; store = empty_store }

-- the limits and the four counts; no other cell of an empty state is read
abbrev pub initial_cells : Limits → List ℕ → List ℕ
initial_cells L cells =
    set (set (set (set (set (set cells 0 L.numbers) 1 L.clauses) numbers_at 0) (clause_sizes_at L) 0) (learned_clause_sizes_at L) 0) (learned_cube_sizes_at L) 0

-- where the tables have room for the limits, whatever stands in that of the literals; and where they have not
pub record Initial (L : Limits) (cells cells' : List ℕ) : Type 0 where
  pub read : (literals : List ℤ) → Whole L cells literals → read_at cells' literals ≡ some (empty_under L)
  pub valid : (literals : List ℤ) → Whole L cells literals → valid_at cells' literals ≡ true
  pub short : (literals : List ℤ) → (Whole L cells literals → ⊥) → valid_at cells' literals ≡ false
