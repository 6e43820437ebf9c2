-- A state in two lent tables as it was checked.
use Rattle.std.specs.Prelude.{ℕ, suc, ◌≡◌, true, List, ℤ, get_or}
use Rattle.state_parts.specs.declared.limits.Layout.{Layout}
use Rattle.state_parts.specs.Parts.{parts_under, CheckedAt}
use Rattle.state_parts.specs.Layout.{limits_in}
use Rattle.asking.specs.declared.checked.Checked.{Checked}
use Rattle.asking.specs.Answered.{limits_of, state_of}

-- what the check found
abbrev pub ShownAt : Layout → List ℕ → List ℤ → List ℕ → List ℕ → Type 0
ShownAt l cells literals places kinds = (l.numbers ≡ get_or cells 0 0) × (l.clauses ≡ get_or cells 1 0) × CheckedAt cells literals true places kinds

-- its parts under its own limits
pub record CheckedOf (l : Layout) (cells : List ℕ) (literals : List ℤ) (c : Checked) : Type 0 where
  pub numbers : c.numbers ≡ l.numbers
  pub clauses : c.clauses ≡ l.clauses
  pub state : state_of c ≡ parts_under (limits_in l) cells literals
