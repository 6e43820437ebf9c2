-- The limits of a state as they were read, and what its check answers.
use Rattle.std.specs.Prelude.{ℕ, ◌≡◌, true, false, List, ℤ, get_or, Option, Some, None, Result, Ok, Err}
use Rattle.refusal.specs.declared.Refusal.{Refusal}
use Rattle.refusal.specs.declared.Refusal.TheVariants as refusal
use Rattle.qbf.specs.Formula.{Limits}
use Rattle.qbf.specs.Calls.{limits_are_ok}
use Rattle.state.specs.Reading.{own}
use Rattle.state_parts.specs.declared.limits.Layout.{Layout}
use Rattle.state_parts.specs.Parts.{limits_of, CheckedAt}

abbrev pub limits_in : Layout → Limits
limits_in l = own l.numbers l.clauses

-- the limits of a state's first two cells, or none where they are too high
abbrev pub LayoutRead : List ℕ → Option Layout → Type 0
LayoutRead cells None = limits_are_ok (limits_of cells) ≡ false
LayoutRead cells (Some l) = (l.numbers ≡ get_or cells 0 0) × (l.clauses ≡ get_or cells 1 0)

-- the limits of a valid state, or its refusal
abbrev pub CheckedIn : List ℕ → List ℤ → Result Layout Refusal → List ℕ → List ℕ → Type 0
CheckedIn cells literals (Ok l) places kinds = (l.numbers ≡ get_or cells 0 0) × (l.clauses ≡ get_or cells 1 0) × CheckedAt cells literals true places kinds
CheckedIn cells literals (Err r) places kinds = (r ≡ refusal.Malformed) × CheckedAt cells literals false places kinds
