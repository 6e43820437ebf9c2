-- The parts of a place line, as the code reads them.
use Rattle.std.specs.Prelude.{ℕ, List, [], ◌∷◌}
use Rattle.std.proofs.Math.Option.{Option, none, some}
use Rattle.qbf.specs.Formula as formula
use Rattle.layout.specs.Words.{Bytes, number}
use Rattle.layout.specs.Forms.{then}
use Rattle.day_text.specs.Lines.{Place, placed}
use Rattle.state.specs.declared.parts.Limits.{Limits}

-- the words behind the place: none, or the limits for numbers and rules
abbrev pub limit_items : List Bytes → Option formula.Limits
limit_items [] = some formula.paper
limit_items (n ∷ []) = none
limit_items (n ∷ m ∷ []) = then (number n) (λ a. then (number m) (λ b. some (formula.capped a b)))
limit_items (n ∷ m ∷ w ∷ ws) = none

abbrev pub placed_in : ℕ → Limits → Option Place
placed_in k l = placed (formula.capped l.numbers l.clauses) k
