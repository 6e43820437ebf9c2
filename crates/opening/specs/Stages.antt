-- The rank of each form, by which they stand in order.
use Rattle.std.specs.Prelude.{ℕ, Bool, true, false, Result, Ok, Err}
use Rattle.refusal.specs.declared.Refusal.{Refusal}
use Rattle.refusal.specs.declared.Refusal.TheVariants.{NotInLayout}
use Rattle.opening.specs.declared.stage.Stage.{Stage}
use Rattle.opening.specs.declared.stage.Stage.TheVariants as stage

abbrev pub rank_of : Stage → ℕ
rank_of stage.Book = 0
rank_of stage.Flags = 1
rank_of stage.Block = 2
rank_of stage.Rule = 3
rank_of stage.End = 4

-- whether a form may stand
abbrev pub placed : Bool → Result (Unit {0}) Refusal
placed true = Ok tt
placed false = Err NotInLayout
