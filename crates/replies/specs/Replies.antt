-- What the answer of a query or a card says, in the paper's numbers.
use Rattle.std.specs.Prelude.{ℕ, ◌+◌, Bool, cond, List, [], Result, Ok, Err}
use Rattle.std.proofs.Math.Option.{none, some}
use Rattle.refusal.specs.declared.Refusal.{Refusal}
use Rattle.refusal.specs.Refusal.{number_of}
use Rattle.serving.specs.Serves.{Said, said}
use Rattle.node.specs.declared.Verdict.{Verdict}
use Rattle.node.specs.declared.Verdict.TheVariants as verdict
use Rattle.node.specs.Node.{is_of}
use Rattle.replies.specs.declared.Ruling.{Ruling}
use Rattle.replies.specs.declared.Ruling.TheVariants as ruling

-- keep 1, swap 2, unsettled 3
abbrev pub ruling_number : Ruling → ℕ
ruling_number ruling.Keep = 1
ruling_number ruling.Swap = 2
ruling_number ruling.Unsettled = 3

abbrev pub ruling_said : Result Ruling Refusal → ℕ → Said
ruling_said (Ok r) k = said none (ruling_number r) 0 k []
ruling_said (Err r) k = said (some (number_of r)) 0 0 k []

abbrev pub card_said : Result ℕ Refusal → ℕ → List ℕ → Said
card_said (Ok n) k tb = said none 0 n k tb
card_said (Err r) k tb = said (some (number_of r)) 0 0 k tb

abbrev pub ruling_for : Verdict → Ruling
ruling_for verdict.Yes = ruling.Swap
ruling_for verdict.No = ruling.Keep
ruling_for verdict.Mixed = ruling.Unsettled

-- the lines of the verdict p below the empty node, and its own where it has that verdict
abbrev pub total : Bool → Verdict → ℕ → ℕ
total p v n = cond (is_of p v) (n + 1) n
