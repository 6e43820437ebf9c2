-- `is_crowded`: a flag, and as many as there may be.
use mathlib.Core.Path.{sym, ap, ◌∙◌}
use mathlib.Core.Bool.{Bool, ◌&&◌}
use lib.Dec.{leb}
use Prim.Native.Nat.{ℕ}
use Rattle.qbf.specs.Formula.{most_free}
use Rattle.qbf.specs.Truth.{free_variables}
use Rattle.state.specs.Reading.{prefix_of}
use Rattle.state.proofs.Valid.{prefix_numbers}
use Rattle.state.proofs.Steps.{not_free}
use Rattle.declaring.proofs.Faults.{free_code, quantified_by}
use Rattle.declaring.proofs.fault.is_crowded.Goals as goal

pub returns-then-kind-ne-FREE : goal.returns-then-kind-ne-FREE
returns-then-kind-ne-FREE c L s = sym (ap (λ (t : Bool). t && leb most_free (free_variables (prefix_of c.args.variables.numbers.now c.args.variables.levels.now c.args.variables.kinds.now))) (not_free c.args.kind c.if-kind-ne-FREE.true))

pub returns : goal.returns
returns c L s =
    ap (λ (k : ℕ). leb most_free k)
    (c.free_count.ensures (prefix_of c.args.variables.numbers.now c.args.variables.levels.now c.args.variables.kinds.now)
    (prefix_numbers c.args.variables.numbers.now c.args.variables.levels.now c.args.variables.kinds.now)
    (quantified_by L c.args.variables.numbers.now c.args.variables.levels.now c.args.variables.kinds.now s))
    ∙ sym (ap (λ (t : Bool). t && leb most_free (free_variables (prefix_of c.args.variables.numbers.now c.args.variables.levels.now c.args.variables.kinds.now))) (free_code c.args.kind c.if-kind-ne-FREE.false))
