-- `fault_of`: the tests in their order.
use native.Mathlib.Omega.{arith}
use mathlib.Core.Path.{sym, ◌∙◌}
use Rattle.state.specs.Reading.{quantifier_of, prefix_of}
use Rattle.state.proofs.Valid.{prefix_numbers}
use Rattle.declaring.proofs.Faults.{fault_low, fault_high, fault_twice, fault_else}
use Rattle.declaring.proofs.fault.fault_of.Goals as goal

pub returns-then-n-lt1 : goal.returns-then-n-lt1
returns-then-n-lt1 c L e s = fault_low L (prefix_of c.args.variables.numbers.now c.args.variables.levels.now c.args.variables.kinds.now) (quantifier_of c.args.kind) c.args.number.0 c.if-n-lt1.true

pub returns-then-n-limit : goal.returns-then-n-limit
returns-then-n-limit c L e s = fault_high L (prefix_of c.args.variables.numbers.now c.args.variables.levels.now c.args.variables.kinds.now) (quantifier_of c.args.kind) c.args.number.0 (omega (arith, e, c.if-n-limit.true))

pub returns-then-is_declared : goal.returns-then-is_declared
returns-then-is_declared c L e s =
    let D = prefix_of c.args.variables.numbers.now c.args.variables.levels.now c.args.variables.kinds.now in
    fault_twice L D (quantifier_of c.args.kind) c.args.number.0 c.if-n-lt1.false (omega (arith, e, c.if-n-limit.false))
    (sym (c.is_declared.ensures L D (prefix_numbers c.args.variables.numbers.now c.args.variables.levels.now c.args.variables.kinds.now) s.numbers_ok) ∙ c.if-is_declared.true)

pub returns-then-is_crowded : goal.returns-then-is_crowded
returns-then-is_crowded c L e s =
    let D = prefix_of c.args.variables.numbers.now c.args.variables.levels.now c.args.variables.kinds.now in
    fault_else L D (quantifier_of c.args.kind) c.args.number.0 c.if-n-lt1.false (omega (arith, e, c.if-n-limit.false))
    (sym (c.is_declared.ensures L D (prefix_numbers c.args.variables.numbers.now c.args.variables.levels.now c.args.variables.kinds.now) s.numbers_ok) ∙ c.if-is_declared.false)
    (sym (c.is_crowded.ensures L s) ∙ c.if-is_crowded.true)

pub returns : goal.returns
returns c L e s =
    let D = prefix_of c.args.variables.numbers.now c.args.variables.levels.now c.args.variables.kinds.now in
    fault_else L D (quantifier_of c.args.kind) c.args.number.0 c.if-n-lt1.false (omega (arith, e, c.if-n-limit.false))
    (sym (c.is_declared.ensures L D (prefix_numbers c.args.variables.numbers.now c.args.variables.levels.now c.args.variables.kinds.now) s.numbers_ok) ∙ c.if-is_declared.false)
    (sym (c.is_crowded.ensures L s) ∙ c.if-is_crowded.false)
