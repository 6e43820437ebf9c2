use Rattle.state.proofs.Steps.{stepping_none, LevelRead, level_high, StepTested, step_bad, step_more}
use mathlib.Core.Bool.{not}
use mathlib.Core.Path.{ap}
use Rattle.state.proofs.levels.levels_ok.Goals as goal

pub loop-i-init : goal.loop-i-init
loop-i-init c = stepping_none c.args.limit c.args.variables.numbers.now c.args.variables.levels.now c.args.variables.kinds.now c.count-count.ensures c.if-count-limit.false

pub returns-then-next-limit : goal.returns-then-next-limit
returns-then-next-limit c = let level_read : LevelRead c.args.limit c.args.variables.numbers.now c.args.variables.levels.now c.args.variables.kinds.now c.count-count.result c.loop-i.level c.loop-i.beside c.loop-i.i c.cell_after-next.result = record { stepping = c.loop-i.invariant; more = c.loop-i-test.true; is = c.cell_after-next.ensures } in
    level_high (level_read) c.if-next-limit.true

pub returns-then-not-step_ok : goal.returns-then-not-step_ok
returns-then-not-step_ok c = let tested : StepTested c.args.limit c.args.variables.numbers.now c.args.variables.levels.now c.args.variables.kinds.now c.count-count.result c.loop-i.level c.loop-i.beside c.loop-i.i c.cell_after-next.result c.cell_at-kind.result c.step_ok.result = let level_read : LevelRead c.args.limit c.args.variables.numbers.now c.args.variables.levels.now c.args.variables.kinds.now c.count-count.result c.loop-i.level c.loop-i.beside c.loop-i.i c.cell_after-next.result = record { stepping = c.loop-i.invariant; more = c.loop-i-test.true; is = c.cell_after-next.ensures } in
    record { level_read = level_read; small = c.if-next-limit.false; is = c.cell_at-kind.ensures; said = c.step_ok.ensures } in
    step_bad (tested) (ap not c.if-not-step_ok.true)

pub loop-i-preserved : goal.loop-i-preserved
loop-i-preserved c = let tested : StepTested c.args.limit c.args.variables.numbers.now c.args.variables.levels.now c.args.variables.kinds.now c.count-count.result c.loop-i.level c.loop-i.beside c.loop-i.i c.cell_after-next.result c.cell_at-kind.result c.step_ok.result = let level_read : LevelRead c.args.limit c.args.variables.numbers.now c.args.variables.levels.now c.args.variables.kinds.now c.count-count.result c.loop-i.level c.loop-i.beside c.loop-i.i c.cell_after-next.result = record { stepping = c.loop-i.invariant; more = c.loop-i-test.true; is = c.cell_after-next.ensures } in
    record { level_read = level_read; small = c.if-next-limit.false; is = c.cell_at-kind.ensures; said = c.step_ok.ensures } in
    step_more (tested) (ap not c.if-not-step_ok.false)
