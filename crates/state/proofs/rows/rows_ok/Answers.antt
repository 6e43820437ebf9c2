use Rattle.state.specs.Rows.{row_is_ok}
use Rattle.tables.specs.Views.{Places, Kinds}
use Rattle.state.proofs.Scan.{scanning_none, SizeRead, row_long, RowTested, row_bad, row_more}
use mathlib.Core.Bool.{not}
use mathlib.Core.Path.{ap}
use Rattle.state.proofs.rows.rows_ok.Goals as goal

pub loop-k-init : goal.loop-k-init
loop-k-init c = scanning_none (λ D. Places D c.args.shown.places.now × Kinds D c.args.shown.kinds.now) (row_is_ok c.args.holding) c.args.width c.args.most c.args.rows.flat.now c.args.rows.sizes.now c.count-count.ensures c.if-count-most.false

pub returns-then-len-width : goal.returns-then-len-width
returns-then-len-width c = let size_read : SizeRead (λ D. Places D c.args.shown.places.now × Kinds D c.args.shown.kinds.now) (row_is_ok c.args.holding) c.args.width c.args.most c.args.rows.flat.now c.args.rows.sizes.now c.count-count.result c.loop-k.k c.entry-len.result = record { scanning = c.loop-k.invariant; more = c.loop-k-test.true; is = c.entry-len.ensures } in
    λ D p k. row_long (size_read) c.if-len-width.true D (p, k)

pub returns-then-not-row_ok : goal.returns-then-not-row_ok
returns-then-not-row_ok c = let tested : RowTested (λ D. Places D c.args.shown.places.now × Kinds D c.args.shown.kinds.now) (row_is_ok c.args.holding) c.args.width c.args.most c.args.rows.flat.now c.args.rows.sizes.now c.count-count.result c.loop-k.k c.entry-len.result c.row-lits.result.now c.row_ok.result = let size_read : SizeRead (λ D. Places D c.args.shown.places.now × Kinds D c.args.shown.kinds.now) (row_is_ok c.args.holding) c.args.width c.args.most c.args.rows.flat.now c.args.rows.sizes.now c.count-count.result c.loop-k.k c.entry-len.result = record { scanning = c.loop-k.invariant; more = c.loop-k-test.true; is = c.entry-len.ensures } in
    record { size_read = size_read; short = c.if-len-width.false; part = c.row-lits.ensures; said = λ D s. c.row_ok.ensures D s.0 s.1 } in
    λ D p k. row_bad (tested) (ap not c.if-not-row_ok.true) D (p, k)

pub loop-k-preserved : goal.loop-k-preserved
loop-k-preserved c = let tested : RowTested (λ D. Places D c.args.shown.places.now × Kinds D c.args.shown.kinds.now) (row_is_ok c.args.holding) c.args.width c.args.most c.args.rows.flat.now c.args.rows.sizes.now c.count-count.result c.loop-k.k c.entry-len.result c.row-lits.result.now c.row_ok.result = let size_read : SizeRead (λ D. Places D c.args.shown.places.now × Kinds D c.args.shown.kinds.now) (row_is_ok c.args.holding) c.args.width c.args.most c.args.rows.flat.now c.args.rows.sizes.now c.count-count.result c.loop-k.k c.entry-len.result = record { scanning = c.loop-k.invariant; more = c.loop-k-test.true; is = c.entry-len.ensures } in
    record { size_read = size_read; short = c.if-len-width.false; part = c.row-lits.ensures; said = λ D s. c.row_ok.ensures D s.0 s.1 } in
    row_more (tested) (ap not c.if-not-row_ok.false)
