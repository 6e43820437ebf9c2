use Rattle.tables.specs.Views.{Places, Kinds}
use Rattle.state.specs.Rows.{row_is_ok}
use Rattle.state.proofs.Scan.{Scanning}
use Rattle.state.proofs.rows.rows_ok.Given as goal

abbrev pub invariant-loop-k : goal.invariant-loop-k
invariant-loop-k l = Scanning (λ D. Places D l.shown.places.now × Kinds D l.shown.kinds.now) (row_is_ok l.holding) l.width l.most l.rows.flat.now l.rows.sizes.now l.count l.k
