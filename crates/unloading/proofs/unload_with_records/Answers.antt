-- `unload_with_records` meets its contract: first the records, then the rows, which leave them.
use Prim.Native.Nat.{ℕ}
use mathlib.Core.Path.{subst, ◌∙◌}
use lib.ListN.{get_or}
use Rattle.unloading.specs.Written.{RecordsFrom}
use Rattle.unloading.proofs.Recording.{recorded_rows}
use Rattle.unloading.proofs.unload_with_records.Goals as goal

pub returns-clause-unloaded : goal.returns-clause-unloaded
returns-clause-unloaded c =
    let u = c.unload_rows.ensures.unloaded in
    (u.0, u.1, recorded_rows _ _ _ _ _ u.2 u.3 (subst (λ (n : ℕ). RecordsFrom c.args.table.now.sizes.now n (get_or c.args.table.now.sizes.now 0 0) c.args.clauses c.write_records.new.sizes) c.newest.ensures c.write_records.ensures.1), u.4, u.5 ∙ c.write_records.ensures.0)
