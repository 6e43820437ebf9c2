-- `write_records` meets its contract: what is copied and filled in is the record of each row.
use Prim.Native.Nat.{ℕ, min}
use mathlib.Core.Path.{ap, ◌∙◌}
use Rattle.unloading.proofs.Recording.{records_written}
use Rattle.unloading.proofs.write_records.Goals as goal

pub returns : goal.returns
returns c =
    records_written c.args.sizes.now c.copy_within.new.self c.fill.new.self c.args.newest c.args.before c.args.clauses c.standing-count.result c.min-displaced.result c.min-own.result c.standing-count.ensures.0
    (c.min-displaced.ensures ∙ ap (λ (b : ℕ). min b c.args.before) c.base_of.ensures) c.min-own.ensures c.requires.0 c.requires.1 c.copy_within.ensures.len c.copy_within.ensures.by_index.0 (c.fill.ensures.after (λ y e. e))
