-- Every word is 0.
use Rattle.std.proofs.Common.{rules}
use Rattle.bitset.proofs.Members.{cleared}
use Rattle.bitset.proofs.rows.clear.Goals as goal

pub returns : goal.returns
returns c = cleared c.args.row.now c.fill.new.self (c.fill.ensures.after (λ y e. search rules))
