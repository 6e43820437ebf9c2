-- `coding::list::last_code` meets its contract. The last code is the one before the end.
use Rattle.std.proofs.Common.{arith}
use Rattle.coding.proofs.Coded.{last_whole}
use Rattle.coding.proofs.list.last_code.Goals as goal

pub returns-in-Some : goal.returns-in-Some
returns-in-Some c =
    let last = c.in-Some.ensures.item in
    last_whole c.args.cells.now (λ e. omega (arith, e, last.3.0)) (last.3.1 0)
