-- `cover::write_line` meets its contract. The bytes passed are those of their places, and the others are as they were.
use Prim.Native.Nat.{◌+◌, ◌*◌}
use mathlib.Core.Path.{◌≡◌, refl, ap}
use mathlib.Core.Bool.{true}
use mathlib.Core.List.{◌++◌}
use native.Mathlib.Omega.{arith}
use borrow.Author.Rules.{rules}
use lib.ListN.{get_or, length, take, drop}
use lib.Seq.{length-take-le}
use Rattle.tables.specs.Codes.{code_at}
use Rattle.cover.proofs.Rows.{values_none, values_more, values_whole, values_last}
use Rattle.cover.proofs.write_line.Goals as goal

pub loop-i-init : goal.loop-i-init
loop-i-init c = (refl, values_none c.args.statuses.now (take c.args.k c.args.row.now))

pub loop-i-preserved : goal.loop-i-preserved
loop-i-preserved c = let z : c.loop-i.i * 2 + 3 ≡ code_at (c.loop-i.i + 1) true = omega arith in
    (search rules, values_more c.args.statuses.now (take c.args.k c.args.row.now) _ c.loop-i.i _ (omega arith) (ap (λ k. get_or c.args.statuses.now k 0) z) c.loop-i.invariant.1)

pub returns : goal.returns
returns c =
    let k = c.args.k in
    let row = c.args.row.now in
    let long : length (take k row) ≡ k = length-take-le k row (omega arith) in
    let end : c.loop-i.i ≡ k = omega (arith, long) in
    values_last c.args.statuses.now row (c.loop-i.byte-items ++ drop k row) k k c.args.value refl (omega arith)
    (values_whole c.args.statuses.now row c.loop-i.byte-items c.loop-i.i k end (omega arith) c.loop-i.invariant.1)
