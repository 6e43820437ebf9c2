-- `told_apart` meets its contract.
use borrow.Author.Rules.{rules}
use mathlib.Core.Bool.{true, false}
use Rattle.call_lines.proofs.Calls.{standing}
use Rattle.call_lines.proofs.call.told_apart.Goals as goal

pub returns : goal.returns
returns c = record {
  on = λ ls z. standing c.args.n c.args.spelled.lits.now c.args.spelled.wide ls z c.kept-k.result c.kept-k.ensures true c.named.result c.named.new.out (search rules) c.named.ensures c.kept-ons.result c.kept-ons.ensures;
  off = λ ls z. standing c.args.n c.args.spelled.lits.now c.args.spelled.wide ls z c.kept-k.result c.kept-k.ensures false c.named-2.result c.named-2.new.out (search rules) c.named-2.ensures c.kept-offs.result c.kept-offs.ensures;
}
