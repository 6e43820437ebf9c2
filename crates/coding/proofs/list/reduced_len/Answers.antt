-- `coding::list::reduced_len` meets its contract.
use Rattle.std.proofs.Common.{rules}
use borrow.Author.Tests.{tests}
use Rattle.coding.proofs.Dropping.{codes_reduced}
use Rattle.coding.proofs.list.reduced_len.Goals as goal

pub returns : goal.returns
returns c = (
  c.kept_len.ensures.within,
  λ D e s h.
      codes_reduced D c.args.cube e c.args.quantifiers.now c.args.cells.now s h c.kept_len.result c.kept_len.ensures.within
      (λ i q l κ k. let z = c.kept_len.ensures.dropped i 0 q l in search (rules, tests))
      (λ l κ k. let z = c.kept_len.ensures.kept 0 l in search (rules, tests)),
)
