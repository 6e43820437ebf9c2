-- `constraint::reduction::reduced_len` meets its contract.
use Rattle.std.proofs.Common.{rules, pos}
use borrow.Author.Tests.{tests}
use Rattle.literal.proofs.Reducing.{reduced}
use Rattle.constraint.proofs.reduction.reduced_len.Goals as goal

pub returns : goal.returns
returns c = (
  c.kept_len.ensures.within,
  λ D s.
      reduced D c.args.cube c.args.lits.now c.kept_len.result (pos 0) c.kept_len.ensures.within
      (λ i q h. let z = c.kept_len.ensures.dropped i (pos 0) q h in search (rules, tests))
      (λ h. let z = c.kept_len.ensures.kept (pos 0) h in search (rules, tests)),
)
