-- `coding::list::first_with` meets its contract.
use Rattle.std.proofs.Common.{rules, ◌≡◌, get_or, eqb, false}
use Rattle.std.proofs.lemmas.Iterator.{first_from_find, YieldsList-from_slice}
use Rattle.std.proofs.lemmas.Iterator.Consumers.{YieldsList-from_copied}
use borrow.Author.Tests.{tests}
use Rattle.coding.proofs.Coded.{first_found}
use Rattle.coding.proofs.list.first_with.Goals as goal

pub returns : goal.returns
returns c =
    first_found c.args.statuses.now c.args.want c.args.cells.now c.find.result
    (first_from_find _ _ _ (λ x. get_or c.args.statuses.now x 0 ≡ c.args.want) (λ x. eqb (get_or c.args.statuses.now x 0) c.args.want ≡ false) c.find.ensures.ran
    (YieldsList-from_copied (YieldsList-from_slice c.args.cells.now cc)) (λ x q e. search (rules, tests)) (λ x q e. search (rules, tests)))
