-- `search_start::matches::any_match` meets its contract: a row matches, or each was tried.
use Rattle.std.proofs.Common.{rules, ◌≡◌, true, false, [], Bool, List, ℤ}
use Rattle.std.proofs.lemmas.Iterator.{cases_from_any}
use Rattle.std.proofs.lemmas.Iterator.Consumers.{YieldsList-from_first}
use borrow.Author.Tests.{tests}
use Rattle.literal.proofs.Chains.{any_is}
use Rattle.tables.specs.Views.{rows_of}
use Rattle.search_start.specs.Match.{matching}
use Rattle.lent_rows.specs.Left.{left}
use Rattle.search_start.proofs.matches.any_match.Goals as goal

pub returns : goal.returns
returns c = λ D s p v h.
    let test : List ℤ → Bool = matching D c.args.cube s in
    let rows = rows_of c.args.learned.width c.args.learned.cells.now c.args.learned.sizes.now in
    any_is test [] rows c.any.result
    (cases_from_any c.any.new.self _ _ (λ l. test l ≡ true) (λ l. test l ≡ false) c.any.ensures.ran (YieldsList-from_first (λ x. x.now) left rows c.rows.ensures) (λ x q e. search (rules, tests)) (λ x q e. search (rules, tests)))
