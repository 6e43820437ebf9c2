-- `search_start::satisfied::all_satisfied` meets its contract: a row is not satisfied, or each was tried.
use Rattle.std.proofs.Common.{rules, ◌≡◌, true, false, [], Bool, List, ℤ}
use Rattle.std.proofs.lemmas.Iterator.{cases_from_all}
use Rattle.std.proofs.lemmas.Iterator.Consumers.{YieldsList-from_first}
use borrow.Author.Tests.{tests}
use Rattle.qbf.specs.Formula.{satisfied}
use Rattle.literal.proofs.Chains.{all_is}
use Rattle.tables.specs.Views.{rows_of}
use Rattle.lent_rows.specs.Left.{left}
use Rattle.search_start.proofs.satisfied.all_satisfied.Goals as goal

pub returns : goal.returns
returns c = λ D s v.
    let test : List ℤ → Bool = satisfied D s in
    let rows = rows_of c.args.clauses.width c.args.clauses.cells.now c.args.clauses.sizes.now in
    all_is test [] rows c.all.result
    (cases_from_all c.all.new.self _ _ (λ l. test l ≡ true) (λ l. test l ≡ false) c.all.ensures.ran (YieldsList-from_first (λ x. x.now) left rows c.rows.ensures) (λ x q e. search (rules, tests)) (λ x q e. search (rules, tests)))
