-- `search_start::matches::all_have` meets its contract: each literal's status is the wanted one.
use Rattle.std.proofs.Common.{rules, ◌≡◌, ◌∙◌, true, false, eqb, Bool, ℤ, pos}
use Rattle.std.proofs.lemmas.Iterator.{cases_from_all, YieldsList-from_slice}
use borrow.Author.Tests.{tests}
use Rattle.literal.proofs.Chains.{all_is}
use Rattle.qbf.specs.Formula.{has}
use Rattle.tables.specs.Codes.{wanted}
use Rattle.tables.specs.Views.{status}
use Rattle.tables.proofs.Lists.{all_same}
use Rattle.search_start.proofs.Matching.{has_status}
use Rattle.search_start.proofs.matches.all_have.Goals as goal

pub returns : goal.returns
returns c =
    let test : ℤ → Bool = λ l. eqb (status c.args.values.now l) (wanted c.args.cube) in
    λ D s shown.
    all_is test (pos 0) c.args.lits.now c.all.result
    (cases_from_all _ _ _ (λ l. test l ≡ true) (λ l. test l ≡ false) c.all.ensures.ran (YieldsList-from_slice c.args.lits.now cc) (λ x q e. search (rules, tests)) (λ x q e. search (rules, tests)))
    ∙ all_same test (has D c.args.cube s) (has_status D s c.args.values.now shown c.args.cube) c.args.lits.now
