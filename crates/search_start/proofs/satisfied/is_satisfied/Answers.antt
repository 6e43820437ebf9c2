-- `search_start::satisfied::is_satisfied` meets its contract: some literal's status is true.
use Rattle.std.proofs.Common.{rules, ◌≡◌, ◌∙◌, true, false, eqb, Bool, ℤ, pos}
use Rattle.std.proofs.lemmas.Iterator.{cases_from_any, YieldsList-from_slice}
use borrow.Author.Tests.{tests}
use Rattle.literal.proofs.Chains.{any_is, any_same}
use Rattle.qbf.specs.Formula.{has}
use Rattle.tables.specs.Views.{status}
use Rattle.tables.proofs.Laws.{status_true}
use Rattle.search_start.proofs.satisfied.is_satisfied.Goals as goal

pub returns : goal.returns
returns c =
    let test : ℤ → Bool = λ l. eqb (status c.args.values.now l) 2 in
    λ D s shown.
    any_is test (pos 0) c.args.lits.now c.any.result
    (cases_from_any _ _ _ (λ l. test l ≡ true) (λ l. test l ≡ false) c.any.ensures.ran (YieldsList-from_slice c.args.lits.now cc) (λ x q e. search (rules, tests)) (λ x q e. search (rules, tests)))
    ∙ any_same test (has D true s) (status_true D s c.args.values.now shown) c.args.lits.now
