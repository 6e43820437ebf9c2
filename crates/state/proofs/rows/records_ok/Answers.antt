-- `state::rows::records_ok` meets its contract: each record that stands is at most the count.
use Rattle.std.proofs.Common.{rules, arith, ◌≡◌, ◌∙◌, ◌-◌, refl, ap, true, false, Bool, ℕ}
use Rattle.std.proofs.lemmas.Iterator.{cases_from_all, YieldsList-from_range}
use Rattle.std.specs.List.{range_with_len}
use borrow.Author.Tests.{tests}
use lib.Dec.{leb}
use Rattle.literal.proofs.Chains.{all_is}
use Rattle.state.specs.Reading.{at_most, listing, record_at}
use Rattle.state.proofs.Recording.{records_most}
use Rattle.state.proofs.rows.records_ok.Goals as goal

pub returns : goal.returns
returns c =
    let count : ℕ = c.count-count.result in
    let test : ℕ → Bool = λ k. leb (record_at c.args.sizes.now k) c.args.clauses in
    let whole : count - 0 ≡ count = omega arith in
    all_is test 0 (range_with_len 0 count) c.all.result
    (cases_from_all _ _ _ (λ k. test k ≡ true) (λ k. test k ≡ false) c.all.ensures.ran (YieldsList-from_range 0 count count refl whole) (λ x q e. search (rules, tests)) (λ x q e. search (rules, tests)))
    ∙ records_most c.args.clauses c.args.sizes.now count
    ∙ ap (λ k. at_most c.args.clauses (listing (record_at c.args.sizes.now) 0 k)) c.count-count.ensures
