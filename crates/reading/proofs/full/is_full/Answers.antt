-- `reading::full::is_full` meets its contract: one of the first places' variables is open, or none.
use Rattle.std.proofs.Common.{rules, arith, ◌≡◌, ◌-◌, refl, true, false, ℕ}
use Rattle.std.proofs.lemmas.Iterator.{cases_from_all, YieldsList-from_range}
use borrow.Author.Tests.{tests}
use Rattle.reading.specs.Marking.{open_after}
use Rattle.reading.proofs.Marking.{filled}
use Rattle.reading.proofs.full.is_full.Goals as goal

pub returns : goal.returns
returns c =
    let free : ℕ = c.args.flags.free in
    let whole : free - 0 ≡ free = omega arith in
    filled c.args.values.now c.args.flags.numbers.now free c.all.result
    (cases_from_all _ _ _ (λ i. open_after c.args.values.now c.args.flags.numbers.now i ≡ false) (λ i. open_after c.args.values.now c.args.flags.numbers.now i ≡ true) c.all.ensures.ran (YieldsList-from_range 0 free free refl whole) (λ x q e. search (rules, tests)) (λ x q e. search (rules, tests)))
