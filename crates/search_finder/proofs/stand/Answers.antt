-- `search_finder::stand` meets its contract: each row ends within the table.
use Rattle.std.proofs.Common.{rules, arith, ap, ◌≡◌, ◌∙◌, ◌+◌, ◌-◌, get_or, length, take, drop, ◌≤◌, ◌<◌, ℕ}
use Rattle.std.proofs.lemmas.Iterator.{cases_from_all, YieldsList-from_slice}
use Rattle.std.proofs.lemmas.Iterator.Consumers.{YieldsList-from_enumerate}
use borrow.Author.Tests.{tests}
use Rattle.search_finder.proofs.Ends.{end, lengths, tells}
use Rattle.search_finder.proofs.stand.Goals as goal

pub returns : goal.returns
returns c =
    let few : get_or c.args.sizes.now 0 0 < length c.args.sizes.now = omega (arith, c.cell_at-count.ensures, c.if-sizes-count.false) in
    let n : c.cell_at-count.result + 1 - 1 ≡ get_or c.args.sizes.now 0 0 = omega (arith, c.cell_at-count.ensures) in
    let rows = lengths c.args.cells.now c.args.sizes.now few in
    tells c.args.cells.now c.args.sizes.now few c.all.result
    (cases_from_all _ _ _ (λ p. end c.args.cells.now c.args.sizes.now few p ≤ length c.args.cells.now) (λ p. length c.args.cells.now < end c.args.cells.now c.args.sizes.now few p)
    c.all.ensures.ran (YieldsList-from_enumerate (YieldsList-from_slice rows (ap (λ s. s.rest.now) c.enumerate.ensures.source ∙ c.iter.ensures.rest ∙ ap (λ (n : ℕ). take n (drop 1 c.args.sizes.now)) n)) (cc)) (λ x q e. search (rules, tests)) (λ x q e. search (rules, tests)))
