-- `within`: the place of the first number that is above the count, or the length.
use Rattle.std.proofs.Common.{rules, ◌≡◌, ◌∙◌, sym, map, true, false, List}
use Rattle.std.proofs.lemmas.Iterator.{IsFirst-from_position, index_from_first, YieldsList-from_slice}
use borrow.Author.Tests.{tests}
use lib.IntN.{ℤ}
use Rattle.qbf.specs.Formula.{number_of}
use Rattle.qdimacs_opening.specs.Stands.{above, counted}
use Rattle.qdimacs_opening.proofs.Counting.{counted_none, counted_above, counted_within}
use Rattle.qdimacs_opening.proofs.problem.within.Goals as goal

pub returns : goal.returns
returns c =
    let m = c.args.most in
    let v = c.args.variables in
    let first = IsFirst-from_position _ _ _ (λ (x : ℤ). above m v (number_of x) ≡ true) (λ (x : ℤ). above m v (number_of x) ≡ false) c.position.ensures.ran (YieldsList-from_slice c.args.lits.now cc) (λ x q e. search (rules, tests)) (λ x q e. search (rules, tests)) in
    c.unwrap_or.ensures ∙ sym (index_from_first (λ (l : List ℤ). counted m v (map number_of l)) (λ (x : ℤ). above m v (number_of x) ≡ true) (λ (x : ℤ). above m v (number_of x) ≡ false) (counted_none m v) (counted_above m v) (counted_within m v) c.args.lits.now c.position.result first)
