-- `closest::set_flags` meets its contract. The flags before the first that is open are the line.
use Rattle.std.proofs.Common.{rules, ◌≡◌, ◌∙◌, arith, sym, length, List, ℕ}
use Rattle.std.proofs.lemmas.Iterator.{IsFirst-from_position, index_from_first, YieldsList-from_slice}
use borrow.Author.Tests.{tests}
use Rattle.closest.specs.Table.{line_in}
use Rattle.closest.proofs.Bytes.{none_set, one_open, one_set, line_within}
use Rattle.closest.proofs.set_flags.Goals as goal

pub returns : goal.returns
returns c =
    let first = IsFirst-from_position _ _ _ (λ b. b ≡ 0) (λ b. b ≡ 0 → ⊥) c.position.ensures.ran (YieldsList-from_slice c.args.row.now cc) (λ x q e. search (rules, tests)) (λ x q e. search (rules, tests)) in
    let is = index_from_first (λ (l : List ℕ). length (line_in l)) (λ b. b ≡ 0) (λ b. b ≡ 0 → ⊥) none_set one_open one_set c.args.row.now c.position.result first in
    let e : c.unwrap_or.result ≡ length (line_in c.args.row.now) = c.unwrap_or.ensures ∙ sym is in
    (e, omega (arith, e, line_within c.args.row.now))
