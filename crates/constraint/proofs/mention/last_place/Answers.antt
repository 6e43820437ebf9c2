-- `constraint::mention::last_place` meets its contract: the last literal's place.
use Rattle.std.proofs.Common.{◌≡◌, arith, pos}
use borrow.Author.Rules.{rules, sfits_of}
use Rattle.qbf.specs.Formula.{place}
use Rattle.literal.proofs.Signed.{back}
use Rattle.constraint.proofs.Mentioning.{last_place_some}
use Rattle.constraint.proofs.mention.last_place.Goals as goal

pub returns-in-Some : goal.returns-in-Some
returns-in-Some c = λ D shown.
    let last = c.in-Some.ensures.item in
    let found : c.literal_place.result ≡ place D c.in-Some.last.now = cc (back {z = c.in-Some.last.now} (sfits_of (search rules)), c.literal_place.ensures.1 D shown) in
    last_place_some D c.args.lits.now (pos 0) (λ e. omega (arith, e, last.3.0)) (last.3.1 (pos 0)) found
