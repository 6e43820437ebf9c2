-- `form_rows::add_pairs_with` meets its contract: the pairs of one literal, from the left.
use borrow.Author.Rules.{rules, sfits_of}
use native.Mathlib.Omega.{arith}
use mathlib.Core.Path.{sym, ap, subst, ◌∙◌}
use mir.Syntax.{w16}
use mir.Val.{to_z, of_z}
use lib.IntN.{ℤ, pos}
use lib.ListN.{get_or}
use Rattle.qbf.specs.One.{both_negated, pairs_with}
use Rattle.rule_rows.specs.Accepted.{Added}
use Rattle.literal.proofs.Signed.{back}
use Rattle.form_rows.proofs.Negated.{pair_is}
use Rattle.form_rows.proofs.Adding.{pairs_with_more, pairs_with_end, with_most}
use Rattle.form_rows.proofs.add_pairs_with.Goals as goal

pub loop-other-preserved : goal.loop-other-preserved
loop-other-preserved c =
    let m = get_or c.args.rest.now c.loop-other.other-index (pos 0) in (
      omega (arith, c.loop-other-test.true),
      c.add.ensures.same_most ∙ c.loop-other.invariant.1,
      c.add.ensures.same_cells ∙ c.loop-other.invariant.2,
      c.add.ensures.same_sizes ∙ c.loop-other.invariant.3,
      pairs_with_more (to_z w16 (of_z w16 c.args.lit)) c.args.rest.now c.loop-other.other-index c.loop-other-test.true c.loop-other.invariant.4
          (pair_is {l = c.args.lit} {m = m} c.ranges.lit (sfits_of (search rules)) c.negation-first.ensures c.negation.ensures c.requires.1 (c.requires.2 c.loop-other.other-index c.loop-other-test.true)
          ∙ ap (λ (z : ℤ). both_negated z m) (sym (back c.ranges.lit)))
          (with_most c.loop-other.invariant.1 c.add.ensures.added),
    )

pub returns : goal.returns
returns c = record {
  same_most = c.loop-other.invariant.1;
  same_cells = c.loop-other.invariant.2;
  same_sizes = c.loop-other.invariant.3;
  added =
      subst (λ (z : ℤ). Added c.args.rows.now.most c.args.rows.now.cells.now c.args.rows.now.sizes.now (pairs_with z c.args.rest.now) c.args.places.now c.loop-other.rows.cells.now c.loop-other.rows.sizes.now) (back c.ranges.lit)
      (pairs_with_end (to_z w16 (of_z w16 c.args.lit)) c.args.rest.now c.loop-other.other-index c.loop-other-test.false c.loop-other.invariant.4);
}
