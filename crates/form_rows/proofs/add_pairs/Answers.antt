-- `form_rows::add_pairs` meets its contract: the pairs of each literal, from the left.
use borrow.Author.Rules.{rules, sfits_of}
use Prim.Native.Nat.{◌+◌}
use native.Mathlib.Omega.{arith}
use mathlib.Core.Path.{◌∙◌}
use lib.IntN.{pos}
use lib.ListN.{get_or}
use Rattle.literal.proofs.Signed.{back}
use Rattle.form_rows.proofs.Adding.{pairs_room, pairs_more, pairs_end, rest_taken, named_rest, added_with, with_most}
use Rattle.form_rows.proofs.add_pairs.Goals as goal

pub add_pairs_with-requires : goal.add_pairs_with-requires
add_pairs_with-requires c =
    rw (back {z = get_or c.args.lits.now c.loop-i.i (pos 0)} (sfits_of (search rules)), rest_taken c.args.lits.now c.loop-i.i)
    (omega (arith, pairs_room c.args.lits.now c.loop-i.i c.loop-i-test.true c.loop-i.invariant.4, c.loop-i.invariant.1), c.requires.1 c.loop-i.i c.loop-i-test.true, named_rest c.args.lits.now (c.loop-i.i + 1) c.requires.1)

pub loop-i-preserved : goal.loop-i-preserved
loop-i-preserved c = (
  omega (arith, c.loop-i-test.true),
  c.add_pairs_with.ensures.same_most ∙ c.loop-i.invariant.1,
  c.add_pairs_with.ensures.same_cells ∙ c.loop-i.invariant.2,
  c.add_pairs_with.ensures.same_sizes ∙ c.loop-i.invariant.3,
  pairs_more c.args.lits.now c.loop-i.i c.loop-i-test.true c.loop-i.invariant.4
      (added_with (back {z = get_or c.args.lits.now c.loop-i.i (pos 0)} (sfits_of (search rules))) (rest_taken c.args.lits.now c.loop-i.i) (with_most c.loop-i.invariant.1 c.add_pairs_with.ensures.added)),
)

pub returns : goal.returns
returns c = record { same_most = c.loop-i.invariant.1; same_cells = c.loop-i.invariant.2; same_sizes = c.loop-i.invariant.3; added = pairs_end c.args.lits.now c.loop-i.i c.loop-i-test.false c.loop-i.invariant.4 }
