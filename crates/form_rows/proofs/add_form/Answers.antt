-- `form_rows::add_form` meets its contract: the rule of all its literals, and the pairs.
use native.Mathlib.Omega.{arith}
use mathlib.Core.Path.{◌∙◌}
use Rattle.form_rows.proofs.Adding.{added_more, rest_room, with_most}
use Rattle.form_rows.proofs.add_form.Goals as goal

pub add_pairs-requires : goal.add_pairs-requires
add_pairs-requires c = (omega (arith, rest_room c.args.rule.lits.now c.args.rows.now.sizes.now c.requires.0 c.add.ensures.added, c.add.ensures.same_most), c.requires.1)

pub returns : goal.returns
returns c = record {
  same_most = c.add_pairs.ensures.same_most ∙ c.add.ensures.same_most;
  same_cells = c.add_pairs.ensures.same_cells ∙ c.add.ensures.same_cells;
  same_sizes = c.add_pairs.ensures.same_sizes ∙ c.add.ensures.same_sizes;
  added = added_more c.add.ensures.added (with_most c.add.ensures.same_most c.add_pairs.ensures.added);
}
