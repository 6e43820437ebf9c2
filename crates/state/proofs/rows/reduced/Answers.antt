use borrow.Author.Rules.{rules}
use mathlib.Core.Path.{ap, ◌∙◌}
use borrow.Author.Rules.{rules, sfits_of}
use Prim.Native.Nat.{◌-◌}
use lib.ListN.{length, get_or}
use lib.IntN.{ℤ, pos}
use Rattle.qbf.specs.Formula.{number_of}
use Rattle.literal.proofs.Signed.{back}
use Rattle.state.proofs.Order.{reduced_last}
use Rattle.state.proofs.rows.reduced.Goals as goal

pub returns : goal.returns
returns c = λ D shown. reduced_last D c.args.kinds.now shown c.args.cube c.args.lits.now c.if-n-eq0.false (c.literal_kind-kind.ensures ∙ ap (λ (z : ℤ). get_or c.args.kinds.now (number_of z) 0) (back {z = get_or c.args.lits.now (length c.args.lits.now - 1) (pos 0)} (sfits_of (search rules)))) c.drops.ensures
