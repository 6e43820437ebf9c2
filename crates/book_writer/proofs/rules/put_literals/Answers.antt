-- `put_literals` writes one literal after the other.
use Prim.Native.Nat.{◌+◌}
use mathlib.Core.List.{◌∷◌}
use native.Mathlib.Omega.{arith}
use borrow.Author.Rules.{rules, sfits_of}
use lib.IntN.{pos}
use lib.ListN.{get_or, drop}
use Rattle.layout.specs.Words.{space}
use Rattle.layout.specs.Output.{literal_text, items_text}
use Rattle.writer.proofs.Appending.{left_room, left_more, left_none, left_as}
use Rattle.book_writer.proofs.Rows.{literals_next, literals_end, length_back, wrote_back}
use Rattle.book_writer.proofs.rules.put_literals.Goals as goal

pub put_literal-requires : goal.put_literal-requires
put_literal-requires c = omega (arith, length_back {l = get_or c.args.lits.now c.loop-lit.lit-index (pos 0)} (sfits_of (search rules)), left_room (space ∷ literal_text (get_or c.args.lits.now c.loop-lit.lit-index (pos 0))) (items_text (drop (c.loop-lit.lit-index + 1) c.args.lits.now)) (left_as (literals_next c.args.lits.now {i = c.loop-lit.lit-index} (search rules)) c.loop-lit.invariant) c.requires)

pub loop-lit-preserved : goal.loop-lit-preserved
loop-lit-preserved c = left_more (left_as (literals_next c.args.lits.now {i = c.loop-lit.lit-index} (search rules)) c.loop-lit.invariant) (wrote_back (sfits_of (search rules)) c.put_literal.ensures)

pub returns : goal.returns
returns c = left_none (left_as (literals_end c.args.lits.now {i = c.loop-lit.lit-index} (search rules)) c.loop-lit.invariant)
