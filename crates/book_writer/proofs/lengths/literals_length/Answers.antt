-- `literals_length` meets its contract: the literals passed are counted.
use native.Mathlib.Omega.{arith}
use borrow.Author.Rules.{rules, sfits_of}
use Rattle.book_writer.proofs.Parts.{counting_more, counting_end}
use Rattle.book_writer.proofs.Rows.{literals_next, literals_end}
use Rattle.book_writer.proofs.Digits.{counted_back}
use Rattle.book_writer.proofs.lengths.literals_length.Goals as goal

pub loop-lit-preserved : goal.loop-lit-preserved
loop-lit-preserved c = counting_more c.loop-lit.invariant _ _ (literals_next c.args.lits.now {i = c.loop-lit.lit-index} (search rules)) (counted_back (sfits_of (search rules)) c.literal_length-bytes.ensures) (omega arith)

pub returns : goal.returns
returns c = counting_end c.loop-lit.invariant (literals_end c.args.lits.now {i = c.loop-lit.lit-index} (search rules)) (omega (arith, c.requires))
