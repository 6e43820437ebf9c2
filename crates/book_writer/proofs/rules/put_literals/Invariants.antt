-- `put_literals` writes one literal after the other.
use lib.ListN.{drop}
use Rattle.layout.specs.Output.{items_text}
use Rattle.writer.proofs.Appending.{Left}
use Rattle.book_writer.proofs.rules.put_literals.Given as goal

abbrev pub invariant-loop-lit : goal.invariant-loop-lit
invariant-loop-lit l = Left l.initial.out (items_text l.lits) (items_text (drop l.lit-index l.lits)) l.out
