-- `literals_length` meets its contract: the literals passed are counted.
use Prim.Native.Nat.{◌*◌}
use lib.ListN.{drop}
use Rattle.layout.specs.Output.{items_text}
use Rattle.book_writer.specs.Tables.{most_literal}
use Rattle.book_writer.proofs.Parts.{Counting}
use Rattle.book_writer.proofs.lengths.literals_length.Given as goal

abbrev pub invariant-loop-lit : goal.invariant-loop-lit
invariant-loop-lit l = Counting (items_text l.lits) (items_text (drop l.lit-index l.lits)) (l.lit-index * most_literal) l.bytes
