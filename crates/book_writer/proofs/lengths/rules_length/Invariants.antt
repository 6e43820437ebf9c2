-- `rules_length` meets its contract: the rules passed are counted.
use Prim.Native.Nat.{◌*◌}
use lib.ListN.{drop}
use Rattle.booktext.specs.Books.{rules_text}
use Rattle.book_writer.specs.Tables.{most_rule}
use Rattle.book_writer.proofs.Parts.{Counting}
use Rattle.book_writer.proofs.Rows.{all_rules}
use Rattle.book_writer.proofs.lengths.rules_length.Given as goal

abbrev pub invariant-loop-k : goal.invariant-loop-k
invariant-loop-k l = Counting (rules_text (all_rules l.clauses.cells.now l.clauses.sizes.now)) (rules_text (drop l.k (all_rules l.clauses.cells.now l.clauses.sizes.now))) (l.k * most_rule) l.bytes
