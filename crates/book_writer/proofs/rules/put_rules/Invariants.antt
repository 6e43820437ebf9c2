-- `put_rules` writes one rule after the other.
use lib.ListN.{drop}
use Rattle.booktext.specs.Books.{rules_text}
use Rattle.writer.proofs.Appending.{Left}
use Rattle.book_writer.proofs.Rows.{all_rules}
use Rattle.book_writer.proofs.rules.put_rules.Given as goal

abbrev pub invariant-loop-k : goal.invariant-loop-k
invariant-loop-k l = Left l.initial.out (rules_text (all_rules l.clauses.cells.now l.clauses.sizes.now)) (rules_text (drop l.k (all_rules l.clauses.cells.now l.clauses.sizes.now))) l.out
