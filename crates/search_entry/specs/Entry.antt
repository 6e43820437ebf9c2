-- The constraint that a visit hands up, by its bounds in the lent tables.
use Rattle.std.specs.Prelude.{ℕ, List, take, drop}
use Rattle.search_entry.specs.declared.Source.{Source}
use Rattle.search_entry.specs.declared.Source.TheVariants.{Clauses, Learned, Area}
use Rattle.search_entry.specs.declared.bounds.Bounds.{Bounds}

-- "a part of one of two lent literal tables, rules or store", or of the area
abbrev pub table_of : Source → List ℕ → List ℕ → List ℕ → List ℕ
table_of Clauses clauses learned area = clauses
table_of Learned clauses learned area = learned
table_of Area clauses learned area = area

abbrev pub entry_at : Bounds → List ℕ → List ℕ → List ℕ → List ℕ
entry_at b clauses learned area = take b.len (drop b.start (table_of b.source clauses learned area))
