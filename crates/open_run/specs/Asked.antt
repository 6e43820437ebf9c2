-- What is asked and found of the tables of a formula and a reading that travel together.
use Rattle.std.specs.Prelude.{ℕ}
use Rattle.open_search.specs.declared.verdicts.Finding.{Finding}
use Rattle.open_run.specs.declared.asked.Asked.{Asked}
use Rattle.open_run.specs.OpenRun.{Searched, Walked}

abbrev pub searched_as : Asked → ℕ → Finding → Type 0
searched_as a budget r = Searched a.numbers.now a.clauses.now a.clause_sizes.now a.places.now a.kinds.now a.values.now a.free budget r

abbrev pub walked_as : Asked → ℕ → Finding → Type 0
walked_as a budget r = Walked a.numbers.now a.clauses.now a.clause_sizes.now a.places.now a.kinds.now a.values.now a.free budget r
