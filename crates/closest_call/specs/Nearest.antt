-- What the answer of the call for the closest reading says, in the paper's numbers. Paper 02, wish 9.
use Rattle.std.specs.Prelude.{ℕ, ◌-◌, List, [], ◌++◌, map, length, Result, Ok, Err}
use Rattle.std.proofs.Math.Option.{Option, none, some}
use Rattle.qbf.specs.Formula.{most_free}
use Rattle.qbf.specs.Card.{byte_of, zero_table}
use Rattle.qbf.specs.Closest.{Found}
use Rattle.serving.specs.Serves.{Said, said, said_with}
use Rattle.refusal.specs.declared.Refusal.{Refusal}
use Rattle.refusal.specs.Refusal.{number_of}

-- with the count of the lines, the visits, the bytes of the table and those of the reading, which a refusal does not return
abbrev pub nearest_said : Result ℕ Refusal → ℕ → ℕ → List ℕ → List ℕ → Said
nearest_said (Ok d) n k tb bytes = said_with none 0 n k tb bytes d
nearest_said (Err m) n k tb bytes = said (some (number_of m)) 0 n k tb

-- the bytes of the reading that is returned
abbrev pub returned : Result ℕ Refusal → List ℕ → List ℕ
returned (Ok d) bytes = bytes
returned (Err m) bytes = []

-- what is said by the closest reading of the n lines in a table: "a card with no line gives 35"
abbrev pub found_said : Option Found → ℕ → ℕ → List ℕ → Said
found_said none n k tb = said (some 35) 0 0 k (zero_table (length tb))
found_said (some r) n k tb = said_with none 0 n k tb (map byte_of r.reading) r.number

-- the lent reading: its bytes, and zeros behind them
abbrev pub padded : List ℕ → List ℕ
padded bytes = bytes ++ zero_table (most_free - length bytes)
