-- A state in two lent tables, part behind part: its own limits, the cells of the prefix and the sizes in one, the literals of the clauses and of the
-- learned constraints in the other. What lies behind the last part is not read. Paper 02, wish 8: "A book is opened with its own limits for numbers and
-- rules, capped at these (a state with higher ones is 22)".
use Rattle.std.specs.Prelude.{ℕ, suc, ◌+◌, ◌*◌, ◌≤◌, ◌≡◌, Bool, true, cond, List, ℤ, length, get_or, take, drop}
use Rattle.std.proofs.Math.Option.{Option, none}
use Rattle.qbf.specs.Formula.{Limits}
use Rattle.qbf.specs.Calls.{State as Read}
use Rattle.tables.specs.Views.{Places, Kinds}
use Rattle.state.specs.State.{State}
use Rattle.state.specs.Reading.{own, state_of, prefix_in, roomy, read_under, well_formed_read}

abbrev pub part : {A : Type 0} → ℕ → ℕ → List A → List A
part from len t = take len (drop from t)

-- ---- the limits, in the first two cells: for numbers, and for clauses
abbrev pub limits_of : List ℕ → Limits
limits_of cells = own (get_or cells 0 0) (get_or cells 1 0)

-- ---- the cells: how many a part has, the sizes of the learned clauses with their records; where it begins
abbrev pub by_number : Limits → ℕ
by_number L = suc L.numbers

abbrev pub clause_count : Limits → ℕ
clause_count L = suc L.clauses

abbrev pub cube_sizes : Limits → ℕ
cube_sizes L = suc L.constraints

abbrev pub recorded : Limits → ℕ
recorded L = cube_sizes L + L.constraints

abbrev pub numbers_at : ℕ
numbers_at = 2

abbrev pub levels_at : Limits → ℕ
levels_at L = numbers_at + by_number L

abbrev pub kinds_at : Limits → ℕ
kinds_at L = levels_at L + by_number L

abbrev pub clause_sizes_at : Limits → ℕ
clause_sizes_at L = kinds_at L + by_number L

abbrev pub learned_clause_sizes_at : Limits → ℕ
learned_clause_sizes_at L = clause_sizes_at L + clause_count L

abbrev pub learned_cube_sizes_at : Limits → ℕ
learned_cube_sizes_at L = learned_clause_sizes_at L + recorded L

abbrev pub cell_count : Limits → ℕ
cell_count L = learned_cube_sizes_at L + cube_sizes L

-- ---- the literals: how many there may be in the clauses, and in the learned constraints of one polarity
abbrev pub clause_cells : Limits → ℕ
clause_cells L = L.clauses * L.literals

abbrev pub learned_cells : Limits → ℕ
learned_cells L = L.constraints * L.numbers

abbrev pub learned_cubes_at : Limits → ℕ
learned_cubes_at L = clause_cells L + learned_cells L

abbrev pub literal_count : Limits → ℕ
literal_count L = learned_cubes_at L + learned_cells L

-- ---- the state
-- the parts that limits give
abbrev pub parts_under : Limits → List ℕ → List ℤ → State
parts_under L cells literals =
    state_of
    (part numbers_at (by_number L) cells)
    (part (levels_at L) (by_number L) cells)
    (part (kinds_at L) (by_number L) cells)
    (part 0 (clause_cells L) literals)
    (part (clause_sizes_at L) (clause_count L) cells)
    (part (clause_cells L) (learned_cells L) literals)
    (part (learned_clause_sizes_at L) (recorded L) cells)
    (part (learned_cubes_at L) (learned_cells L) literals)
    (part (learned_cube_sizes_at L) (cube_sizes L) cells)

-- the state under its own limits
abbrev pub state_at : List ℕ → List ℤ → State
state_at cells literals = parts_under (limits_of cells) cells literals

-- as the definitions read it: none where a table is shorter than its limits ask
unfoldable pub read_at : List ℕ → List ℤ → Option Read
read_at cells literals = cond (roomy (limits_of cells) (state_at cells literals)) (read_under (limits_of cells) (state_at cells literals)) none

-- "22 the state is malformed": this is not so
unfoldable pub valid_at : List ℕ → List ℤ → Bool
valid_at cells literals = well_formed_read (read_at cells literals)

-- what the check says: whether the state is valid; and where it is, the tables by number that show its prefix stand in the first cells of those that
-- were lent
pub record CheckedAt (cells : List ℕ) (literals : List ℤ) (ok : Bool) (places kinds : List ℕ) : Type 0 where
  pub said : ok ≡ valid_at cells literals
  pub placed : ok ≡ true → Places (prefix_in (state_at cells literals)) (part 0 (by_number (limits_of cells)) places)
  pub kinded : ok ≡ true → Kinds (prefix_in (state_at cells literals)) (part 0 (by_number (limits_of cells)) kinds)

-- both tables hold every part
pub record Whole (L : Limits) (cells : List ℕ) (literals : List ℤ) : Type 0 where
  pub cells_room : cell_count L ≤ length cells
  pub literals_room : literal_count L ≤ length literals

-- each part has the length that the limits give
pub record Exact (L : Limits) (x : State) : Type 0 where
  pub numbers_room : length x.numbers ≡ by_number L
  pub levels_room : length x.levels ≡ by_number L
  pub kinds_room : length x.kinds ≡ by_number L
  pub clauses_room : length x.clauses ≡ clause_cells L
  pub clause_sizes_room : length x.clause_sizes ≡ clause_count L
  pub learned_clauses_room : length x.learned_clauses ≡ learned_cells L
  pub learned_clause_sizes_room : length x.learned_clause_sizes ≡ recorded L
  pub learned_cubes_room : length x.learned_cubes ≡ learned_cells L
  pub learned_cube_sizes_room : length x.learned_cube_sizes ≡ cube_sizes L
