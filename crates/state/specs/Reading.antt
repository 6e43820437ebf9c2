-- A state, as anyone may hand it in, read as the definitions' state; and when it is valid. Paper 01, refusal 22.
-- Cells past the counts are not read.
use Rattle.std.specs.Prelude.{ℕ, zero, suc, ◌+◌, ◌*◌, Bool, true, false, cond, ◌&&◌, List, [], ◌∷◌, length, get_or, ℤ, leb, eqb}
use Rattle.std.proofs.Math.Option.{Option, none, some}
use Rattle.qbf.specs.Formula.{Limits, paper, Quantifier, free, exists, forall, Variable, Prefix, Formula, levels, all}
use Rattle.qbf.specs.Learning.{Store}
use Rattle.qbf.specs.Calls.{State as Read, well_formed}
use Rattle.tables.specs.Views.{quantifier_code, rows_of}
use Rattle.state.specs.State.{State}

-- f i, f (i + 1), ..: k elements
abbrev pub listing : {A : Type 0} → (ℕ → A) → ℕ → ℕ → List A
listing f i zero = []
listing f i (suc k) = f i ∷ listing f (suc i) k

abbrev pub at_most : ℕ → List ℕ → Bool
at_most n ms = all (λ m. leb m n) ms

abbrev pub same : List ℕ → List ℕ → Bool
same [] [] = true
same [] (n ∷ ns) = false
same (m ∷ ms) [] = false
same (m ∷ ms) (n ∷ ns) = eqb m n && same ms ns

-- ---- the prefix: the number and the level of each place, and the quantifier of each level
abbrev pub quantifier_of : ℕ → Quantifier
quantifier_of zero = free
quantifier_of (suc zero) = exists
quantifier_of (suc (suc n)) = forall

-- what stands in a table at the place that follows i others
abbrev pub entry_at : List ℕ → ℕ → ℕ
entry_at t i = get_or t (suc i) 0

-- a table's first cell is the count of its entries
abbrev pub entries : List ℕ → List ℕ
entries t = listing (entry_at t) 0 (get_or t 0 0)

-- the quantifier's code is found through the place's level
abbrev pub code_at : List ℕ → List ℕ → ℕ → ℕ
code_at ls ks i = get_or ks (entry_at ls i) 0

abbrev pub variable_at : List ℕ → List ℕ → List ℕ → ℕ → Variable
variable_at ns ls ks i = record { number = entry_at ns i; quantifier = quantifier_of (code_at ls ks i) }

abbrev pub prefix_of : List ℕ → List ℕ → List ℕ → Prefix
prefix_of ns ls ks = listing (variable_at ns ls ks) 0 (get_or ns 0 0)

-- Levels and codes are within their tables, and the levels are those that the quantifiers give.
abbrev pub levels_fit : Limits → List ℕ → List ℕ → List ℕ → Bool
levels_fit L ns ls ks =
    at_most L.numbers (listing (entry_at ls) 0 (get_or ns 0 0))
    && at_most (quantifier_code forall) (listing (code_at ls ks) 0 (get_or ns 0 0))
    && same (levels (prefix_of ns ls ks)) (listing (entry_at ls) 0 (get_or ns 0 0))

abbrev pub prefix_fits : Limits → List ℕ → List ℕ → List ℕ → Bool
prefix_fits L ns ls ks = leb (get_or ns 0 0) L.numbers && levels_fit L ns ls ks

-- ---- a flat table: no more rows, and none longer, than it has room for
abbrev pub rows_fit : ℕ → ℕ → List ℕ → Bool
rows_fit stride capacity sizes = leb (get_or sizes 0 0) capacity && at_most stride (entries sizes)

-- ---- the state
-- the state that has these tables
abbrev pub state_of : List ℕ → List ℕ → List ℕ → List ℤ → List ℕ → List ℤ → List ℕ → List ℤ → List ℕ → State
state_of ns ls ks cs css lcs lcss lqs lqss =
    record {
      numbers = ns;
      levels = ls;
      kinds = ks;
      clauses = cs;
      clause_sizes = css;
      learned_clauses = lcs;
      learned_clause_sizes = lcss;
      learned_cubes = lqs;
      learned_cube_sizes = lqss;
    }

-- The limits of a state with its own for numbers and clauses; those for literals and learned constraints are one for all.
abbrev pub own : ℕ → ℕ → Limits
own n m = record { numbers = n; clauses = m; literals = paper.literals; constraints = paper.constraints }

abbrev pub fits_under : Limits → State → Bool
fits_under L x =
    prefix_fits L x.numbers x.levels x.kinds
    && rows_fit L.literals L.clauses x.clause_sizes
    && rows_fit L.numbers L.constraints x.learned_clause_sizes
    && rows_fit L.numbers L.constraints x.learned_cube_sizes

abbrev pub prefix_in : State → Prefix
prefix_in x = prefix_of x.numbers x.levels x.kinds

abbrev pub formula_under : Limits → State → Formula
formula_under L x = record { limits = L; prefix = prefix_in x; clauses = rows_of L.literals x.clauses x.clause_sizes }

-- the record of each learned clause stands behind their sizes, for which there is room for as many as may stand
abbrev pub record_at : List ℕ → ℕ → ℕ
record_at sizes i = get_or sizes (suc paper.constraints + i) 0

abbrev pub records_of : List ℕ → List ℕ
records_of sizes = listing (record_at sizes) 0 (get_or sizes 0 0)

-- from the tables of the learned clauses and of the cubes, in which a row has w cells: as many as there are numbers
abbrev pub store_from : ℕ → List ℤ → List ℕ → List ℤ → List ℕ → Store
store_from w cs css qs qss = record { clauses = rows_of w cs css; records = records_of css; cubes = rows_of w qs qss }

abbrev pub store_under : Limits → State → Store
store_under L x = store_from L.numbers x.learned_clauses x.learned_clause_sizes x.learned_cubes x.learned_cube_sizes

abbrev pub state_under : Limits → State → Read
state_under L x = record { formula = formula_under L x; store = store_under L x }

unfoldable pub read_under : Limits → State → Option Read
read_under L x = cond (fits_under L x) (some (state_under L x)) none

abbrev pub well_formed_read : Option Read → Bool
well_formed_read none = false
well_formed_read (some y) = well_formed y

unfoldable pub valid_under : Limits → State → Bool
valid_under L x = well_formed_read (read_under L x)

-- ---- lent tables, which may have any length: each has room for what the limits allow
abbrev pub prefix_roomy : ℕ → List ℕ → List ℕ → List ℕ → Bool
prefix_roomy n ns ls ks = leb (suc n) (length ns) && leb (suc n) (length ls) && leb (suc n) (length ks)

abbrev pub rows_roomy : ℕ → ℕ → List ℤ → List ℕ → Bool
rows_roomy stride capacity flat sizes = leb (capacity * stride) (length flat) && leb (suc capacity) (length sizes)

abbrev pub roomy : Limits → State → Bool
roomy L x =
    prefix_roomy L.numbers x.numbers x.levels x.kinds
    && rows_roomy L.literals L.clauses x.clauses x.clause_sizes
    && rows_roomy L.numbers L.constraints x.learned_clauses x.learned_clause_sizes
    && rows_roomy L.numbers L.constraints x.learned_cubes x.learned_cube_sizes
    && leb (suc L.constraints + L.constraints) (length x.learned_clause_sizes)

-- "22 the state is malformed": a table is too short, or what stands in them is not well formed
abbrev pub accepted : Limits → State → Bool
accepted L x = roomy L x && valid_under L x
