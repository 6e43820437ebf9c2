-- What the tables of a state say of its prefix, and what is ensured of the tables that are derived from them.
use Rattle.std.specs.Prelude.{ℕ, zero, suc, ◌+◌, ◌*◌, ◌≤◌, ◌<◌, ◌≡◌, Bool, true, false, not, ◌&&◌, List, [], length, get_or, leb, eqb, ℤ}
use Rattle.qbf.specs.Formula.{Limits, paper, Quantifier, free, exists, forall, is_free, Prefix, quantifiers, quantifier_at, level_beside, all}
use Rattle.qbf.specs.Calls.{numbers_are_ok, free_first, clause_ok, constraint_ok}
use Rattle.tables.specs.Views.{quantifier_code, Numbers, Places, Kinds, rows_of}
use Rattle.state.specs.State.{State}
use Rattle.state.specs.Reading.{at_most, quantifier_of, code_at, prefix_of, prefix_fits, rows_fit, records_of, prefix_in, accepted}

-- a table of n cells, each of them 0
pub record Cleared (n : ℕ) (t : List ℕ) : Type 0 where
  pub room : length t ≡ n
  pub zero : (i : ℕ) → get_or t i 0 ≡ 0

-- no more variables than there are numbers, each of its own number
abbrev pub numbered : Limits → Prefix → Bool
numbered L D = leb (length D) L.numbers && numbers_are_ok L [] D

-- a number that may be declared under a limit, where a table has the places of those that are
abbrev pub is_fresh : ℕ → List ℕ → ℕ → Bool
is_fresh limit places n = leb 1 n && leb n limit && eqb (get_or places n 0) 0

pub record Placing (L : Limits) (ns : List ℕ) (ok : Bool) (places : List ℕ) : Type 0 where
  pub said : (D : Prefix) → Numbers D ns → ok ≡ numbered L D
  pub shown : ok ≡ true → (D : Prefix) → Numbers D ns → Places D places

-- the levels and the codes of the levels show each place's quantifier
pub record Quantified (D : Prefix) (ls ks : List ℕ) : Type 0 where
  pub at : (i : ℕ) → i < length D → code_at ls ks i ≡ quantifier_code (quantifier_at D (suc i))

-- a table as long as before has the quantifier of each number
pub record KindsFilled (ns ls ks old new : List ℕ) : Type 0 where
  pub room : length new ≡ length old
  pub shown : (L : Limits) (D : Prefix) (places : List ℕ) → Numbers D ns → numbers_are_ok L [] D ≡ true → Places D places → length places ≡ length old → Quantified D ls ks → Kinds D new

-- the quantifier's code at a place; where there is none it is free
abbrev pub code_for : List ℕ → List ℕ → ℕ → ℕ
code_for ls ks zero = 0
code_for ls ks (suc i) = code_at ls ks i

-- a free variable stands beside a free one only
abbrev pub ordered : Quantifier → Quantifier → Bool
ordered free κ = true
ordered exists κ = not (is_free κ)
ordered forall κ = not (is_free κ)

-- A place of level l and of code k, next to one of level m and of code c: the code is one, and so is the level that it gives.
abbrev pub step_is_ok : ℕ → ℕ → ℕ → ℕ → Bool
step_is_ok m c l k =
    leb k (quantifier_code forall) && (eqb (level_beside m (quantifier_of c) (quantifier_of k)) l && ordered (quantifier_of c) (quantifier_of k))

abbrev pub levels_are_ok : Limits → List ℕ → List ℕ → List ℕ → Bool
levels_are_ok L ns ls ks = prefix_fits L ns ls ks && free_first (quantifiers (prefix_of ns ls ks))

-- the tables by number that show the prefix, where it is well formed
pub record Shown (L : Limits) (ns ls ks : List ℕ) (ok : Bool) (places kinds : List ℕ) : Type 0 where
  pub said : ok ≡ (numbered L (prefix_of ns ls ks) && levels_are_ok L ns ls ks)
  pub places_shown : ok ≡ true → Places (prefix_of ns ls ks) places
  pub kinds_shown : ok ≡ true → Kinds (prefix_of ns ls ks) kinds

-- flat tables: rows within their room, each of them well formed; clauses of which there may be `most`, and learned constraints in rows of w cells
abbrev pub clauses_fine : ℕ → Prefix → List ℤ → List ℕ → Bool
clauses_fine most D flat sizes = rows_fit paper.literals most sizes && all (clause_ok paper D) (rows_of paper.literals flat sizes)

abbrev pub constraints_fine : ℕ → Prefix → Bool → List ℤ → List ℕ → Bool
constraints_fine w D cube flat sizes = rows_fit w paper.constraints sizes && all (constraint_ok D cube) (rows_of w flat sizes)

-- no record is above the count of clauses
abbrev pub records_fine : List ℕ → List ℕ → Bool
records_fine css sizes = at_most (get_or css 0 0) (records_of sizes)

-- lent tables that have room for what the limits allow
pub record Roomy (L : Limits) (x : State) : Type 0 where
  pub numbers_room : suc L.numbers ≤ length x.numbers
  pub levels_room : suc L.numbers ≤ length x.levels
  pub kinds_room : suc L.numbers ≤ length x.kinds
  pub clauses_room : L.clauses * L.literals ≤ length x.clauses
  pub clause_sizes_room : suc L.clauses ≤ length x.clause_sizes
  pub learned_clauses_room : L.constraints * L.numbers ≤ length x.learned_clauses
  pub learned_clause_sizes_room : suc L.constraints + L.constraints ≤ length x.learned_clause_sizes
  pub learned_cubes_room : L.constraints * L.numbers ≤ length x.learned_cubes
  pub learned_cube_sizes_room : suc L.constraints ≤ length x.learned_cube_sizes

-- the rows of a state with room for them: of clauses, of learned constraints, and the records
abbrev pub rows_fine : ℕ → ℕ → Prefix → State → Bool
rows_fine n m D x =
    clauses_fine m D x.clauses x.clause_sizes
    && constraints_fine n D false x.learned_clauses x.learned_clause_sizes
    && constraints_fine n D true x.learned_cubes x.learned_cube_sizes
    && records_fine x.clause_sizes x.learned_clause_sizes

-- what the check of lent tables says: whether they are accepted, and the tables by number that show their prefix where they are
pub record CheckedUnder (L : Limits) (x : State) (ok : Bool) (places kinds : List ℕ) : Type 0 where
  pub said : ok ≡ accepted L x
  pub placed : ok ≡ true → Places (prefix_in x) places
  pub kinded : ok ≡ true → Kinds (prefix_in x) kinds
