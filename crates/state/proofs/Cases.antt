-- Malformed states by computation: one cell of a valid state is changed. Paper 01, refusal 22.
use Prim.Native.Nat.{ℕ}
use mathlib.Core.Path.{◌≡◌, refl}
use mathlib.Core.Bool.{true, not, ◌&&◌}
use mathlib.Core.List.{List, [], ◌∷◌, ◌++◌}
use lib.ListN.{replicate}
use lib.IntN.{ℤ, pos, negsuc}
use Rattle.qbf.specs.Formula.{paper, all, levels, place_of}
use Rattle.tables.specs.Views.{rows}
use Rattle.state.specs.State.{State}
use Rattle.state.specs.Reading.{read_under, valid_under}

-- the free variable 5, then exists 2, forall 7 and forall 4
prefixed : List ℕ → List ℕ → List ℕ → State
prefixed ns ls ks =
    record {
      numbers = ns;
      levels = ls;
      kinds = ks;
      clauses = [];
      clause_sizes = [];
      learned_clauses = [];
      learned_clause_sizes = [];
      learned_cubes = [];
      learned_cube_sizes = [];
    }

abbrev numbers_4 : List ℕ
numbers_4 = 4 ∷ 5 ∷ 2 ∷ 7 ∷ 4 ∷ []

abbrev levels_4 : List ℕ
levels_4 = 0 ∷ 0 ∷ 1 ∷ 2 ∷ 2 ∷ []

abbrev kinds_4 : List ℕ
kinds_4 = 0 ∷ 1 ∷ 2 ∷ []

holding : List ℤ → List ℕ → List ℤ → List ℕ → List ℤ → List ℕ → State
holding cs css ls lss ps pss =
    record {
      numbers = numbers_4;
      levels = levels_4;
      kinds = kinds_4;
      clauses = cs;
      clause_sizes = css;
      learned_clauses = ls;
      learned_clause_sizes = lss;
      learned_cubes = ps;
      learned_cube_sizes = pss;
    }

clause : List ℤ → List ℕ → State
clause ls size = holding ls size [] [] [] []

learned_clause : List ℤ → List ℕ → State
learned_clause ls size = holding [] [] ls size [] []

learned_cube : List ℤ → List ℕ → State
learned_cube ls size = holding [] [] [] [] ls size

-- a clause stands, and the empty learned clause with that record
recorded : ℕ → State
recorded k = holding (pos 5 ∷ []) (1 ∷ 1 ∷ []) [] ((1 ∷ 0 ∷ replicate 63 0) ++ (k ∷ [])) [] []

-- the literals off of 5, 2, 7 and 4
abbrev -5 : ℤ
-5 = negsuc 4

abbrev -2 : ℤ
-2 = negsuc 1

abbrev -7 : ℤ
-7 = negsuc 6

abbrev -4 : ℤ
-4 = negsuc 3

pub accepted : List State
accepted =
    prefixed numbers_4 levels_4 kinds_4
    -- cells past the counts
    ∷ prefixed (4 ∷ 5 ∷ 2 ∷ 7 ∷ 4 ∷ 5 ∷ 99 ∷ []) (9 ∷ 0 ∷ 1 ∷ 2 ∷ 2 ∷ 7 ∷ []) (0 ∷ 1 ∷ 2 ∷ 9 ∷ [])
    ∷ clause (pos 5 ∷ -2 ∷ pos 4 ∷ pos 4 ∷ []) (1 ∷ 3 ∷ 99 ∷ [])
    -- the number 40
    ∷ prefixed (1 ∷ 40 ∷ []) (0 ∷ 1 ∷ []) (0 ∷ 2 ∷ [])
    -- reduced, and the empty constraint
    ∷ learned_clause (pos 5 ∷ -2 ∷ []) (1 ∷ 2 ∷ [])
    ∷ learned_clause [] (1 ∷ 0 ∷ [])
    ∷ learned_cube (-2 ∷ pos 7 ∷ []) (1 ∷ 2 ∷ [])
    ∷ learned_cube (-5 ∷ []) (1 ∷ 1 ∷ [])
    -- as many clauses as stood
    ∷ recorded 0
    ∷ recorded 1
    ∷ []

pub refused : List State
refused =
    -- a number that is none, or twice
    prefixed (4 ∷ 5 ∷ 2 ∷ 7 ∷ 41 ∷ []) levels_4 kinds_4
    ∷ prefixed (4 ∷ 0 ∷ 2 ∷ 7 ∷ 4 ∷ []) levels_4 kinds_4
    ∷ prefixed (4 ∷ 5 ∷ 2 ∷ 7 ∷ 5 ∷ []) levels_4 kinds_4
    ∷ prefixed (41 ∷ 5 ∷ 2 ∷ 7 ∷ 4 ∷ []) levels_4 kinds_4
    -- a level that its quantifier does not give, or past the table
    ∷ prefixed numbers_4 (0 ∷ 0 ∷ 1 ∷ 2 ∷ 3 ∷ []) (0 ∷ 1 ∷ 2 ∷ 2 ∷ [])
    ∷ prefixed numbers_4 (0 ∷ 0 ∷ 2 ∷ 3 ∷ 3 ∷ []) (0 ∷ 1 ∷ 1 ∷ 2 ∷ [])
    ∷ prefixed numbers_4 (0 ∷ 1 ∷ 2 ∷ 3 ∷ 3 ∷ []) (0 ∷ 0 ∷ 1 ∷ 2 ∷ [])
    ∷ prefixed numbers_4 (0 ∷ 41 ∷ 1 ∷ 2 ∷ 2 ∷ []) kinds_4
    -- a code that is none
    ∷ prefixed numbers_4 levels_4 (0 ∷ 1 ∷ 3 ∷ [])
    -- a free variable after the others
    ∷ prefixed numbers_4 (0 ∷ 1 ∷ 2 ∷ 2 ∷ 0 ∷ []) (0 ∷ 1 ∷ 2 ∷ [])
    -- counts
    ∷ clause (pos 5 ∷ []) (256 ∷ 1 ∷ [])
    ∷ clause (pos 5 ∷ -2 ∷ []) (1 ∷ 17 ∷ [])
    ∷ clause (pos 5 ∷ []) (1 ∷ 0 ∷ [])
    ∷ learned_clause (pos 5 ∷ []) (65 ∷ 1 ∷ [])
    ∷ learned_cube (pos 5 ∷ []) (1 ∷ 41 ∷ [])
    -- place order, a variable twice, and one that is not declared
    ∷ clause (-2 ∷ pos 5 ∷ []) (1 ∷ 2 ∷ [])
    ∷ clause (pos 5 ∷ -5 ∷ []) (1 ∷ 2 ∷ [])
    ∷ clause (pos 5 ∷ pos 9 ∷ []) (1 ∷ 2 ∷ [])
    ∷ learned_clause (pos 5 ∷ pos 5 ∷ []) (1 ∷ 2 ∷ [])
    ∷ learned_cube (pos 7 ∷ -2 ∷ pos 4 ∷ []) (1 ∷ 3 ∷ [])
    -- unreduced
    ∷ learned_clause (pos 5 ∷ -7 ∷ []) (1 ∷ 2 ∷ [])
    ∷ learned_cube (pos 5 ∷ -2 ∷ []) (1 ∷ 2 ∷ [])
    -- a record above the clauses that stand
    ∷ recorded 2
    ∷ []

pub cases : (all (valid_under paper) accepted && all (λ x. not (valid_under paper x)) refused) ≡ true
unfolding valid_under read_under rows levels place_of prefixed holding clause learned_clause learned_cube recorded accepted refused
cases = refl
