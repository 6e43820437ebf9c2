-- The finder of step 1 at nodes that searches do not reach, by computation: there it differs from the first dead clause.
use mathlib.Core.Path.{◌≡◌, refl}
use mathlib.Core.Bool.{true, false}
use mathlib.Core.List.{List, [], ◌∷◌, ◌++◌, map}
use mathlib.Core.Option.{Option, none, some}
use Rattle.qbf.specs.Formula.{exists, forall, free, Clause, Node, Prefix, place_of}
use Rattle.qbf.specs.Learning.{first_dead, lowest_dead}
use Rattle.qbf.proofs.Rows.{y, n, dec}

-- a node and clauses under a prefix, the lowest dead clause, and the first
pub record Search : Type 0 where
  pub prefix : Prefix
  pub node : Node
  pub clauses : List Clause
  pub lowest : Option Clause
  pub first : Option Clause

unfoldable at : Prefix → Node → List Clause → Option Clause → Option Clause → Search
at D s R l f = record { prefix = D; node = s; clauses = R; lowest = l; first = f }

unfoldable found : Search → Search
found r = at r.prefix r.node r.clauses (lowest_dead r.prefix r.node r.clauses) (first_dead r.prefix r.node r.clauses)

table : List Search
table =
    -- a later clause that ends further back is taken
    at (dec free (1 ∷ 2 ∷ [])) (false ∷ false ∷ []) ((y 2 ∷ []) ∷ (y 1 ∷ []) ∷ []) (some (y 1 ∷ [])) (some (y 2 ∷ []))
    -- the earliest among equals
    ∷ at (dec free (1 ∷ 2 ∷ [])) (false ∷ false ∷ []) ((y 1 ∷ y 2 ∷ []) ∷ (y 2 ∷ []) ∷ []) (some (y 1 ∷ y 2 ∷ [])) (some (y 1 ∷ y 2 ∷ []))
    -- the reduced forms are compared, not the clauses as they stand
    ∷ at (dec free (1 ∷ 2 ∷ []) ++ dec forall (3 ∷ [])) (false ∷ true ∷ []) ((n 2 ∷ []) ∷ (y 1 ∷ y 3 ∷ []) ∷ []) (some (y 1 ∷ y 3 ∷ [])) (some (n 2 ∷ []))
    -- places, not numbers, say what is further back
    ∷ at (dec free (2 ∷ 1 ∷ [])) (false ∷ false ∷ []) ((y 1 ∷ []) ∷ (y 2 ∷ []) ∷ []) (some (y 2 ∷ [])) (some (y 1 ∷ []))
    -- of three the middle one
    ∷ at (dec exists (1 ∷ 2 ∷ 3 ∷ [])) (false ∷ false ∷ false ∷ []) ((y 3 ∷ []) ∷ (y 1 ∷ []) ∷ (y 2 ∷ []) ∷ []) (some (y 1 ∷ [])) (some (y 3 ∷ []))
    -- what reduces to nothing ends at place 0
    ∷ at (dec free (1 ∷ []) ++ dec forall (2 ∷ [])) (false ∷ []) ((y 1 ∷ []) ∷ (y 2 ∷ []) ∷ []) (some (y 2 ∷ [])) (some (y 1 ∷ []))
    -- only dead clauses count
    ∷ at (dec exists (1 ∷ 2 ∷ [])) (true ∷ false ∷ []) ((y 1 ∷ []) ∷ (y 2 ∷ []) ∷ []) (some (y 2 ∷ [])) (some (y 2 ∷ []))
    ∷ at (dec exists (1 ∷ [])) [] ((y 1 ∷ []) ∷ []) none none
    ∷ []

finder_cases : map found table ≡ table
unfolding place_of found at table dec y n
finder_cases = refl
