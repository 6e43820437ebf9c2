-- What paper 01's bench table does not notice, by computation: each row goes wrong under the slip that its comment rules out.
use mathlib.Core.Path.{◌≡◌, refl}
use mathlib.Core.Bool.{true, false}
use mathlib.Core.List.{List, [], ◌∷◌, ◌++◌, map}
use lib.ListN.{length, replicate}
use Rattle.qbf.specs.Formula.{paper, exists, forall, free, Formula, place_of, levels}
use Rattle.qbf.specs.Learning.{Constraint, Store, constraints, learn}
use Rattle.qbf.specs.Calls.{card_refused, done, forget, keep, lines, refused, rule, swap}
use Rattle.qbf.proofs.Rows.{y, n, dec, under, held, opened, Row, row, ran, expected, Given, given, gave, wanted, card, query}

-- a learned clause for each list, stored when no rule stood, and a cube for each
store : List Constraint → List Constraint → Store
store cs qs = record { clauses = cs; records = replicate (length cs) 0; cubes = qs }

-- a state that is refused as malformed
broken : Formula → Store → Given
broken b st = given b st (forget ∷ card 2 ∷ rule [] ∷ query (y 0 ∷ []) [] ∷ []) (refused 22 ∷ card_refused 22 (0 ∷ 0 ∷ []) ∷ refused 22 ∷ refused 22 ∷ []) (0 ∷ 0 ∷ 0 ∷ 0 ∷ [])

table : List Row
table =
    -- bars remain after an accepted rule
    row (opened (dec free (1 ∷ [])) ((n 1 ∷ []) ∷ (y 1 ∷ []) ∷ []))
    (card 0 ∷ rule (y 1 ∷ []) ∷ card 0 ∷ [])
    (lines [] [] ∷ done ∷ lines [] [] ∷ [])
    (3 ∷ 0 ∷ 1 ∷ []) (3 ∷ 0 ∷ 3 ∷ [])
    -- passes go with an accepted rule
    ∷ row (opened (dec free (1 ∷ []) ++ dec exists (2 ∷ [])) ((n 1 ∷ y 2 ∷ []) ∷ (y 1 ∷ y 2 ∷ []) ∷ []))
    (card 1 ∷ rule (y 1 ∷ []) ∷ card 1 ∷ [])
    (lines ([] ∷ []) (0 ∷ []) ∷ done ∷ lines ((true ∷ []) ∷ []) (2 ∷ []) ∷ [])
    (7 ∷ 0 ∷ 5 ∷ []) (7 ∷ 0 ∷ 5 ∷ [])
    -- a refused rule leaves the store
    ∷ row (opened (dec forall (1 ∷ []) ++ dec exists (2 ∷ [])) ((y 1 ∷ y 2 ∷ []) ∷ (n 1 ∷ y 2 ∷ []) ∷ []))
    (query [] [] ∷ rule [] ∷ card 0 ∷ [])
    (swap ∷ refused 7 ∷ lines ([] ∷ []) [] ∷ [])
    (7 ∷ 0 ∷ 1 ∷ []) (7 ∷ 0 ∷ 7 ∷ [])
    -- forget empties the learned clauses
    ∷ row (opened (dec free (1 ∷ [])) ((y 1 ∷ []) ∷ (n 1 ∷ []) ∷ []))
    (card 0 ∷ forget ∷ card 0 ∷ [])
    (lines [] [] ∷ done ∷ lines [] [] ∷ [])
    (3 ∷ 0 ∷ 3 ∷ []) (3 ∷ 0 ∷ 3 ∷ [])
    -- forget empties the cubes
    ∷ row (opened (dec forall (1 ∷ []) ++ dec exists (2 ∷ [])) ((n 1 ∷ y 2 ∷ []) ∷ (y 1 ∷ y 2 ∷ []) ∷ []))
    (card 0 ∷ forget ∷ card 0 ∷ [])
    (lines ([] ∷ []) [] ∷ done ∷ lines ([] ∷ []) [] ∷ [])
    (7 ∷ 0 ∷ 7 ∷ []) (7 ∷ 0 ∷ 7 ∷ [])
    -- the store is kept after 21
    ∷ row (opened (dec free (1 ∷ []) ++ dec exists (2 ∷ [])) ((y 2 ∷ []) ∷ (y 1 ∷ n 2 ∷ []) ∷ []))
    (card 0 ∷ query [] (y 1 ∷ []) ∷ [])
    (card_refused 21 [] ∷ keep ∷ [])
    (7 ∷ 1 ∷ []) (7 ∷ 3 ∷ [])
    -- a third constraint displaces the oldest of two, not the newest
    ∷ row (under (record { numbers = 40; clauses = 255; literals = 16; constraints = 2 }) (dec free (1 ∷ 2 ∷ []) ++ dec exists (3 ∷ [])) ((y 3 ∷ []) ∷ (n 2 ∷ n 3 ∷ []) ∷ (y 1 ∷ y 2 ∷ n 3 ∷ []) ∷ []))
    (card 2 ∷ [])
    (lines ((true ∷ false ∷ []) ∷ []) (2 ∷ 1 ∷ []) ∷ [])
    (13 ∷ []) (15 ∷ [])
    -- a full store takes the new constraint
    ∷ row (under (record { numbers = 40; clauses = 255; literals = 16; constraints = 1 }) (dec free (1 ∷ 2 ∷ [])) ((y 1 ∷ y 2 ∷ []) ∷ (y 2 ∷ []) ∷ (n 2 ∷ []) ∷ []))
    (card 0 ∷ card 0 ∷ [])
    (lines [] [] ∷ lines [] [] ∷ [])
    (7 ∷ 1 ∷ []) (7 ∷ 7 ∷ [])
    -- a store of one holds one
    ∷ row (under (record { numbers = 40; clauses = 255; literals = 16; constraints = 1 }) (dec free (1 ∷ [])) ((n 1 ∷ []) ∷ (y 1 ∷ []) ∷ []))
    (card 0 ∷ card 0 ∷ [])
    (lines [] [] ∷ lines [] [] ∷ [])
    (3 ∷ 1 ∷ []) (3 ∷ 3 ∷ [])
    -- a store of one holds no more than one
    ∷ row (under (record { numbers = 40; clauses = 255; literals = 16; constraints = 1 }) (dec exists (1 ∷ 2 ∷ 3 ∷ [])) ((n 3 ∷ []) ∷ (y 2 ∷ y 3 ∷ []) ∷ (y 1 ∷ y 3 ∷ []) ∷ []))
    (query [] [] ∷ [])
    (swap ∷ [])
    (14 ∷ []) (14 ∷ [])
    -- displacement leaves a constraint on its way up as it is
    ∷ row (under (record { numbers = 40; clauses = 255; literals = 16; constraints = 1 }) (dec free (1 ∷ []) ++ dec exists (2 ∷ 3 ∷ [])) ((y 1 ∷ y 2 ∷ y 3 ∷ []) ∷ (n 3 ∷ []) ∷ (n 2 ∷ y 3 ∷ []) ∷ []))
    (card 1 ∷ [])
    (lines ((true ∷ []) ∷ []) (2 ∷ []) ∷ [])
    (11 ∷ []) (11 ∷ [])
    -- the first dead clause, not the last
    ∷ row (opened (dec free (1 ∷ 2 ∷ [])) ((y 1 ∷ y 2 ∷ []) ∷ (n 2 ∷ []) ∷ (y 2 ∷ []) ∷ []))
    (card 0 ∷ [])
    (lines [] [] ∷ [])
    (7 ∷ []) (7 ∷ [])
    -- the oldest eligible clause, not the newest
    ∷ row (opened (dec free (1 ∷ 2 ∷ 3 ∷ [])) ((y 1 ∷ y 3 ∷ []) ∷ (y 3 ∷ []) ∷ (n 2 ∷ n 3 ∷ []) ∷ []))
    (card 6 ∷ rule (y 2 ∷ []) ∷ card 0 ∷ [])
    (lines ((false ∷ false ∷ true ∷ []) ∷ (true ∷ false ∷ true ∷ []) ∷ []) (1 ∷ 1 ∷ 2 ∷ 2 ∷ 1 ∷ 2 ∷ []) ∷ done ∷ lines [] [] ∷ [])
    (15 ∷ 0 ∷ 7 ∷ []) (15 ∷ 0 ∷ 11 ∷ [])
    -- the oldest eligible cube, not the newest
    ∷ row (opened (dec free (1 ∷ 2 ∷ 3 ∷ []) ++ dec forall (4 ∷ []) ++ dec exists (5 ∷ [])) ((y 1 ∷ n 2 ∷ y 5 ∷ []) ∷ (y 1 ∷ n 3 ∷ []) ∷ (y 4 ∷ y 5 ∷ []) ∷ (n 4 ∷ y 5 ∷ []) ∷ (y 3 ∷ y 5 ∷ []) ∷ []))
    (card 9 ∷ [])
    (lines ((false ∷ false ∷ false ∷ []) ∷ (false ∷ true ∷ false ∷ []) ∷ (true ∷ []) ∷ []) (1 ∷ 1 ∷ 1 ∷ 1 ∷ 2 ∷ 1 ∷ 2 ∷ 0 ∷ 0 ∷ []) ∷ [])
    (33 ∷ []) (51 ∷ [])
    -- a cube takes each clause's true literal of smallest place
    ∷ row (opened (dec forall (1 ∷ []) ++ dec exists (2 ∷ [])) ((y 2 ∷ []) ∷ (n 1 ∷ y 2 ∷ []) ∷ []))
    (card 0 ∷ [])
    (lines ([] ∷ []) [] ∷ [])
    (7 ∷ []) (7 ∷ [])
    -- an off side whose cube lacks the free variable goes up
    ∷ row (opened (dec free (1 ∷ []) ++ dec exists (2 ∷ [])) ((y 2 ∷ []) ∷ []))
    (card 1 ∷ [])
    (lines ([] ∷ []) (0 ∷ []) ∷ [])
    (4 ∷ []) (7 ∷ [])
    -- an off side whose cube lacks the universal variable goes up
    ∷ row (opened (dec forall (1 ∷ []) ++ dec exists (2 ∷ [])) ((y 2 ∷ []) ∷ []))
    (query [] [] ∷ [])
    (swap ∷ [])
    (4 ∷ []) (7 ∷ [])
    -- at a free variable an on side's cube that lacks it goes up and is not joined
    ∷ row (opened (dec free (1 ∷ []) ++ dec exists (2 ∷ [])) ((n 1 ∷ y 2 ∷ []) ∷ []))
    (card 1 ∷ card 1 ∷ [])
    (lines ([] ∷ []) (0 ∷ []) ∷ lines ([] ∷ []) (0 ∷ []) ∷ [])
    (5 ∷ 5 ∷ []) (5 ∷ 5 ∷ [])
    -- at a universal variable likewise
    ∷ row (opened (dec forall (1 ∷ []) ++ dec exists (2 ∷ [])) ((n 1 ∷ y 2 ∷ []) ∷ []))
    (card 0 ∷ query [] [] ∷ [])
    (lines ([] ∷ []) [] ∷ swap ∷ [])
    (5 ∷ 5 ∷ []) (5 ∷ 5 ∷ [])
    -- a resolvent is reduced
    ∷ row (opened (dec forall (1 ∷ []) ++ dec exists (2 ∷ [])) ((y 2 ∷ []) ∷ (y 1 ∷ n 2 ∷ []) ∷ []))
    (query [] [] ∷ card 0 ∷ [])
    (keep ∷ lines [] [] ∷ [])
    (4 ∷ 1 ∷ []) (4 ∷ 4 ∷ [])
    -- an added rule is held in place order, not as written
    ∷ row (opened (dec forall (1 ∷ []) ++ dec exists (2 ∷ 3 ∷ [])) ((y 2 ∷ n 3 ∷ []) ∷ (n 1 ∷ n 2 ∷ []) ∷ []))
    (rule (y 3 ∷ y 1 ∷ []) ∷ card 0 ∷ [])
    (done ∷ lines ([] ∷ []) [] ∷ [])
    (0 ∷ 11 ∷ []) (0 ∷ 11 ∷ [])
    -- constraints are ordered by place, not by number
    ∷ row (opened (dec free (4 ∷ []) ++ dec forall (3 ∷ []) ++ dec exists (2 ∷ 1 ∷ [])) ((y 2 ∷ n 1 ∷ []) ∷ (n 3 ∷ y 1 ∷ []) ∷ (n 4 ∷ []) ∷ (y 3 ∷ n 2 ∷ []) ∷ []))
    (card 1 ∷ query [] (y 4 ∷ []) ∷ [])
    (lines ((false ∷ []) ∷ []) (1 ∷ []) ∷ swap ∷ [])
    (13 ∷ 1 ∷ []) (13 ∷ 11 ∷ [])
    -- two Yes halves are one line, and 21 is judged on the final count
    ∷ row (opened (dec free (1 ∷ []) ++ dec exists (2 ∷ [])) ((n 1 ∷ y 2 ∷ []) ∷ []))
    (card 1 ∷ [])
    (lines ([] ∷ []) (0 ∷ []) ∷ [])
    (5 ∷ []) (5 ∷ [])
    -- off before on
    ∷ row (opened (dec free (1 ∷ 2 ∷ [])) ((y 2 ∷ []) ∷ []))
    (card 4 ∷ [])
    (lines ((false ∷ true ∷ []) ∷ (true ∷ true ∷ []) ∷ []) (1 ∷ 2 ∷ 2 ∷ 2 ∷ []) ∷ [])
    (7 ∷ []) (7 ∷ [])
    -- with no free variable a line has no byte, and the tail is zero
    ∷ row (opened [] [])
    (card 0 ∷ card 1 ∷ [])
    (lines ([] ∷ []) [] ∷ lines ([] ∷ []) (0 ∷ []) ∷ [])
    (1 ∷ 1 ∷ []) (1 ∷ 1 ∷ [])
    -- a table's length is rounded down, and 21 zeroes it
    ∷ row (opened (dec free (1 ∷ 2 ∷ [])) [])
    (card 1 ∷ card 3 ∷ [])
    (card_refused 21 (0 ∷ []) ∷ lines ([] ∷ []) (0 ∷ 0 ∷ 0 ∷ []) ∷ [])
    (1 ∷ 1 ∷ []) (1 ∷ 1 ∷ [])
    -- 20 before 7, 7 before 3, at each number 3 before 5 before 6
    ∷ row (under (record { numbers = 40; clauses = 1; literals = 2; constraints = 64 }) (dec free (1 ∷ [])) [])
    (rule (y 0 ∷ y 0 ∷ y 0 ∷ []) ∷ rule (y 0 ∷ []) ∷ rule (y 2 ∷ y 2 ∷ []) ∷ rule (y 2 ∷ y 0 ∷ []) ∷ rule (y 1 ∷ y 1 ∷ []) ∷ rule (y 1 ∷ []) ∷ rule [] ∷ [])
    (refused 7 ∷ refused 3 ∷ refused 5 ∷ refused 5 ∷ refused 6 ∷ done ∷ refused 20 ∷ [])
    (0 ∷ 0 ∷ 0 ∷ 0 ∷ 0 ∷ 0 ∷ 0 ∷ []) (0 ∷ 0 ∷ 0 ∷ 0 ∷ 0 ∷ 0 ∷ 0 ∷ [])
    -- an equal rule stands twice
    ∷ row (under (record { numbers = 40; clauses = 2; literals = 16; constraints = 64 }) (dec free (1 ∷ [])) ((y 1 ∷ []) ∷ []))
    (rule (y 1 ∷ []) ∷ rule (y 1 ∷ []) ∷ [])
    (done ∷ refused 20 ∷ [])
    (0 ∷ 0 ∷ []) (0 ∷ 0 ∷ [])
    ∷ []

on_states : List Given
on_states =
    -- at an inner node a constraint that ends above is not eligible
    given (opened (dec free (1 ∷ 2 ∷ []) ++ dec exists (3 ∷ [])) ((n 3 ∷ []) ∷ [])) (store ((y 3 ∷ []) ∷ []) ((n 2 ∷ []) ∷ []))
    (card 4 ∷ [])
    (lines ((false ∷ false ∷ []) ∷ (true ∷ false ∷ []) ∷ []) (1 ∷ 1 ∷ 2 ∷ 1 ∷ []) ∷ [])
    (11 ∷ [])
    -- step 2 comes before step 3
    ∷ given (opened [] []) (store ([] ∷ []) [])
    (query [] [] ∷ [])
    (keep ∷ [])
    (1 ∷ [])
    -- an equal constraint is stored again
    ∷ given (under (record { numbers = 40; clauses = 255; literals = 16; constraints = 3 }) (dec free (1 ∷ 2 ∷ 3 ∷ []) ++ dec exists (4 ∷ [])) ((n 4 ∷ []) ∷ [])) (store ((y 4 ∷ []) ∷ []) ((n 3 ∷ []) ∷ []))
    (card 12 ∷ [])
    (lines ((false ∷ false ∷ false ∷ []) ∷ (false ∷ true ∷ false ∷ []) ∷ (true ∷ false ∷ false ∷ []) ∷ (true ∷ true ∷ []) ∷ []) (1 ∷ 1 ∷ 1 ∷ 1 ∷ 2 ∷ 1 ∷ 2 ∷ 1 ∷ 1 ∷ 2 ∷ 2 ∷ 0 ∷ []) ∷ [])
    (22 ∷ [])
    ∷ []

malformed : List Given
malformed =
    -- a declared number out of range
    broken (held paper (dec free (41 ∷ [])) []) (store [] [])
    -- a declared number 0
    ∷ broken (held paper (dec free (0 ∷ [])) []) (store [] [])
    -- a number declared twice
    ∷ broken (held paper (dec free (1 ∷ 1 ∷ [])) []) (store [] [])
    -- a free variable after a quantified one
    ∷ broken (held paper (dec exists (1 ∷ []) ++ dec free (2 ∷ [])) []) (store [] [])
    -- too many clauses
    ∷ broken (held (record { numbers = 40; clauses = 1; literals = 16; constraints = 64 }) (dec free (1 ∷ [])) ((y 1 ∷ []) ∷ (y 1 ∷ []) ∷ [])) (store [] [])
    -- an empty clause
    ∷ broken (held paper (dec free (1 ∷ [])) ([] ∷ [])) (store [] [])
    -- an undeclared variable in a clause
    ∷ broken (held paper (dec free (1 ∷ [])) ((y 2 ∷ []) ∷ [])) (store [] [])
    -- a variable twice in a clause
    ∷ broken (held paper (dec free (1 ∷ [])) ((y 1 ∷ n 1 ∷ []) ∷ [])) (store [] [])
    -- a clause out of place order
    ∷ broken (held paper (dec free (1 ∷ 2 ∷ [])) ((y 2 ∷ y 1 ∷ []) ∷ [])) (store [] [])
    -- a clause of too many literals
    ∷ broken (held (record { numbers = 40; clauses = 255; literals = 1; constraints = 64 }) (dec free (1 ∷ 2 ∷ [])) ((y 1 ∷ y 2 ∷ []) ∷ [])) (store [] [])
    -- too many constraints
    ∷ broken (held (record { numbers = 40; clauses = 255; literals = 16; constraints = 1 }) [] []) (store [] ([] ∷ [] ∷ []))
    -- an undeclared variable in a constraint
    ∷ broken (held paper [] []) (store ((y 1 ∷ []) ∷ []) [])
    -- a variable twice in a constraint
    ∷ broken (held paper (dec free (1 ∷ [])) []) (store [] ((y 1 ∷ y 1 ∷ []) ∷ []))
    -- a constraint out of place order
    ∷ broken (held paper (dec free (1 ∷ 2 ∷ [])) []) (store [] ((y 2 ∷ y 1 ∷ []) ∷ []))
    -- an unreduced cube
    ∷ broken (held paper (dec exists (1 ∷ [])) []) (store [] ((y 1 ∷ []) ∷ []))
    -- an unreduced clause
    ∷ broken (held paper (dec forall (1 ∷ [])) []) (store ((y 1 ∷ []) ∷ []) [])
    ∷ []

-- ---- the theorems
cases : map ran table ≡ map expected table
unfolding place_of ran expected table row opened under dec y n card query
cases = refl

cases_on_states : map gave on_states ≡ map wanted on_states
unfolding place_of gave wanted on_states given store opened under dec y n card query
cases_on_states = refl

cases_malformed : map gave malformed ≡ map wanted malformed
unfolding place_of gave wanted malformed broken given store held dec y n card query
cases_malformed = refl

-- 64 of each polarity stand, and a 65th displaces the first
sixty_four : constraints false (learn paper 0 false (y 1 ∷ []) (store (replicate 63 []) [])) ≡ replicate 63 [] ++ ((y 1 ∷ []) ∷ [])
unfolding store
sixty_four = refl

sixty_fifth : constraints true (learn paper 0 true (y 1 ∷ []) (store [] ((y 2 ∷ []) ∷ replicate 63 []))) ≡ replicate 63 [] ++ ((y 1 ∷ []) ∷ [])
unfolding store
sixty_fifth = refl

-- the level is the index of a maximal run: neighbouring groups of one kind are one level, and a free variable has level 0
level_runs : levels (dec free (7 ∷ 8 ∷ []) ++ dec exists (1 ∷ []) ++ dec exists (2 ∷ []) ++ dec forall (3 ∷ 4 ∷ []) ++ dec exists (5 ∷ [])) ≡ 0 ∷ 0 ∷ 1 ∷ 1 ∷ 2 ∷ 2 ∷ 3 ∷ []
unfolding levels dec
level_runs = refl
