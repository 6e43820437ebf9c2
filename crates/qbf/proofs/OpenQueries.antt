-- Wish 5 by computation: queries with open flags.
use mathlib.Core.Path.{◌≡◌, refl}
use mathlib.Core.List.{List, [], ◌∷◌, map}
use lib.ListN.{replicate}
use Rattle.qbf.specs.Formula.{exists, free, place_of}
use Rattle.qbf.specs.Learning.{Store, empty_store}
use Rattle.qbf.specs.Calls.{Call, keep, refused, swap, unsettled}
use Rattle.qbf.proofs.Rows.{y, n, dec, under, opened, Row, row, ran, expected, Given, given, gave, wanted, query}
use Rattle.qbf.proofs.Books.{A, A_rules, B}

table : List Row
table =
    -- one flag recorded, or none: swap, keep and unsettled, and each node on the way is a visit
    row A (query (y 2 ∷ []) [] ∷ query [] (y 2 ∷ []) ∷ query [] [] ∷ query (y 1 ∷ []) [] ∷ query [] (y 1 ∷ []) ∷ []) (swap ∷ keep ∷ unsettled ∷ unsettled ∷ unsettled ∷ []) (7 ∷ 7 ∷ 11 ∷ 8 ∷ 4 ∷ []) (7 ∷ 7 ∷ 11 ∷ 8 ∷ 4 ∷ [])
    -- full readings as before; an open query between them neither reads nor adds to the store
    ∷ row A (query (y 1 ∷ []) (y 2 ∷ []) ∷ query [] (y 2 ∷ []) ∷ query (y 1 ∷ []) (y 2 ∷ []) ∷ query [] [] ∷ []) (keep ∷ keep ∷ keep ∷ unsettled ∷ []) (3 ∷ 7 ∷ 1 ∷ 11 ∷ []) (3 ∷ 7 ∷ 3 ∷ 11 ∷ [])
    -- a dead or satisfied node ends the search before a recorded flag is entered
    ∷ row (opened (dec free (1 ∷ 2 ∷ [])) ((y 1 ∷ []) ∷ [])) (query [] (y 1 ∷ []) ∷ query (y 2 ∷ []) [] ∷ []) (keep ∷ unsettled ∷ []) (2 ∷ 3 ∷ []) (2 ∷ 3 ∷ [])
    -- from the empty node, also where the flags named are the first ones
    ∷ row (opened (dec free (1 ∷ 2 ∷ [])) ((y 1 ∷ y 2 ∷ []) ∷ [])) (query (y 1 ∷ []) [] ∷ query [] (y 1 ∷ []) ∷ []) (swap ∷ unsettled ∷ []) (2 ∷ 4 ∷ []) (2 ∷ 4 ∷ [])
    -- 8: a number in both lists, twice in one, negative, of no flag, or 0
    ∷ row A (query (y 1 ∷ []) (y 1 ∷ []) ∷ query [] (y 2 ∷ y 2 ∷ []) ∷ query [] (n 1 ∷ []) ∷ query [] (y 3 ∷ []) ∷ query (y 1 ∷ []) (y 0 ∷ []) ∷ query [] (n 32768 ∷ []) ∷ query [] (y 41 ∷ []) ∷ []) (replicate 7 (refused 8)) (replicate 7 0) (replicate 7 0)
    -- with no flag the empty query is a full reading
    ∷ row (opened (dec exists (1 ∷ [])) ((y 1 ∷ []) ∷ [])) (query [] [] ∷ query [] [] ∷ []) (swap ∷ swap ∷ []) (3 ∷ 3 ∷ []) (3 ∷ 3 ∷ [])
    ∷ []

-- the empty clause, which every node that tests it takes
empty_clause : Store
empty_clause = record { clauses = [] ∷ []; records = 3 ∷ []; cubes = [] }

on_states : List Given
on_states =
    -- the store is not read by an open query, and is read by a full one
    given A empty_clause (query (y 2 ∷ []) [] ∷ query (y 2 ∷ []) (y 1 ∷ []) ∷ []) (swap ∷ keep ∷ []) (7 ∷ 1 ∷ [])
    -- an open query stops at its ceiling; exactly the visits needed are enough
    ∷ given A empty_store (Call.query 6 (y 2 ∷ []) [] ∷ Call.query 7 (y 2 ∷ []) [] ∷ Call.query 0 [] [] ∷ Call.query 0 (y 1 ∷ []) (y 1 ∷ []) ∷ []) (refused 34 ∷ swap ∷ refused 34 ∷ refused 8 ∷ []) (6 ∷ 7 ∷ 0 ∷ 0 ∷ [])
    ∷ []

open_queries : map ran table ≡ map expected table
unfolding place_of ran expected row table A A_rules B opened under dec y n query
open_queries = refl

open_on_states : map gave on_states ≡ map wanted on_states
unfolding place_of gave wanted on_states given empty_clause A A_rules opened under dec y n query
open_on_states = refl
