-- Wish 9 by computation: the closest reading.
use Prim.Native.Nat.{ℕ}
use mathlib.Core.Path.{◌≡◌, refl}
use mathlib.Core.Bool.{true, false}
use mathlib.Core.List.{List, [], ◌∷◌, map}
use mathlib.Core.Option.{none, some}
use lib.ListN.{replicate}
use Rattle.qbf.specs.Formula.{free, Formula, Node, place_of}
use Rattle.qbf.specs.Learning.{empty_store}
use Rattle.qbf.specs.Closest.{Found, closest_in}
use Rattle.qbf.specs.Calls.{Call, Reply, card_refused, done, found, lines, one, rule, withdraw}
use Rattle.qbf.specs.Runs.{after, fresh}
use Rattle.qbf.proofs.Rows.{y, n, dec, under, opened, Row, row, ran, expected, Given, given, gave, wanted, card, closest}
use Rattle.qbf.proofs.Books.{A, A_rules, B, D, D_rules}

at : Node → ℕ → Found
at s k = record { reading = s; number = k }

-- A's card, in a table of 4
A_card : Found → Reply
A_card r = found ((false ∷ true ∷ []) ∷ (true ∷ true ∷ []) ∷ []) (1 ∷ 2 ∷ 2 ∷ 2 ∷ []) r

-- flags 1 2, one of them on
X : Formula
X = opened (dec free (1 ∷ 2 ∷ [])) ((y 1 ∷ y 2 ∷ []) ∷ (n 1 ∷ n 2 ∷ []) ∷ [])

table : List Row
table =
    -- the nearest line's reading and its number, with the card's lines, table and visits; a reading on the card is itself with 0
    row A (closest 4 (y 1 ∷ []) (y 2 ∷ []) ∷ closest 4 (y 2 ∷ []) (y 1 ∷ []) ∷ closest 4 (y 1 ∷ y 2 ∷ []) [] ∷ card 4 ∷ [])
    (A_card (at (true ∷ true ∷ []) 1) ∷ A_card (at (false ∷ true ∷ []) 0) ∷ A_card (at (true ∷ true ∷ []) 0) ∷ lines ((false ∷ true ∷ []) ∷ (true ∷ true ∷ []) ∷ []) (1 ∷ 2 ∷ 2 ∷ 2 ∷ []) ∷ [])
    (11 ∷ 9 ∷ 9 ∷ 9 ∷ []) (11 ∷ 11 ∷ 11 ∷ 11 ∷ [])
    -- 8: a flag left open, not a flag, in both lists; before 21
    ∷ row A (closest 4 (y 1 ∷ []) [] ∷ closest 4 [] [] ∷ closest 4 (y 1 ∷ y 2 ∷ y 3 ∷ []) [] ∷ closest 4 (y 1 ∷ y 2 ∷ []) (y 2 ∷ []) ∷ closest 0 [] (y 2 ∷ []) ∷ [])
    (card_refused 8 (0 ∷ 0 ∷ 0 ∷ 0 ∷ []) ∷ card_refused 8 (0 ∷ 0 ∷ 0 ∷ 0 ∷ []) ∷ card_refused 8 (0 ∷ 0 ∷ 0 ∷ 0 ∷ []) ∷ card_refused 8 (0 ∷ 0 ∷ 0 ∷ 0 ∷ []) ∷ card_refused 8 [] ∷ [])
    (replicate 5 0) (replicate 5 0)
    -- 21 keeps the visits and the store
    ∷ row A (closest 3 [] (y 1 ∷ y 2 ∷ []) ∷ closest 4 (y 1 ∷ []) (y 2 ∷ []) ∷ []) (card_refused 21 (0 ∷ 0 ∷ 0 ∷ []) ∷ A_card (at (true ∷ true ∷ []) 1) ∷ []) (11 ∷ 9 ∷ []) (11 ∷ 11 ∷ [])
    -- 35 where the card has no line, with the visits and the store kept
    ∷ row B (closest 1 (y 1 ∷ []) [] ∷ closest 0 (y 1 ∷ []) [] ∷ card 1 ∷ []) (card_refused 35 (0 ∷ []) ∷ card_refused 35 [] ∷ lines [] (0 ∷ []) ∷ []) (4 ∷ 1 ∷ 1 ∷ []) (7 ∷ 7 ∷ 7 ∷ [])
    -- among equals the first
    ∷ row X (closest 4 (y 1 ∷ y 2 ∷ []) [] ∷ closest 4 [] (y 1 ∷ y 2 ∷ []) ∷ [])
    (found ((false ∷ true ∷ []) ∷ (true ∷ false ∷ []) ∷ []) (1 ∷ 2 ∷ 2 ∷ 1 ∷ []) (at (false ∷ true ∷ []) 1) ∷ found ((false ∷ true ∷ []) ∷ (true ∷ false ∷ []) ∷ []) (1 ∷ 2 ∷ 2 ∷ 1 ∷ []) (at (false ∷ true ∷ []) 1) ∷ [])
    (7 ∷ 7 ∷ []) (7 ∷ 7 ∷ [])
    -- the line's open flags keep the given values, and do not count
    ∷ row (opened (dec free (1 ∷ 2 ∷ 3 ∷ [])) ((y 1 ∷ []) ∷ [])) (closest 3 (y 3 ∷ []) (y 2 ∷ y 1 ∷ []) ∷ []) (found ((true ∷ []) ∷ []) (2 ∷ 0 ∷ 0 ∷ []) (at (true ∷ false ∷ true ∷ []) 1) ∷ []) (3 ∷ []) (3 ∷ [])
    -- no flag: the empty reading with 0, or 35
    ∷ row D (closest 0 [] [] ∷ rule (y 2 ∷ []) ∷ closest 1 [] [] ∷ []) (found ([] ∷ []) [] (at [] 0) ∷ done ∷ card_refused 35 (0 ∷ []) ∷ []) (6 ∷ 0 ∷ 7 ∷ []) (6 ∷ 0 ∷ 7 ∷ [])
    -- in a list with exactly-one forms and withdrawals
    ∷ row (opened (dec free (1 ∷ 2 ∷ [])) []) (one (y 1 ∷ y 2 ∷ []) ∷ closest 4 (y 1 ∷ y 2 ∷ []) [] ∷ withdraw ∷ closest 4 (y 1 ∷ y 2 ∷ []) [] ∷ [])
    (done ∷ found ((false ∷ true ∷ []) ∷ (true ∷ false ∷ []) ∷ []) (1 ∷ 2 ∷ 2 ∷ 1 ∷ []) (at (false ∷ true ∷ []) 1) ∷ done ∷ found ((false ∷ true ∷ []) ∷ (true ∷ []) ∷ []) (1 ∷ 2 ∷ 2 ∷ 0 ∷ []) (at (true ∷ true ∷ []) 0) ∷ [])
    (0 ∷ 7 ∷ 0 ∷ 5 ∷ []) (0 ∷ 7 ∷ 0 ∷ 5 ∷ [])
    ∷ []

stopping : List Given
stopping =
    -- 34 before 21, with visits equal to the ceiling; exactly the visits needed: finished
    given A empty_store (Call.closest 10 3 (y 1 ∷ y 2 ∷ []) [] ∷ Call.closest 8 3 (y 1 ∷ y 2 ∷ []) [] ∷ Call.closest 9 3 (y 1 ∷ y 2 ∷ []) [] ∷ Call.closest 9 4 (y 1 ∷ y 2 ∷ []) [] ∷ [])
    (card_refused 34 (0 ∷ 0 ∷ 0 ∷ []) ∷ card_refused 34 (0 ∷ 0 ∷ 0 ∷ []) ∷ card_refused 21 (0 ∷ 0 ∷ 0 ∷ []) ∷ A_card (at (true ∷ true ∷ []) 0) ∷ [])
    (10 ∷ 8 ∷ 9 ∷ 9 ∷ [])
    -- 34 before 35, 8 before 34
    ∷ given B empty_store (Call.closest 0 1 (y 1 ∷ []) [] ∷ Call.closest 0 1 [] [] ∷ Call.closest 4 1 (y 1 ∷ []) [] ∷ Call.closest 1 0 (y 1 ∷ []) [] ∷ [])
    (card_refused 34 (0 ∷ []) ∷ card_refused 8 (0 ∷ []) ∷ card_refused 35 (0 ∷ []) ∷ card_refused 35 [] ∷ [])
    (0 ∷ 0 ∷ 4 ∷ 1 ∷ [])
    -- 22 before 8
    ∷ given D (record { clauses = [] ∷ []; records = 9 ∷ []; cubes = [] }) (closest 2 (y 1 ∷ []) [] ∷ []) (card_refused 22 (0 ∷ 0 ∷ []) ∷ []) (0 ∷ [])
    ∷ []

closests : map ran table ≡ map expected table
unfolding place_of ran expected row table at A_card X A A_rules B D D_rules opened under dec y n card closest
closests = refl

closests_stopped : map gave stopping ≡ map wanted stopping
unfolding place_of gave wanted stopping given at A_card A A_rules B D D_rules opened under dec y n closest
closests_stopped = refl

-- the store is the swap card's, where no line is found too
card_store : (after (fresh B) (closest 1 [] (y 1 ∷ []) ∷ [])).store ≡ (after (fresh B) (card 1 ∷ [])).store
unfolding place_of B opened under dec y n card closest
card_store = refl

-- a later line that is nearer is returned
later_nearer : closest_in ((false ∷ false ∷ []) ∷ (true ∷ false ∷ []) ∷ []) (true ∷ true ∷ []) ≡ some (at (true ∷ false ∷ []) 1)
unfolding at
later_nearer = refl

no_line : closest_in [] (true ∷ []) ≡ none
no_line = refl
