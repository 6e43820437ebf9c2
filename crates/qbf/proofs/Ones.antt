-- Wish 10 by computation: exactly-one forms by a call.
use mathlib.Core.Path.{◌≡◌, refl}
use mathlib.Core.Bool.{true, false}
use mathlib.Core.List.{List, [], ◌∷◌, ◌++◌, map}
use lib.ListN.{replicate}
use Rattle.qbf.specs.Formula.{exists, free, Clause, Formula, Literal, paper, place_of}
use Rattle.qbf.specs.Learning.{empty_store}
use Rattle.qbf.specs.One.{one_count, one_forms}
use Rattle.qbf.specs.Calls.{done, lines, one, refused, rule, withdraw}
use Rattle.qbf.specs.Runs.{after, fresh}
use Rattle.qbf.proofs.Rows.{y, n, dec, under, opened, held, Row, row, ran, expected, Given, given, gave, wanted, card}
use Rattle.qbf.proofs.Books.{B, D, D_rules}

-- flags 3 1 2, exists 4, no rule
E : Formula
E = opened (dec free (3 ∷ 1 ∷ 2 ∷ []) ++ dec exists (4 ∷ [])) []

-- flags 1 2 3, and some rules
full : List Clause → Formula
full cs = held paper (dec free (1 ∷ 2 ∷ 3 ∷ [])) cs

three : List Literal
three = y 1 ∷ y 2 ∷ y 3 ∷ []

table : List Row
table =
    -- the rules of a form, and a card of them; 4 and 3 with the place order 3 1 2 4
    row E (one (y 4 ∷ y 3 ∷ y 2 ∷ n 1 ∷ []) ∷ card 9 ∷ [])
    (done ∷ lines ((false ∷ false ∷ false ∷ []) ∷ (false ∷ true ∷ []) ∷ (true ∷ true ∷ false ∷ []) ∷ []) (1 ∷ 1 ∷ 1 ∷ 1 ∷ 2 ∷ 0 ∷ 2 ∷ 2 ∷ 1 ∷ []) ∷ [])
    (0 ∷ 18 ∷ []) (0 ∷ 18 ∷ [])
    -- an accepted form drops the cubes, a refused one does not
    ∷ row D (card 0 ∷ one (y 1 ∷ []) ∷ card 0 ∷ one (y 1 ∷ y 2 ∷ []) ∷ card 0 ∷ [])
    (lines ([] ∷ []) [] ∷ refused 7 ∷ lines ([] ∷ []) [] ∷ done ∷ lines ([] ∷ []) [] ∷ [])
    (6 ∷ 0 ∷ 1 ∷ 0 ∷ 6 ∷ []) (6 ∷ 0 ∷ 6 ∷ 0 ∷ 6 ∷ [])
    -- learned clauses stay, with their records: they go when the opened book's rules do
    ∷ row B (card 2 ∷ one (y 1 ∷ y 2 ∷ []) ∷ card 2 ∷ withdraw ∷ withdraw ∷ card 2 ∷ withdraw ∷ card 1 ∷ [])
    (lines [] (0 ∷ 0 ∷ []) ∷ done ∷ lines [] (0 ∷ 0 ∷ []) ∷ done ∷ done ∷ lines [] (0 ∷ 0 ∷ []) ∷ done ∷ lines ([] ∷ []) (0 ∷ []) ∷ [])
    (4 ∷ 0 ∷ 1 ∷ 0 ∷ 0 ∷ 1 ∷ 0 ∷ 4 ∷ []) (7 ∷ 0 ∷ 7 ∷ 0 ∷ 0 ∷ 7 ∷ 0 ∷ 7 ∷ [])
    -- 7 before 20, 20 before 3; all of the rules are counted together
    ∷ row (full (replicate 251 (y 1 ∷ []))) (one three ∷ one (y 1 ∷ y 2 ∷ []) ∷ one (y 1 ∷ []) ∷ rule [] ∷ []) (done ∷ refused 20 ∷ refused 7 ∷ refused 20 ∷ []) (replicate 4 0) (replicate 4 0)
    ∷ row (full (replicate 252 (y 1 ∷ [])))
    (one three ∷ one (y 0 ∷ y 0 ∷ y 0 ∷ []) ∷ one (y 0 ∷ y 0 ∷ []) ∷ one (y 1 ∷ y 2 ∷ []) ∷ rule (y 1 ∷ []) ∷ one (y 1 ∷ y 2 ∷ []) ∷ one [] ∷ [])
    (refused 20 ∷ refused 20 ∷ refused 3 ∷ done ∷ done ∷ refused 20 ∷ refused 7 ∷ [])
    (replicate 7 0) (replicate 7 0)
    -- 7 before 3; 3, 5, 6 of each literal from the left
    ∷ row E (one [] ∷ one (y 99 ∷ []) ∷ one (replicate 17 (y 0)) ∷ one (replicate 16 (y 0)) ∷ one (y 1 ∷ y 5 ∷ []) ∷ one (y 1 ∷ n 1 ∷ y 41 ∷ []) ∷ one (y 1 ∷ y 41 ∷ y 1 ∷ []) ∷ one (y 1 ∷ n 32768 ∷ []) ∷ [])
    (refused 7 ∷ refused 7 ∷ refused 7 ∷ refused 3 ∷ refused 5 ∷ refused 6 ∷ refused 3 ∷ refused 3 ∷ [])
    (replicate 8 0) (replicate 8 0)
    ∷ []

ones : map ran table ≡ map expected table
unfolding place_of ran expected row table E full three B D D_rules opened under held dec y n card
ones = refl

-- 22 before 7
malformed : List Given
malformed = given (held paper (dec free (41 ∷ [])) []) empty_store (one [] ∷ one (y 1 ∷ y 2 ∷ []) ∷ []) (refused 22 ∷ refused 22 ∷ []) (0 ∷ 0 ∷ []) ∷ []

ones_malformed : map gave malformed ≡ map wanted malformed
unfolding place_of gave wanted malformed given held dec y
ones_malformed = refl

-- the pairs of four literals as given, (1,2), (1,3), (1,4), (2,3), (2,4), (3,4): first with second, first with third; 3 is given off
order : one_forms (y 1 ∷ y 2 ∷ n 3 ∷ y 4 ∷ [])
    ≡ (y 1 ∷ y 2 ∷ n 3 ∷ y 4 ∷ []) ∷ (n 1 ∷ n 2 ∷ []) ∷ (n 1 ∷ y 3 ∷ []) ∷ (n 1 ∷ n 4 ∷ []) ∷ (n 2 ∷ y 3 ∷ []) ∷ (n 2 ∷ n 4 ∷ []) ∷ (y 3 ∷ n 4 ∷ []) ∷ []
unfolding y n
order = refl

counts : (one_count 2 ≡ 2) × (one_count 3 ≡ 4) × (one_count 16 ≡ 121)
counts = (refl, refl, refl)

-- all of the rules, at the end, each in place order
added : (after (fresh E) (one (y 4 ∷ y 3 ∷ y 2 ∷ n 1 ∷ []) ∷ [])).formula.clauses
    ≡ (y 3 ∷ n 1 ∷ y 2 ∷ y 4 ∷ []) ∷ (n 3 ∷ n 4 ∷ []) ∷ (n 2 ∷ n 4 ∷ []) ∷ (y 1 ∷ n 4 ∷ []) ∷ (n 3 ∷ n 2 ∷ []) ∷ (n 3 ∷ y 1 ∷ []) ∷ (y 1 ∷ n 2 ∷ []) ∷ []
unfolding place_of E opened under dec y n
added = refl

-- a withdrawal takes the last pair's rule only
last_pair : (after (fresh E) (one (y 1 ∷ n 2 ∷ y 3 ∷ []) ∷ withdraw ∷ [])).formula.clauses ≡ (y 3 ∷ y 1 ∷ n 2 ∷ []) ∷ (n 1 ∷ y 2 ∷ []) ∷ (n 3 ∷ n 1 ∷ []) ∷ []
unfolding place_of E opened under dec y n
last_pair = refl

-- none, where it is refused
none_added : (after (fresh E) (one (y 1 ∷ y 2 ∷ y 1 ∷ []) ∷ [])).formula.clauses ≡ []
unfolding place_of E opened under dec y n
none_added = refl

-- the learned clause of B stays with its record
kept : (after (fresh B) (card 2 ∷ one (y 1 ∷ y 2 ∷ []) ∷ [])).store ≡ record { clauses = [] ∷ []; records = 2 ∷ []; cubes = [] }
unfolding place_of B opened under dec y n card
kept = refl
