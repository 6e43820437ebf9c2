-- Wish 4 by computation: lists of calls with withdrawals, and states that no calls reach.
use mathlib.Core.Path.{◌≡◌, refl}
use Prim.Native.Nat.{ℕ}
use mathlib.Core.Bool.{true, false}
use mathlib.Core.List.{List, [], ◌∷◌, ◌++◌, map}
use Rattle.qbf.specs.Formula.{exists, free, place_of}
use Rattle.qbf.specs.Learning.{Constraint, Store}
use Rattle.qbf.specs.Calls.{done, forget, keep, lines, refused, rule, swap, withdraw}
use Rattle.qbf.specs.Runs.{after, fresh}
use Rattle.qbf.proofs.Rows.{y, n, dec, under, opened, Row, row, ran, expected, Given, given, gave, wanted, card, query}
use Rattle.qbf.proofs.Books.{A, A_rules, B, D, D_rules}

recorded : List Constraint → List ℕ → List Constraint → Store
recorded cs ks qs = record { clauses = cs; records = ks; cubes = qs }

table : List Row
table =
    -- a learned clause goes with the rule that stood when it was stored
    row B (card 2 ∷ withdraw ∷ card 1 ∷ []) (lines [] (0 ∷ 0 ∷ []) ∷ done ∷ lines ([] ∷ []) (0 ∷ []) ∷ []) (4 ∷ 0 ∷ 4 ∷ []) (7 ∷ 0 ∷ 7 ∷ [])
    -- a learned clause stored before the rule that is withdrawn stays and answers
    ∷ row B (card 2 ∷ rule (y 1 ∷ []) ∷ withdraw ∷ card 2 ∷ []) (lines [] (0 ∷ 0 ∷ []) ∷ done ∷ done ∷ lines [] (0 ∷ 0 ∷ []) ∷ []) (4 ∷ 0 ∷ 0 ∷ 1 ∷ []) (7 ∷ 0 ∷ 0 ∷ 7 ∷ [])
    -- cubes remain: the empty cube answers
    ∷ row D (card 0 ∷ withdraw ∷ card 0 ∷ []) (lines ([] ∷ []) [] ∷ done ∷ lines ([] ∷ []) [] ∷ []) (6 ∷ 0 ∷ 1 ∷ []) (6 ∷ 0 ∷ 5 ∷ [])
    -- a learned clause stored between goes, even if it does not rest on the rule
    ∷ row B (rule (y 1 ∷ []) ∷ card 2 ∷ withdraw ∷ card 2 ∷ []) (done ∷ lines [] (0 ∷ 0 ∷ []) ∷ done ∷ lines [] (0 ∷ 0 ∷ []) ∷ []) (0 ∷ 5 ∷ 0 ∷ 4 ∷ []) (0 ∷ 5 ∷ 0 ∷ 7 ∷ [])
    -- the opened book's rules can be withdrawn, the last one first; then 32, which changes nothing
    ∷ row B (withdraw ∷ withdraw ∷ withdraw ∷ card 1 ∷ rule (y 1 ∷ []) ∷ card 1 ∷ []) (done ∷ done ∷ refused 32 ∷ lines ([] ∷ []) (0 ∷ []) ∷ done ∷ lines ((true ∷ []) ∷ []) (2 ∷ []) ∷ []) (0 ∷ 0 ∷ 0 ∷ 1 ∷ 0 ∷ 3 ∷ []) (0 ∷ 0 ∷ 0 ∷ 1 ∷ 0 ∷ 3 ∷ [])
    -- room for a rule again
    ∷ row (under (record { numbers = 40; clauses = 1; literals = 16; constraints = 64 }) (dec free (1 ∷ [])) ((y 1 ∷ []) ∷ []))
    (rule (n 1 ∷ []) ∷ withdraw ∷ rule (n 1 ∷ []) ∷ card 1 ∷ [])
    (refused 20 ∷ done ∷ done ∷ lines ((false ∷ []) ∷ []) (1 ∷ []) ∷ [])
    (0 ∷ 0 ∷ 0 ∷ 3 ∷ []) (0 ∷ 0 ∷ 0 ∷ 3 ∷ [])
    -- a search leaves the records of what it finds stored as they are
    ∷ row B (card 2 ∷ rule (y 1 ∷ []) ∷ card 2 ∷ withdraw ∷ card 2 ∷ []) (lines [] (0 ∷ 0 ∷ []) ∷ done ∷ lines [] (0 ∷ 0 ∷ []) ∷ done ∷ lines [] (0 ∷ 0 ∷ []) ∷ []) (4 ∷ 0 ∷ 1 ∷ 0 ∷ 1 ∷ []) (7 ∷ 0 ∷ 5 ∷ 0 ∷ 7 ∷ [])
    -- a learned clause that displaces another has its own record
    ∷ row (under (record { numbers = 40; clauses = 255; literals = 16; constraints = 1 }) (dec exists (1 ∷ 2 ∷ [])) ((n 2 ∷ []) ∷ (y 1 ∷ y 2 ∷ []) ∷ []))
    (query [] [] ∷ rule (n 1 ∷ []) ∷ card 0 ∷ withdraw ∷ card 0 ∷ [])
    (swap ∷ done ∷ lines [] [] ∷ done ∷ lines ([] ∷ []) [] ∷ [])
    (6 ∷ 0 ∷ 3 ∷ 0 ∷ 6 ∷ []) (6 ∷ 0 ∷ 5 ∷ 0 ∷ 6 ∷ [])
    ∷ []

on_states : List Given
on_states =
    -- records in any order: what is dropped is chosen by its record, not by its age, and an equal record stays
    given (opened (dec free (1 ∷ 2 ∷ [])) ((y 1 ∷ []) ∷ (y 2 ∷ []) ∷ [])) (recorded ([] ∷ (y 1 ∷ []) ∷ []) (2 ∷ 1 ∷ []) [])
    (withdraw ∷ card 4 ∷ [])
    (done ∷ lines ((true ∷ []) ∷ []) (2 ∷ 0 ∷ 0 ∷ 0 ∷ []) ∷ [])
    (0 ∷ 3 ∷ [])
    -- an empty clause of a record that stands stays, and answers
    ∷ given (opened (dec free (1 ∷ [])) ((y 1 ∷ []) ∷ (y 1 ∷ []) ∷ [])) (recorded ((y 1 ∷ []) ∷ [] ∷ []) (2 ∷ 1 ∷ []) [])
    (withdraw ∷ card 1 ∷ [])
    (done ∷ lines [] (0 ∷ []) ∷ [])
    (0 ∷ 1 ∷ [])
    -- a record goes with its clause, wherever it stands
    ∷ given (opened (dec free (1 ∷ [])) ((y 1 ∷ []) ∷ (y 1 ∷ []) ∷ [])) (recorded ([] ∷ [] ∷ []) (2 ∷ 0 ∷ []) [])
    (withdraw ∷ withdraw ∷ query [] (y 1 ∷ []) ∷ [])
    (done ∷ done ∷ keep ∷ [])
    (0 ∷ 0 ∷ 1 ∷ [])
    -- the others keep their order
    ∷ given (opened (dec free (1 ∷ 2 ∷ []) ++ dec exists (3 ∷ 4 ∷ [])) ((y 1 ∷ y 3 ∷ y 4 ∷ []) ∷ (y 1 ∷ y 3 ∷ n 4 ∷ []) ∷ (y 2 ∷ y 3 ∷ y 4 ∷ []) ∷ (y 2 ∷ y 3 ∷ n 4 ∷ []) ∷ (n 3 ∷ []) ∷ (n 3 ∷ []) ∷ [])) (recorded ((y 1 ∷ y 2 ∷ y 3 ∷ []) ∷ (y 1 ∷ y 3 ∷ []) ∷ (y 2 ∷ y 3 ∷ []) ∷ []) (6 ∷ 0 ∷ 0 ∷ []) [])
    (withdraw ∷ card 2 ∷ [])
    (done ∷ lines ((true ∷ true ∷ []) ∷ []) (2 ∷ 2 ∷ []) ∷ [])
    (0 ∷ 11 ∷ [])
    -- a record that exceeds the rules standing is refused with 22, by every call
    ∷ given (opened (dec free (1 ∷ [])) ((y 1 ∷ []) ∷ [])) (recorded ((y 1 ∷ []) ∷ []) (2 ∷ []) [])
    (withdraw ∷ forget ∷ query [] [] ∷ [])
    (refused 22 ∷ refused 22 ∷ refused 22 ∷ [])
    (0 ∷ 0 ∷ 0 ∷ [])
    -- 22 before 32
    ∷ given (opened [] []) (recorded ([] ∷ []) (1 ∷ []) [])
    (withdraw ∷ [])
    (refused 22 ∷ [])
    (0 ∷ [])
    -- 32 keeps the store
    ∷ given (opened [] []) (recorded ([] ∷ []) (0 ∷ []) [])
    (withdraw ∷ query [] [] ∷ [])
    (refused 32 ∷ keep ∷ [])
    (0 ∷ 1 ∷ [])
    ∷ []

withdrawals : map ran table ≡ map expected table
unfolding place_of ran expected row table A A_rules B D D_rules opened under dec y n card query
withdrawals = refl

withdrawals_on_states : map gave on_states ≡ map wanted on_states
unfolding place_of gave wanted on_states given recorded opened under dec y n card query
withdrawals_on_states = refl

-- B's card stores the empty clause, with the record 2; withdrawing drops it
one_record : (after (fresh B) (card 2 ∷ [])).store ≡ recorded ([] ∷ []) (2 ∷ []) []
unfolding place_of recorded B opened under dec y n card query
one_record = refl

no_record : (after (fresh B) (card 2 ∷ withdraw ∷ [])).store ≡ recorded [] [] []
unfolding place_of recorded B opened under dec y n card query
no_record = refl
