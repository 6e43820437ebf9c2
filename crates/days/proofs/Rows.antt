-- The wish by computation: the figures of a day of 90 visits, and its slips.
use Prim.Native.Nat.{ℕ}
use mathlib.Core.Path.{◌≡◌, refl}
use mathlib.Core.Bool.{true, false}
use mathlib.Core.List.{List, [], ◌∷◌, map}
use mathlib.Core.Option.{none, some}
use lib.ListN.{replicate}
use Rattle.qbf.specs.Formula.{place_of}
use Rattle.qbf.specs.Learning.{empty_store}
use Rattle.qbf.specs.Calls.{Answer, Call, Reply, State, answer, card_refused, done, forget, found, lines, one, refused, rule, unsettled, withdraw}
use Rattle.qbf.specs.Runs.{after, fresh}
use Rattle.qbf.proofs.Rows.{y, n, dec, under, held, opened, card, keep_card, query, closest}
use Rattle.qbf.proofs.Books.{A, A_rules, B}
use Rattle.days.specs.Accounts.{allowance, floor, overspent, stop_number}
use Rattle.days.specs.Day.{Day, Placed, book_at, day_after, day_run, loaded, share_at}

at : ℕ → Call → Placed
at i c = record { place = i; call = c }

-- the used visits of places 1 and 2, nothing elsewhere
two : ℕ → ℕ → List ℕ
two u v = u ∷ v ∷ 0 ∷ 0 ∷ 0 ∷ 0 ∷ 0 ∷ 0 ∷ []

-- calls on a day: the answers, and the visits used afterwards
record Row : Type 0 where
  day : Day
  calls : List Placed
  answers : List Answer
  used : List ℕ

row : Day → List Placed → List Answer → List ℕ → Row
row d ps ls us = record { day = d; calls = ps; answers = ls; used = us }

ran : Row → Row
ran r = row r.day r.calls (day_run r.day r.calls) (day_after r.day r.calls).used

-- A's card in a table of 4, and its closest reading to 1 on, 2 off
A_lines : Reply
A_lines = lines ((false ∷ true ∷ []) ∷ (true ∷ true ∷ []) ∷ []) (1 ∷ 2 ∷ 2 ∷ 2 ∷ [])

A_nearest : Reply
A_nearest = found ((false ∷ true ∷ []) ∷ (true ∷ true ∷ []) ∷ []) (1 ∷ 2 ∷ 2 ∷ 2 ∷ []) (record { reading = true ∷ true ∷ []; number = 1 })

-- B has none: its card in a table of 1
B_lines : Reply
B_lines = lines [] (0 ∷ [])

-- a refusal with a table of so many bytes
zeros : ℕ → ℕ → Reply
zeros size k = card_refused k (replicate size 0)

-- limits above the highest: malformed
bad : State
bad = record { formula = held (record { numbers = 1001; clauses = 255; literals = 16; constraints = 64 }) [] []; store = empty_store }

-- 13, 6 and 14 used, and 60 owed, exceed 90
overspent_day : Day
overspent_day = record { total = 90; used = 13 ∷ 6 ∷ 0 ∷ 0 ∷ 14 ∷ 0 ∷ 0 ∷ 0 ∷ []; places = some (fresh A) ∷ some (fresh B) ∷ replicate 6 none }

table : List Row
table =
    -- 90 visits: the floor is 11, and 2 are free. A's card takes 11, the next is stopped at the 2 left, and then nothing is left
    row (loaded 90 (some A ∷ some B ∷ none ∷ [])) (at 1 (card 4) ∷ at 1 (card 4) ∷ at 1 (card 4) ∷ [])
    (answer A_lines 11 ∷ answer (zeros 4 37) 2 ∷ answer (zeros 4 37) 0 ∷ []) (two 13 0)
    -- 34 where the own ceiling is not higher, at 0 and equal to what is left; 37 where it is
    ∷ row (loaded 90 (some A ∷ [])) (at 1 (card 4) ∷ at 1 (Call.card 2 4) ∷ at 1 (Call.card 0 4) ∷ at 1 (Call.card 1 4) ∷ [])
    (answer A_lines 11 ∷ answer (zeros 4 34) 2 ∷ answer (zeros 4 34) 0 ∷ answer (zeros 4 37) 0 ∷ []) (two 13 0)
    -- with nothing left every search stops, and calls without visits work
    ∷ row (loaded 90 (some A ∷ []))
    (at 1 (card 4) ∷ at 1 (Call.card 2 4) ∷ at 1 (query (y 1 ∷ []) (y 2 ∷ [])) ∷ at 1 (query (y 1 ∷ []) []) ∷ at 1 (keep_card 4) ∷ at 1 (closest 4 (y 1 ∷ []) (y 2 ∷ [])) ∷ at 1 (query (y 1 ∷ y 1 ∷ []) []) ∷ at 1 (rule (y 2 ∷ [])) ∷ at 1 (one (y 1 ∷ y 2 ∷ [])) ∷ at 1 withdraw ∷ at 1 forget ∷ [])
    (answer A_lines 11 ∷ answer (zeros 4 34) 2 ∷ answer (refused 37) 0 ∷ answer (refused 37) 0 ∷ answer (zeros 4 37) 0 ∷ answer (zeros 4 37) 0 ∷ answer (refused 8) 0 ∷ answer done 0 ∷ answer done 0 ∷ answer done 0 ∷ answer done 0 ∷ [])
    (two 13 0)
    -- the visits of 21 and 35 count, and what they stored is kept
    ∷ row (loaded 90 (some A ∷ some B ∷ [])) (at 2 (Call.card 4 0) ∷ at 2 (keep_card 0) ∷ at 2 (closest 1 (y 1 ∷ []) []) ∷ at 1 (card 3) ∷ at 1 (query (y 1 ∷ []) (y 2 ∷ [])) ∷ [])
    (answer (lines [] []) 4 ∷ answer (zeros 0 21) 1 ∷ answer (zeros 1 35) 1 ∷ answer (zeros 3 21) 11 ∷ answer Reply.keep 1 ∷ []) (two 12 6)
    -- a query with an open flag is stopped as a card is
    ∷ row (loaded 90 (some A ∷ [])) (at 1 (query [] []) ∷ at 1 (query (y 2 ∷ []) []) ∷ []) (answer unsettled 11 ∷ answer (refused 37) 2 ∷ []) (two 13 0)
    -- the closest reading, and one that is stopped at its own ceiling
    ∷ row (loaded 160 (some A ∷ [])) (at 1 (closest 4 (y 1 ∷ []) (y 2 ∷ [])) ∷ at 1 (Call.closest 8 4 (y 1 ∷ []) (y 2 ∷ [])) ∷ at 1 (closest 4 (y 1 ∷ []) (y 2 ∷ [])) ∷ [])
    (answer A_nearest 11 ∷ answer (zeros 4 34) 8 ∷ answer (zeros 4 37) 1 ∷ []) (two 20 0)
    -- the free visits are gone for the other book too, its floor is not
    ∷ row (loaded 90 (some A ∷ some A ∷ [])) (at 1 (card 4) ∷ at 1 (card 4) ∷ at 2 (card 4) ∷ at 2 (card 4) ∷ [])
    (answer A_lines 11 ∷ answer (zeros 4 37) 2 ∷ answer A_lines 11 ∷ answer (zeros 4 37) 0 ∷ []) (two 13 11)
    -- a refused text leaves its place without a book, and with its floor; there is no ninth place
    ∷ row (loaded 90 (none ∷ some A ∷ none ∷ none ∷ none ∷ none ∷ none ∷ some B ∷ some A ∷ [])) (at 1 (card 4) ∷ at 2 (card 4) ∷ at 2 (card 4) ∷ at 8 (card 1) ∷ at 9 (card 4) ∷ [])
    (answer (zeros 4 38) 0 ∷ answer A_lines 11 ∷ answer (zeros 4 37) 2 ∷ answer B_lines 4 ∷ answer (zeros 4 38) 0 ∷ []) (0 ∷ 13 ∷ 0 ∷ 0 ∷ 0 ∷ 0 ∷ 0 ∷ 4 ∷ [])
    -- 19 visits: the floor is 2, and 3 are free. 160: the floor is 20, none is free, and a search stopped at its own ceiling helps the next
    ∷ row (loaded 19 (some A ∷ [])) (at 1 (Call.card 10 4) ∷ at 1 (card 4) ∷ []) (answer (zeros 4 37) 5 ∷ answer (zeros 4 37) 0 ∷ []) (two 5 0)
    ∷ row (loaded 160 (some A ∷ [])) (at 1 (Call.card 10 4) ∷ at 1 (Call.card 9 4) ∷ at 1 (card 4) ∷ []) (answer (zeros 4 34) 10 ∷ answer A_lines 9 ∷ answer (zeros 4 37) 1 ∷ []) (two 20 0)
    -- a total below 8 has no floor: the first comes first
    ∷ row (loaded 7 (some B ∷ some B ∷ [])) (at 2 (card 1) ∷ at 1 (card 1) ∷ at 2 (card 1) ∷ []) (answer B_lines 4 ∷ answer (zeros 1 37) 3 ∷ answer (zeros 1 37) 0 ∷ []) (two 3 4)
    -- 38: a place without a book, 0 and 9, before the call's own refusals
    ∷ row (loaded 90 (some A ∷ some B ∷ none ∷ [])) (at 3 (card 4) ∷ at 0 (card 4) ∷ at 9 (query (y 7 ∷ y 7 ∷ []) []) ∷ at 4 withdraw ∷ at 8 (one []) ∷ [])
    (answer (zeros 4 38) 0 ∷ answer (zeros 4 38) 0 ∷ answer (refused 38) 0 ∷ answer (refused 38) 0 ∷ answer (refused 38) 0 ∷ []) (two 0 0)
    -- 38 before 22, and the day's 22 before the call's refusals
    ∷ row overspent_day (at 3 (card 0) ∷ at 2 (query (y 7 ∷ []) []) ∷ at 2 forget ∷ at 1 (card 2) ∷ [])
    (answer (zeros 0 38) 0 ∷ answer (refused 22) 0 ∷ answer (refused 22) 0 ∷ answer (zeros 2 22) 0 ∷ []) overspent_day.used
    -- the book's own 22; another book's malformed state refuses nothing here
    ∷ row (record { total = 90; used = replicate 8 0; places = some (fresh B) ∷ some bad ∷ replicate 6 none }) (at 1 (card 1) ∷ at 2 (card 1) ∷ at 1 (card 1) ∷ [])
    (answer B_lines 4 ∷ answer (zeros 1 22) 0 ∷ answer B_lines 1 ∷ []) (two 5 0)
    ∷ []

days : map ran table ≡ table
unfolding place_of ran row table at two A_lines A_nearest B_lines zeros bad overspent_day A A_rules B opened under held dec y n card keep_card query closest
days = refl

-- 37 leaves what 34 leaves: the store of the card alone, stopped at the 10 visits that its place had
stored : book_at (day_after (loaded 66 (some A ∷ [])) (at 1 (card 4) ∷ [])) 1 ≡ some (after (fresh A) (Call.card 10 4 ∷ []))
unfolding place_of at A A_rules opened under dec y n card
stored = refl

-- the floor of 90 is 11, and a book may use 13; of 7 there is none, and the highest total has 7 free
floor_90 : floor 90 ≡ 11
floor_90 = refl

free_90 : share_at (loaded 90 []) 1 ≡ 13
free_90 = refl

shares : (floor 7 ≡ 0) × (share_at (loaded 7 []) 1 ≡ 7) × (floor 4294967295 ≡ 536870911) × (share_at (loaded 4294967295 []) 1 ≡ 536870918)
shares = (refl, refl, refl, refl)

-- the last book has its whole floor still
last_book : allowance 90 (13 ∷ 11 ∷ 11 ∷ 11 ∷ 11 ∷ 11 ∷ 11 ∷ 0 ∷ []) 7 ≡ 11
last_book = refl

-- 14 used at one place and nothing elsewhere is malformed: 14 and 7 times 11 are 91
malformed : overspent 90 (14 ∷ 0 ∷ 0 ∷ 0 ∷ 0 ∷ 0 ∷ 0 ∷ 0 ∷ []) ≡ true
malformed = refl

well : overspent 90 (13 ∷ 0 ∷ 0 ∷ 0 ∷ 0 ∷ 0 ∷ 0 ∷ 0 ∷ []) ≡ false
well = refl

numbers : (stop_number 5 0 ≡ 37) × (stop_number 0 0 ≡ 34) × (stop_number 2 2 ≡ 34)
numbers = (refl, refl, refl)
