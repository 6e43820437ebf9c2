-- Wish 8 by computation: searches that stop at a ceiling, and a formula's own limits.
use mathlib.Core.Path.{◌≡◌, refl}
use Prim.Native.Nat.{ℕ, zero, suc}
use mathlib.Core.Bool.{true, false}
use mathlib.Core.List.{List, [], ◌∷◌, ◌++◌, map}
use Rattle.qbf.specs.Formula.{capped, exists, free, highest, paper, place_of}
use Rattle.qbf.specs.Learning.{empty_store}
use Rattle.qbf.specs.Calls.{Call, card_refused, done, forget, keep, lines, refused, rule, swap}
use Rattle.qbf.specs.Runs.{after, fresh}
use Rattle.qbf.proofs.Rows.{y, n, dec, under, held, opened, Row, row, ran, expected, Given, given, gave, wanted, card, keep_card, query}
use Rattle.qbf.proofs.Books.{A, A_rules, B}

stopping : List Given
stopping =
    -- stopped before visit 11: visits equal the ceiling, the table is zero, and what was stored is kept
    given A empty_store (Call.card 10 4 ∷ card 4 ∷ [])
    (card_refused 34 (0 ∷ 0 ∷ 0 ∷ 0 ∷ []) ∷ lines ((false ∷ true ∷ []) ∷ (true ∷ true ∷ []) ∷ []) (1 ∷ 2 ∷ 2 ∷ 2 ∷ []) ∷ [])
    (10 ∷ 9 ∷ [])
    -- exactly the visits needed: finished
    ∷ given A empty_store (Call.card 11 4 ∷ Call.keep_card 9 4 ∷ Call.keep_card 8 4 ∷ [])
    (lines ((false ∷ true ∷ []) ∷ (true ∷ true ∷ []) ∷ []) (1 ∷ 2 ∷ 2 ∷ 2 ∷ []) ∷ lines ((false ∷ false ∷ []) ∷ (true ∷ false ∷ []) ∷ []) (1 ∷ 1 ∷ 2 ∷ 1 ∷ []) ∷ card_refused 34 (0 ∷ 0 ∷ 0 ∷ 0 ∷ []) ∷ [])
    (11 ∷ 9 ∷ 8 ∷ [])
    -- three visits of B's card store nothing, four store the empty clause
    ∷ given B empty_store (Call.card 3 1 ∷ Call.card 3 1 ∷ Call.card 4 1 ∷ Call.card 1 1 ∷ [])
    (card_refused 34 (0 ∷ []) ∷ card_refused 34 (0 ∷ []) ∷ lines [] (0 ∷ []) ∷ lines [] (0 ∷ []) ∷ [])
    (3 ∷ 3 ∷ 4 ∷ 1 ∷ [])
    -- 34 and not 21, though a line more than fits was found before; 21 is for a finished search
    ∷ given A empty_store (Call.card 10 0 ∷ Call.card 10 0 ∷ [])
    (card_refused 34 [] ∷ card_refused 21 [] ∷ [])
    (10 ∷ 9 ∷ [])
    -- a ceiling of 0 stops before the first visit, after 8
    ∷ given A empty_store (Call.query 0 [] (y 1 ∷ y 2 ∷ []) ∷ Call.query 0 (y 3 ∷ []) [] ∷ Call.card 0 1 ∷ Call.keep_card 0 1 ∷ [])
    (refused 34 ∷ refused 8 ∷ card_refused 34 (0 ∷ []) ∷ card_refused 34 (0 ∷ []) ∷ [])
    (0 ∷ 0 ∷ 0 ∷ 0 ∷ [])
    -- a query stops too, and later the store answers
    ∷ given A empty_store (Call.query 2 (y 1 ∷ []) (y 2 ∷ []) ∷ Call.query 3 (y 1 ∷ []) (y 2 ∷ []) ∷ Call.query 1 (y 1 ∷ []) (y 2 ∷ []) ∷ [])
    (refused 34 ∷ keep ∷ keep ∷ [])
    (2 ∷ 3 ∷ 1 ∷ [])
    -- 22 comes before 34
    ∷ given (held paper (dec free (41 ∷ [])) []) empty_store (Call.query 0 [] [] ∷ Call.card 0 1 ∷ [])
    (refused 22 ∷ card_refused 22 (0 ∷ []) ∷ [])
    (0 ∷ 0 ∷ [])
    ∷ []

-- numbers from k on
from : ℕ → ℕ → List ℕ
from zero k = []
from (suc m) k = k ∷ from m (suc k)

table : List Row
table =
    -- numbers up to the formula's own limit, above 40
    row (under (capped 1000 4000) (dec free (1000 ∷ []) ++ dec exists (41 ∷ 999 ∷ [])) ((n 1000 ∷ y 41 ∷ []) ∷ (y 1000 ∷ n 41 ∷ []) ∷ (n 41 ∷ y 999 ∷ []) ∷ (y 41 ∷ n 999 ∷ []) ∷ (y 999 ∷ []) ∷ []))
    (card 1 ∷ rule (y 1001 ∷ []) ∷ rule (y 998 ∷ []) ∷ query (y 1000 ∷ []) [] ∷ [])
    (lines ((true ∷ []) ∷ []) (2 ∷ []) ∷ refused 3 ∷ refused 5 ∷ swap ∷ [])
    (11 ∷ 0 ∷ 0 ∷ 5 ∷ []) (11 ∷ 0 ∷ 0 ∷ 5 ∷ [])
    -- 3 and 20 read the formula's own limits
    ∷ row (under (capped 7 1) (dec free (7 ∷ [])) [])
    (rule (y 8 ∷ []) ∷ rule (y 7 ∷ []) ∷ rule (y 7 ∷ []) ∷ [])
    (refused 3 ∷ done ∷ refused 20 ∷ [])
    (0 ∷ 0 ∷ 0 ∷ []) (0 ∷ 0 ∷ 0 ∷ [])
    -- any lower limit is legal, 0 too
    ∷ row (under (capped 0 0) [] []) (rule [] ∷ card 0 ∷ []) (refused 20 ∷ lines ([] ∷ []) [] ∷ []) (0 ∷ 1 ∷ []) (0 ∷ 1 ∷ [])
    -- 40 free variables
    ∷ row (under (capped 41 1) (dec free (from 40 1) ++ dec exists (41 ∷ [])) []) (query [] (map y (from 40 1)) ∷ []) (swap ∷ []) (1 ∷ []) (1 ∷ [])
    ∷ []

malformed : List Given
malformed =
    -- limits above the highest
    given (held (record { numbers = 1001; clauses = 255; literals = 16; constraints = 64 }) [] []) empty_store (forget ∷ []) (refused 22 ∷ []) (0 ∷ [])
    ∷ given (held (record { numbers = 40; clauses = 4001; literals = 16; constraints = 64 }) [] []) empty_store (forget ∷ []) (refused 22 ∷ []) (0 ∷ [])
    -- the highest
    ∷ given (held highest (dec exists (1000 ∷ [])) []) empty_store (forget ∷ []) (done ∷ []) (0 ∷ [])
    -- a number above the formula's own limit
    ∷ given (held (capped 7 255) (dec exists (8 ∷ [])) []) empty_store (forget ∷ []) (refused 22 ∷ []) (0 ∷ [])
    -- 41 free variables
    ∷ given (held (capped 41 1) (dec free (from 41 1)) []) empty_store (forget ∷ []) (refused 22 ∷ []) (0 ∷ [])
    ∷ []

ceilings : map gave stopping ≡ map wanted stopping
unfolding place_of gave wanted stopping given A A_rules B opened under held dec y n card keep_card query
ceilings = refl

own_limits : map ran table ≡ map expected table
unfolding place_of ran expected row table from under dec y n card query
own_limits = refl

limits_malformed : map gave malformed ≡ map wanted malformed
unfolding place_of gave wanted malformed given from held dec
limits_malformed = refl

-- limits are lowered to the highest, and the program's are the paper's
capped_highest : capped 1001 4001 ≡ highest
capped_highest = refl

capped_paper : capped 40 255 ≡ paper
capped_paper = refl

-- three visits of B's card leave the store empty, and four the empty clause
three_visits : (after (fresh B) (Call.card 3 1 ∷ [])).store ≡ empty_store
unfolding place_of B opened under dec y n
three_visits = refl

four_visits : (after (fresh B) (Call.card 4 1 ∷ [])).store ≡ record { clauses = [] ∷ []; records = 2 ∷ []; cubes = [] }
unfolding place_of B opened under dec y n
four_visits = refl
