-- Paper 01's table of bench cases, proved together, and its other cases: all by computation.
use Prim.Native.Nat.{ℕ, zero, suc}
use mathlib.Core.Path.{◌≡◌, refl}
use mathlib.Core.Bool.{true, false}
use mathlib.Core.List.{List, [], ◌∷◌, ◌++◌, map}
use lib.ListN.{replicate}
use Rattle.qbf.specs.Formula.{paper, exists, forall, free, Literal, Formula, place_of}
use Rattle.qbf.specs.Calls.{card_refused, done, forget, keep, lines, refused, rule, swap}
use Rattle.qbf.proofs.Rows.{y, n, dec, under, opened, Row, row, ran, expected, card, query}
use Rattle.qbf.proofs.Books.{A, A', A_rules, B, C, D, D_rules}

table : List Row
table =
    row A (card 4 ∷ []) (lines ((false ∷ true ∷ []) ∷ (true ∷ true ∷ []) ∷ []) (1 ∷ 2 ∷ 2 ∷ 2 ∷ []) ∷ []) (11 ∷ []) (11 ∷ [])
    ∷ row A' (card 4 ∷ []) (lines ((true ∷ []) ∷ []) (2 ∷ 0 ∷ 0 ∷ 0 ∷ []) ∷ []) (11 ∷ []) (11 ∷ [])
    ∷ row A (query (y 1 ∷ []) (y 2 ∷ []) ∷ query (y 1 ∷ []) (y 2 ∷ []) ∷ []) (keep ∷ keep ∷ []) (3 ∷ 1 ∷ []) (3 ∷ 3 ∷ [])
    ∷ row A (query (y 2 ∷ []) (y 1 ∷ []) ∷ []) (swap ∷ []) (1 ∷ []) (1 ∷ [])
    ∷ row B (card 2 ∷ card 2 ∷ query [] (y 1 ∷ []) ∷ []) (lines [] (0 ∷ 0 ∷ []) ∷ lines [] (0 ∷ 0 ∷ []) ∷ keep ∷ []) (4 ∷ 1 ∷ 1 ∷ []) (7 ∷ 7 ∷ 3 ∷ [])
    ∷ row C (card 4 ∷ []) (lines ((false ∷ true ∷ []) ∷ (true ∷ []) ∷ []) (1 ∷ 2 ∷ 2 ∷ 0 ∷ []) ∷ []) (11 ∷ []) (12 ∷ [])
    ∷ row (opened (dec free (1 ∷ 2 ∷ [])) []) (card 2 ∷ []) (lines ([] ∷ []) (0 ∷ 0 ∷ []) ∷ []) (1 ∷ []) (1 ∷ [])
    ∷ row (opened (dec forall (1 ∷ [])) ((y 1 ∷ []) ∷ [])) (card 0 ∷ []) (lines [] [] ∷ []) (1 ∷ []) (1 ∷ [])
    ∷ row D (card 0 ∷ rule (y 2 ∷ []) ∷ card 0 ∷ []) (lines ([] ∷ []) [] ∷ done ∷ lines [] [] ∷ []) (6 ∷ 0 ∷ 7 ∷ []) (6 ∷ 0 ∷ 7 ∷ [])
    ∷ row (opened (dec exists (1 ∷ []) ++ dec forall (2 ∷ [])) D_rules) (card 0 ∷ []) (lines [] [] ∷ []) (3 ∷ []) (3 ∷ [])
    ∷ []

-- ---- other cases
many : ℕ → ℕ → List ℕ
many zero k = []
many (suc n) k = k ∷ many n (suc k)

wide : ℕ → Formula
wide n = opened (dec exists (many n 1)) []

all_on : ℕ → List Literal
all_on n = map y (many n 1)

others : List Row
others =
    row A (card 3 ∷ []) (card_refused 21 (0 ∷ 0 ∷ 0 ∷ []) ∷ []) (11 ∷ []) (11 ∷ [])
    ∷ row B (card 2 ∷ forget ∷ card 2 ∷ []) (lines [] (0 ∷ 0 ∷ []) ∷ done ∷ lines [] (0 ∷ 0 ∷ []) ∷ []) (4 ∷ 0 ∷ 4 ∷ []) (7 ∷ 0 ∷ 7 ∷ [])
    ∷ row B (card 2 ∷ rule (y 1 ∷ []) ∷ card 2 ∷ []) (lines [] (0 ∷ 0 ∷ []) ∷ done ∷ lines [] (0 ∷ 0 ∷ []) ∷ []) (4 ∷ 0 ∷ 1 ∷ []) (7 ∷ 0 ∷ 5 ∷ [])
    ∷ row A (query (y 3 ∷ []) [] ∷ query (y 1 ∷ y 1 ∷ []) (y 2 ∷ []) ∷ query (n 1 ∷ []) (y 2 ∷ []) ∷ query (y 0 ∷ []) [] ∷ query (n 32768 ∷ []) [] ∷ rule (y 41 ∷ []) ∷ rule (y 0 ∷ []) ∷ rule (n 32768 ∷ []) ∷ rule (y 40 ∷ []) ∷ rule (y 1 ∷ n 1 ∷ []) ∷ rule [] ∷ []) (refused 8 ∷ refused 8 ∷ refused 8 ∷ refused 8 ∷ refused 8 ∷ refused 3 ∷ refused 3 ∷ refused 3 ∷ refused 5 ∷ refused 6 ∷ refused 7 ∷ []) (replicate 11 0) (replicate 11 0)
    ∷ row (wide 40) (rule (all_on 16) ∷ rule (all_on 17) ∷ rule (y 40 ∷ []) ∷ []) (done ∷ refused 7 ∷ done ∷ []) (0 ∷ 0 ∷ 0 ∷ []) (0 ∷ 0 ∷ 0 ∷ [])
    ∷ row (record { limits = paper; prefix = dec exists (1 ∷ []); clauses = replicate 254 (y 1 ∷ []) }) (rule (y 1 ∷ []) ∷ rule (y 1 ∷ []) ∷ []) (done ∷ refused 20 ∷ []) (0 ∷ 0 ∷ []) (0 ∷ 0 ∷ [])
    ∷ []

other_cases : map ran others ≡ map expected others
unfolding place_of ran expected row others many wide all_on A A' A_rules B C D D_rules opened under dec y n card query
other_cases = refl

-- each row of the table gives its replies, in both runs, and its visits
bench : map ran table ≡ map expected table
unfolding place_of ran expected row table A A' A_rules B C D D_rules opened under dec y n card query
bench = refl
