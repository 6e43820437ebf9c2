-- Wish 7 by computation: keep cards, alone and with cards of the same book.
use mathlib.Core.Path.{◌≡◌, refl}
use mathlib.Core.Bool.{true, false}
use mathlib.Core.List.{List, [], ◌∷◌, map}
use Rattle.qbf.specs.Formula.{exists, forall, place_of}
use Rattle.qbf.specs.Calls.{card_refused, forget, done, keep, lines}
use Rattle.qbf.proofs.Rows.{y, n, dec, under, opened, Row, row, ran, expected, card, keep_card, query}
use Rattle.qbf.proofs.Books.{A, A', A_rules, B}

table : List Row
table =
    -- the topmost No nodes, and then the Yes nodes
    row A (keep_card 4 ∷ card 4 ∷ [])
    (lines ((false ∷ false ∷ []) ∷ (true ∷ false ∷ []) ∷ []) (1 ∷ 1 ∷ 2 ∷ 1 ∷ []) ∷ lines ((false ∷ true ∷ []) ∷ (true ∷ true ∷ []) ∷ []) (1 ∷ 2 ∷ 2 ∷ 2 ∷ []) ∷ [])
    (11 ∷ 9 ∷ []) (11 ∷ 11 ∷ [])
    -- 21 is judged on the No lines, keeps the store and zeroes the table; two No halves are one line
    ∷ row B (keep_card 0 ∷ keep_card 1 ∷ []) (card_refused 21 [] ∷ lines ([] ∷ []) (0 ∷ []) ∷ []) (4 ∷ 1 ∷ []) (7 ∷ 7 ∷ [])
    -- a line of a free variable alone; the bytes of the lines that it takes back are zero again
    ∷ row A' (card 2 ∷ query [] (y 1 ∷ y 2 ∷ []) ∷ forget ∷ keep_card 5 ∷ []) (lines ((true ∷ []) ∷ []) (2 ∷ 0 ∷ []) ∷ keep ∷ done ∷ lines ((false ∷ []) ∷ []) (1 ∷ 0 ∷ 0 ∷ 0 ∷ 0 ∷ []) ∷ []) (11 ∷ 1 ∷ 0 ∷ 11 ∷ []) (11 ∷ 1 ∷ 0 ∷ 11 ∷ [])
    -- with no free variable one empty line if No, and none if Yes
    ∷ row (opened (dec forall (1 ∷ [])) ((y 1 ∷ []) ∷ [])) (keep_card 0 ∷ []) (lines ([] ∷ []) [] ∷ []) (1 ∷ []) (1 ∷ [])
    ∷ row (opened (dec exists (1 ∷ [])) ((y 1 ∷ []) ∷ [])) (keep_card 1 ∷ []) (lines [] (0 ∷ []) ∷ []) (3 ∷ []) (3 ∷ [])
    ∷ []

keep_cards : map ran table ≡ map expected table
unfolding place_of ran expected row table A A' A_rules B opened under dec y n card keep_card query
keep_cards = refl
