-- What the program `day` prints, by computation.
use Prim.Native.String.{String}
use Prim.Native.Nat.{ℕ, zero, suc, ◌-◌}
use mathlib.Core.Path.{◌≡◌, refl}
use mathlib.Core.List.{List, [], ◌∷◌, ◌++◌}
use lib.ListN.{length, replicate}
use Rattle.qbf.specs.Formula.{place_of as formula_place}
use Rattle.layout.specs.Words.{Bytes, ascii, newline, space, split, same, digits, number, closed, inside}
use Rattle.layout.specs.Forms.{items, consed, form_from, form_of}
use Rattle.layout.specs.Endings.{number_up_to, ended}
use Rattle.editions.specs.Lines.{rule_from, line_from, line_of as line_said}
use Rattle.editions.specs.Opening.{read_lines, read_editions, open_editions}
use Rattle.layout.specs.Output.{last_digits, decimal, literal_text, items_text, line_text, lines_text, visits_text, card_text, refusal_text, overflow_text, query_text}
use Rattle.layout.specs.Page.{aligned, sign_of, page_of, no_page}
use Rattle.layout.specs.Session.{call_from, sized_call, ceiled_call, answer_text}
use Rattle.booktext.specs.Texts.{body_text, line_of, form_text, forms_text}
use Rattle.booktext.specs.Books.{book_forms, book_text, write_call, text_room}
use Rattle.sessions.specs.Session.{request_from, request_of}
use Rattle.day_text.specs.Lines.{total_of, behind, is_place, place_of, cut_of, at_of, asked_of}
use Rattle.day_text.specs.Output.{at_text, share_text, shares_from, shares_text}
use Rattle.day_text.specs.Program.{day_lines, day_program}

-- book A, eight lines, whose card takes 11 visits, and book B, six lines, without a line on its card
abbrev A : Bytes
A = ascii "(book 1)\n(flags 1 2)\n(exists 3)\n(forall 4)\n(rule 3 4 (no 1))\n(rule (no 3) (no 4) 2)\n(rule 1 2)\n(end)\n"

abbrev B : Bytes
B = ascii "(book 1)\n(flags 1)\n(exists 2)\n(rule 2)\n(rule (no 2))\n(end)\n"

abbrev A_card : Bytes
A_card = ascii "(card 1)\n(line (no 1) 2)\n(line 1 2)\n(visits 11)\n(end)\n"

record Row : Type 0 where
  input : Bytes
  output : Bytes

abbrev row : Bytes → Bytes → Row
row i o = record { input = i; output = o }

abbrev printed : List Row → List Bytes
printed [] = []
printed (r ∷ rs) = day_program r.input ∷ printed rs

abbrev expected : List Row → List Bytes
expected [] = []
expected (r ∷ rs) = r.output ∷ expected rs

-- ---- the accounts
abbrev totals : List Row
totals =
    -- 90 visits: the floor is 11, and 2 are free. A's card takes 11, the next is stopped at the 2 left, and then nothing is left
    row (ascii "(day 90)\n(place 1)\n" ++ (A ++ ascii "(shares)\n(at 1 (card))\n(at 1 (card))\n(at 1 (card))\n(at 1 (query 1 (no 2)))\n(at 1 (card (ceiling 0)))\n(at 1 (forget))\n(shares)\n"))
    (ascii "(at 1)\n(opened)\n"
    ++ (ascii "(shares (total 90) (place 1 (used 0) (left 13)) (place 2 (used 0) (left 13)) (place 3 (used 0) (left 13)) (place 4 (used 0) (left 13)) (place 5 (used 0) (left 13)) (place 6 (used 0) (left 13)) (place 7 (used 0) (left 13)) (place 8 (used 0) (left 13)))\n"
    ++ (ascii "(at 1)\n"
    ++ (A_card
    ++ (ascii "(at 1)\n(refused 37 13 (visits 2))\n(at 1)\n(refused 37 14 (visits 0))\n(at 1)\n(refused 37 15 (visits 0))\n(at 1)\n(refused 34 16 (visits 0))\n(at 1)\n(forgotten)\n"
    ++ ascii "(shares (total 90) (place 1 (used 13) (left 0)) (place 2 (used 0) (left 11)) (place 3 (used 0) (left 11)) (place 4 (used 0) (left 11)) (place 5 (used 0) (left 11)) (place 6 (used 0) (left 11)) (place 7 (used 0) (left 11)) (place 8 (used 0) (left 11)))\n")))))
    -- below 8 no place has a floor, and the first come first
    ∷ row (ascii "(day 7)\n(place 2)\n" ++ (B ++ ascii "(at 2 (card))\n(at 2 (query 1))\n(at 2 (query (no 1)))\n(shares)\n"))
    (ascii "(at 2)\n(opened)\n(at 2)\n(card 1)\n(visits 4)\n(end)\n(at 2)\n(keep (visits 1))\n(at 2)\n(keep (visits 1))\n(shares (total 7) (place 1 (used 0) (left 1)) (place 2 (used 6) (left 1)) (place 3 (used 0) (left 1)) (place 4 (used 0) (left 1)) (place 5 (used 0) (left 1)) (place 6 (used 0) (left 1)) (place 7 (used 0) (left 1)) (place 8 (used 0) (left 1)))\n")
    -- the highest total, and no place
    ∷ row (ascii "(day 4294967295)\n(at 1 (card))\n") (ascii "(at 1)\n(refused 38 2)\n")
    ∷ []

-- ---- loading
abbrev loads : List Row
loads =
    -- a refused text leaves its place without a book: 38 for whatever is asked there, as outside 1 to 8; its lines are counted in the text, a call's in the input
    row (ascii "(day 90)\n(place 3)\n(book 1)\n(flags 1)\n(rule 2)\n(end)\n(place 8)\n" ++ (B ++ ascii "(at 3 (card))\n(at 4 (forget))\n(at 0 (write))\n(at 9 (page 1))\n(at 99999 (query 7))\n(at 8 (write 0))\n(at 8 (page 1))\n"))
    (ascii "(at 3)\n(refused 5 3)\n(at 8)\n(opened)\n(at 3)\n(refused 38 14)\n(at 4)\n(refused 38 15)\n(at 0)\n(refused 38 16)\n(at 9)\n(refused 38 17)\n(at 99999)\n(refused 38 18)\n(at 8)\n(refused 31 19)\n(at 8)\n(refused 36 20)\n")
    -- place lines out of their form, outside 1 to 8 or given before are 1 alone, and their texts are skipped; a refused text gives its place too
    ∷ row (ascii "(day 90)\n(place 9)\n" ++ (B ++ (ascii "(place 0)\n(end)\n(place)\n(end)\n(place 1 40)\n(end)\n(place 01)\n(end)\n(place 1 2 3 4)\n(end)\n(place(no 1))\n(end)\n(place 1) \n(end)\n(place 1)\n(book 3)\n(end)\n(place 1)\n" ++ (A ++ ascii "(places 2)\n(place 2)\n(at 1 (card))\n"))))
    (ascii "(refused 1 2)\n(refused 1 9)\n(refused 1 11)\n(refused 1 13)\n(refused 1 15)\n(refused 1 17)\n(refused 1 19)\n(refused 1 21)\n(at 1)\n(refused 2 1)\n(refused 1 26)\n(refused 1 35)\n(refused 1 36)\n(at 1)\n(refused 38 37)\n")
    -- the limits of a place, capped
    ∷ row (ascii "(day 1000)\n(place 1 41 1)\n(book 1)\n(flags 41)\n(rule 41)\n(end)\n(place 2)\n(book 1)\n(flags 41)\n(end)\n(place 4 1001 2)\n(book 1)\n(flags 1001)\n(end)\n(place 5 0 0)\n(book 1)\n(flags)\n(end)\n(at 1 (rule (no 41)))\n(at 5 (rule))\n")
    (ascii "(at 1)\n(opened)\n(at 2)\n(refused 3 2)\n(at 4)\n(refused 3 2)\n(at 5)\n(opened)\n(at 1)\n(refused 20 19)\n(at 5)\n(refused 20 20)\n")
    -- the input ends in a text, in one that is skipped, or in a line
    ∷ row (ascii "(day 90)\n(place 2)\n(book 1)\n(flags 1)\n") (ascii "(at 2)\n(refused 1 3)\n")
    ∷ row (ascii "(day 90)\n(place 2)\n(book 1)\n(flags 1)\n(end)") (ascii "(at 2)\n(refused 1 3)\n")
    ∷ row (ascii "(day 90)\n(place 2)\n") (ascii "(at 2)\n(refused 1 1)\n")
    ∷ row (ascii "(day 90)\n(place 9)\n(book 1)\n") (ascii "(refused 1 2)\n")
    ∷ row (ascii "(day 90)\n(place 2)") (ascii "(refused 1 2)\n")
    ∷ row (ascii "(day 90)\n") []
    -- a first line that is no total ends the program
    ∷ row [] (ascii "(refused 1 1)\n")
    ∷ row (ascii "(day 90)") (ascii "(refused 1 1)\n")
    ∷ row (ascii "(day)\n(shares)\n") (ascii "(refused 1 1)\n")
    ∷ row (ascii "(day 090)\n(shares)\n") (ascii "(refused 1 1)\n")
    ∷ row (ascii "(day 4294967296)\n(shares)\n") (ascii "(refused 1 1)\n")
    ∷ row (ascii "(days 90)\n(shares)\n") (ascii "(refused 1 1)\n")
    ∷ row (ascii "(day 90 )\n(shares)\n") (ascii "(refused 1 1)\n")
    ∷ []

-- ---- calls
abbrev asks : List Row
asks =
    -- lines that are no call at a place; `(write)` and pages of a place; another place's card is not shown
    row (ascii "(day 1000)\n(place 1)\n" ++ (A ++ (ascii "(place 2)\n" ++ (B ++ ascii "(card)\n(at 1)\n(at 1 card)\n(at 1 (card)\n(at 1 (card) )\n(at 1  (card))\n(at 01 (card))\n(at (card))\n(at 1 (card)) \n(at 1 (card 65537))\n(at 1 (at 1 (card)))\n(at 1 (shares))\n(shares 1)\n\n(day 5)\n(end)\n(at 2 (write))\n(at 1 (rule 3))\n(at 1 (card 0))\n(at 2 (page 1))\n(at 1 (page 1))\n(at 1 (forget))"))))
    (ascii "(at 1)\n(opened)\n(at 2)\n(opened)\n(refused 1 18)\n(refused 1 19)\n(refused 1 20)\n(refused 1 21)\n(refused 1 22)\n(refused 1 23)\n(refused 1 24)\n(refused 1 25)\n(refused 1 26)\n(refused 1 27)\n(refused 1 28)\n(refused 1 29)\n(refused 1 30)\n(refused 1 31)\n(refused 1 32)\n(refused 1 33)\n"
    ++ (ascii "(at 2)\n" ++ (B ++ ascii "(at 1)\n(accepted)\n(at 1)\n(refused 21 36 (visits 13))\n(at 2)\n(refused 36 37)\n(at 1)\n(refused 36 38)\n(refused 1 39)\n")))
    ∷ []

-- a row of a page: what stands in it, and blanks up to column 71
abbrev wide : String → Bytes
wide s = ascii s ++ (replicate (71 - length (ascii s)) space ++ (newline ∷ []))

abbrev blank : ℕ → Bytes
blank zero = []
blank (suc k) = wide "" ++ blank k

abbrev A_page : Bytes
A_page = wide "CARD                                                                  1" ++ (wide "    1  01" ++ (wide "    2  11" ++ blank 21))

abbrev pages : List Row
pages =
    -- "the last card of that place": what is asked at another place leaves it; a card that the share stopped leaves none
    row (ascii "(day 90)\n(place 1)\n" ++ (A ++ (ascii "(place 2)\n" ++ (B ++ ascii "(at 1 (card))\n(at 2 (page 1))\n(at 2 (rule 1))\n(at 2 (card 0 (ceiling 0)))\n(at 1 (page 1))\n(at 1 (card))\n(at 1 (page 1))\n"))))
    (ascii "(at 1)\n(opened)\n(at 2)\n(opened)\n(at 1)\n" ++ (A_card ++ (ascii "(at 2)\n(refused 36 19)\n(at 2)\n(accepted)\n(at 2)\n(refused 34 21 (visits 0))\n(at 1)\n" ++ (A_page ++ ascii "(at 1)\n(refused 37 23 (visits 2))\n(at 1)\n(refused 36 24)\n"))))
    ∷ []

total_rows : printed totals ≡ expected totals
unfolding split same digits number items consed closed inside form_from form_of rule_from line_from line_said read_lines read_editions open_editions formula_place last_digits decimal literal_text items_text line_text lines_text visits_text card_text refusal_text overflow_text query_text call_from number_up_to ended sized_call ceiled_call answer_text request_from request_of body_text line_of form_text forms_text book_forms book_text text_room write_call total_of behind is_place place_of cut_of at_of asked_of at_text share_text shares_from shares_text day_lines day_program
total_rows = refl

loading_rows : printed loads ≡ expected loads
unfolding split same digits number items consed closed inside form_from form_of rule_from line_from line_said read_lines read_editions open_editions formula_place last_digits decimal literal_text items_text line_text lines_text visits_text card_text refusal_text overflow_text query_text call_from number_up_to ended sized_call ceiled_call answer_text request_from request_of body_text line_of form_text forms_text book_forms book_text text_room write_call total_of behind is_place place_of cut_of at_of asked_of at_text share_text shares_from shares_text day_lines day_program
loading_rows = refl

call_rows : printed asks ≡ expected asks
unfolding split same digits number items consed closed inside form_from form_of rule_from line_from line_said read_lines read_editions open_editions formula_place last_digits decimal literal_text items_text line_text lines_text visits_text card_text refusal_text overflow_text query_text call_from number_up_to ended sized_call ceiled_call answer_text request_from request_of body_text line_of form_text forms_text book_forms book_text text_room write_call total_of behind is_place place_of cut_of at_of asked_of at_text share_text shares_from shares_text day_lines day_program aligned sign_of page_of no_page
call_rows = refl

page_rows : printed pages ≡ expected pages
unfolding split same digits number items consed closed inside form_from form_of rule_from line_from line_said read_lines read_editions open_editions formula_place last_digits decimal literal_text items_text line_text lines_text visits_text card_text refusal_text overflow_text query_text call_from number_up_to ended sized_call ceiled_call answer_text request_from request_of body_text line_of form_text forms_text book_forms book_text text_room write_call total_of behind is_place place_of cut_of at_of asked_of at_text share_text shares_from shares_text day_lines day_program aligned sign_of page_of no_page
page_rows = refl
