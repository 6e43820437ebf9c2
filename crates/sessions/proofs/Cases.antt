-- What the program `session` prints, by computation.
use Prim.Native.String.{String}
use mathlib.Core.Path.{◌≡◌, refl}
use Prim.Native.Nat.{ℕ, zero, suc, ◌-◌}
use mathlib.Core.List.{List, [], ◌∷◌, ◌++◌}
use lib.ListN.{length, replicate}
use Rattle.qbf.specs.Formula.{paper, place_of}
use Rattle.layout.specs.Words.{Bytes, ascii, newline, space, split, same, digits, number, closed, inside}
use Rattle.layout.specs.Forms.{items, consed, form_from, form_of}
use Rattle.layout.specs.Endings.{number_up_to, ended}
use Rattle.editions.specs.Lines.{rule_from, line_from, line_of as line_said}
use Rattle.editions.specs.Opening.{read_lines, read_editions, open_editions}
use Rattle.layout.specs.Output.{last_digits, decimal, literal_text, items_text, line_text, lines_text, visits_text, card_text, refusal_text, overflow_text, query_text}
use Rattle.layout.specs.Page.{aligned, sign_of, page_of, no_page}
use Rattle.layout.specs.Session.{call_from, sized_call, ceiled_call, answer_text, parted}
use Rattle.booktext.specs.Texts.{body_text, line_of, form_text, forms_text}
use Rattle.booktext.specs.Books.{book_forms, book_text, write_call, text_room}
use Rattle.sessions.specs.Session.{request_from, request_of, serve_lines, session_program}

-- the lines of book A, eight of them
abbrev book_a : String
book_a = "(book 1)\n(flags 1 2)\n(exists 3)\n(forall 4)\n(rule 3 4 (no 1))\n(rule (no 3) (no 4) 2)\n(rule 1 2)\n(end)\n"

record Row : Type 0 where
  calls : String
  output : String

abbrev row : String → String → Row
row c o = record { calls = c; output = o }

-- a session on book A
abbrev printed : List Row → List Bytes
printed [] = []
printed (r ∷ rs) = session_program paper (ascii book_a ++ ascii r.calls) ∷ printed rs

abbrev expected : List Row → List Bytes
expected [] = []
expected (r ∷ rs) = ascii r.output ∷ expected rs

abbrev rows : List Row
rows =
    row "" ""
    ∷ row "(card 4)\n(forget)\n(card 3)\n(card 4)\n"
    "(card 1)\n(line (no 1) 2)\n(line 1 2)\n(visits 11)\n(end)\n(forgotten)\n(refused 21 11 (visits 11))\n(card 1)\n(line (no 1) 2)\n(line 1 2)\n(visits 9)\n(end)\n"
    -- the keep card before the card, and after it, where 21 is judged on its own lines
    ∷ row "(keep-card)\n(card 4)\n"
    "(keep-card 1)\n(line (no 1) (no 2))\n(line 1 (no 2))\n(visits 11)\n(end)\n(card 1)\n(line (no 1) 2)\n(line 1 2)\n(visits 9)\n(end)\n"
    ∷ row "(card 4)\n(keep-card 3)\n" "(card 1)\n(line (no 1) 2)\n(line 1 2)\n(visits 11)\n(end)\n(refused 21 10 (visits 9))\n"
    ∷ row "(keep-card 65537)\n(keep-card 04)\n(keep-card 1 2)\n(keep-card (no 1))\n(keepcard)\n" "(refused 1 9)\n(refused 1 10)\n(refused 1 11)\n(refused 1 12)\n(refused 1 13)\n"
    -- a ceiling stops the search before the visit that would exceed it, and the store is kept; exactly the needed visits are finished
    ∷ row "(card (ceiling 10))\n(card 4 (ceiling 9))\n(keep-card 3 (ceiling 9))\n(keep-card (ceiling 8))\n"
    "(refused 34 9 (visits 10))\n(card 1)\n(line (no 1) 2)\n(line 1 2)\n(visits 9)\n(end)\n(refused 21 11 (visits 9))\n(refused 34 12 (visits 8))\n"
    ∷ row "(query 1 (no 2) (ceiling 2))\n(query (no 1) 2 (ceiling 0))\n(query 3 (ceiling 0))\n(query (no 1) 2 (ceiling 4294967295))\n(query 2 (no 1) (ceiling 1))\n" "(refused 34 9 (visits 2))\n(refused 34 10 (visits 0))\n(refused 8 11)\n(swap (visits 1))\n(swap (visits 1))\n"
    -- a flag that is not named is open: such a query does not touch the store, so a full reading between two of them is learned from as before
    ∷ row "(query 2)\n(query (no 2))\n(query)\n(query 1)\n(query (no 1))\n(query 1 (no 2))\n(query)\n(query (no 2) 1)\n"
    "(swap (visits 7))\n(keep (visits 7))\n(unsettled (visits 11))\n(unsettled (visits 8))\n(unsettled (visits 4))\n(keep (visits 3))\n(unsettled (visits 11))\n(keep (visits 1))\n"
    ∷ row "(query (ceiling 10))\n(query (ceiling 11))\n" "(refused 34 9 (visits 10))\n(unsettled (visits 11))\n"
    -- what is no ceiling, or a ceiling that is not the last item, and calls that have none
    ∷ row "(card (ceiling 4294967296))\n(card (ceiling 01))\n(card (ceiling 4) 4)\n(card (ceiling))\n(card (ceiling 1) (ceiling 1))\n" "(refused 1 9)\n(refused 1 10)\n(refused 1 11)\n(refused 1 12)\n(refused 1 13)\n"
    ∷ row "(rule 1 (ceiling 4))\n(forget (ceiling 4))\n(write (ceiling 4))\n(page (ceiling 1))\n(ceiling 4)\n(card (ceiling 4 5))\n(card (ceiling 10000000000))\n" "(refused 1 9)\n(refused 1 10)\n(refused 1 11)\n(refused 1 12)\n(refused 1 13)\n(refused 1 14)\n(refused 1 15)\n"
    ∷ row "(rule 1 (no 2))\n(rule)\n(rule 1 41)\n(rule 1 5)\n(rule (no 1) 1)\n" "(accepted)\n(refused 7 10)\n(refused 3 11)\n(refused 5 12)\n(refused 6 13)\n"
    -- an exactly-one form is accepted as a whole, or not at all; the withdrawal takes its last rule
    ∷ row "(one 1 2)\n(query 1 2)\n(withdraw)\n(query 1 2)\n(one)\n(one 1)\n(one 1 5)\n(one 1 (ceiling 3))\n(one )\n"
    "(accepted)\n(keep (visits 1))\n(withdrawn)\n(swap (visits 3))\n(refused 7 13)\n(refused 7 14)\n(refused 5 15)\n(refused 1 16)\n(refused 1 17)\n"
    ∷ row "(withdraw 1)\n(withdraw)\n(withdraw)\n(withdraw)\n(withdraw)\n(card 2)\n" "(refused 1 9)\n(withdrawn)\n(withdrawn)\n(withdrawn)\n(refused 32 13)\n(card 1)\n(line)\n(visits 1)\n(end)\n"
    ∷ row "(query 3)\n(query 1 1)\n(query 0)\n(query 99999)\n(query 2 (no 1) (no 2))\n(query (no 3))\n(query (no))\n" "(refused 8 9)\n(refused 8 10)\n(refused 8 11)\n(refused 8 12)\n(refused 8 13)\n(refused 8 14)\n(refused 1 15)\n"
    ∷ row "\n(card 65537)\n(card 04)\n(card 1 2)\n(forget 1)\n(end)\n(forget)" "(refused 1 9)\n(refused 1 10)\n(refused 1 11)\n(refused 1 12)\n(refused 1 13)\n(refused 1 14)\n(refused 1 15)\n"
    ∷ row "(write)\n(write 101)\n(write 100)\n"
    "(book 1)\n(flags 1 2)\n(exists 3)\n(forall 4)\n(rule (no 1) 3 4)\n(rule 2 (no 3) (no 4))\n(rule 1 2)\n(end)\n(book 1)\n(flags 1 2)\n(exists 3)\n(forall 4)\n(rule (no 1) 3 4)\n(rule 2 (no 3) (no 4))\n(rule 1 2)\n(end)\n(refused 31 11)\n"
    ∷ row "(write 65536)\n(write 65537)\n(write 0)\n(write (no 1))\n(write 1 2)\n"
    "(book 1)\n(flags 1 2)\n(exists 3)\n(forall 4)\n(rule (no 1) 3 4)\n(rule 2 (no 3) (no 4))\n(rule 1 2)\n(end)\n(refused 1 10)\n(refused 31 11)\n(refused 1 12)\n(refused 1 13)\n"
    ∷ []

session_rows : printed rows ≡ expected rows
unfolding split same digits number items consed closed inside form_from form_of rule_from line_from line_said read_lines read_editions open_editions place_of last_digits decimal literal_text items_text line_text lines_text visits_text card_text refusal_text overflow_text query_text call_from number_up_to ended sized_call ceiled_call answer_text request_from request_of body_text line_of form_text forms_text book_forms book_text text_room write_call serve_lines parted session_program
session_rows = refl

-- ---- pages
-- a row of a page: what stands in it, and blanks up to column 71
abbrev wide : String → Bytes
wide s = ascii s ++ (replicate (71 - length (ascii s)) space ++ (newline ∷ []))

abbrev blank : ℕ → Bytes
blank zero = []
blank (suc k) = wide "" ++ blank k

-- page 1 of book A's card, and of its card with the rule 1 beside the others
abbrev page_a : Bytes
page_a = wide "CARD                                                                  1" ++ (wide "    1  01" ++ (wide "    2  11" ++ blank 21))

abbrev page_a1 : Bytes
page_a1 = wide "CARD                                                                  1" ++ (wide "    1  11" ++ blank 22)

abbrev page_keep_a : Bytes
page_keep_a = wide "CARD                                                                  1" ++ (wide "    1  00" ++ (wide "    2  10" ++ blank 21))

abbrev card_a : String
card_a = "(card 1)\n(line (no 1) 2)\n(line 1 2)\n(visits 11)\n(end)\n"

-- what is printed before a page, the page, and what is printed after it
record Paged : Type 0 where
  calls : String
  output : Bytes

abbrev paged : String → Bytes → Paged
paged c o = record { calls = c; output = o }

abbrev shown : List Paged → List Bytes
shown [] = []
shown (r ∷ rs) = session_program paper (ascii book_a ++ ascii r.calls) ∷ shown rs

abbrev outputs : List Paged → List Bytes
outputs [] = []
outputs (r ∷ rs) = r.output ∷ outputs rs

abbrev pages : List Paged
pages =
    -- no card has been answered yet; then pages that the card has not
    paged "(page 1)\n(card)\n(page 1)\n(page 0)\n(page 2)\n(page 99999)\n"
    (ascii "(refused 36 9)\n" ++ (ascii card_a ++ (page_a ++ ascii "(refused 36 12)\n(refused 36 13)\n(refused 36 14)\n")))
    -- calls that change no rule leave it
    ∷ paged "(card)\n(rule 5)\n(query 3)\n(query 2)\n(forget)\n(write 0)\n(card 65537)\n(page 1)\n(page 1)\n"
    (ascii card_a ++ (ascii "(refused 5 10)\n(refused 8 11)\n(swap (visits 7))\n(forgotten)\n(refused 31 14)\n(refused 1 15)\n" ++ (page_a ++ page_a)))
    -- a keep card has its pages too
    ∷ paged "(card)\n(keep-card)\n(page 1)\n" (ascii card_a ++ (ascii "(keep-card 1)\n(line (no 1) (no 2))\n(line 1 (no 2))\n(visits 9)\n(end)\n" ++ page_keep_a))
    -- an accepted rule does not
    ∷ paged "(card)\n(rule 1)\n(page 1)\n(card)\n(page 1)\n"
    (ascii card_a ++ (ascii "(accepted)\n(refused 36 11)\n(card 1)\n(line 1 2)\n(visits 7)\n(end)\n" ++ page_a1))
    -- nor does an accepted exactly-one form; a refused one leaves it
    ∷ paged "(card)\n(one 1)\n(page 1)\n(one 1 2)\n(page 1)\n" (ascii card_a ++ (ascii "(refused 7 10)\n" ++ (page_a ++ ascii "(accepted)\n(refused 36 13)\n")))
    -- nor does a withdrawal
    ∷ paged "(card)\n(withdraw)\n(page 1)\n" (ascii card_a ++ ascii "(withdrawn)\n(refused 36 11)\n")
    -- nor does a refused card
    ∷ paged "(card)\n(card 3)\n(page 1)\n" (ascii card_a ++ ascii "(refused 21 10 (visits 9))\n(refused 36 11)\n")
    ∷ paged "(card)\n(card (ceiling 2))\n(page 1)\n" (ascii card_a ++ ascii "(refused 34 10 (visits 2))\n(refused 36 11)\n")
    ∷ paged "(card)\n(page)\n(page 01)\n(page 100000)\n(page (no 1))\n(page 1 2)\n"
    (ascii card_a ++ ascii "(refused 1 10)\n(refused 1 11)\n(refused 1 12)\n(refused 1 13)\n(refused 1 14)\n")
    ∷ []

session_pages : shown pages ≡ outputs pages
unfolding split same digits number items consed closed inside form_from form_of rule_from line_from line_said read_lines read_editions open_editions place_of last_digits decimal literal_text items_text line_text lines_text visits_text card_text refusal_text overflow_text query_text call_from number_up_to ended sized_call ceiled_call answer_text request_from request_of body_text line_of form_text forms_text book_forms book_text text_room write_call serve_lines parted session_program aligned sign_of page_of no_page
session_pages = refl

-- ---- books of either edition
record Editions : Type 0 where
  tagged : session_program paper (ascii "(book 2)\n(flags 1 2)\n(exists 3)\n(forall 4)\n(rule (tag 9) 3 4 (no 1))\n(rule (tag 9) (no 3) (no 4) 2)\n(rule (tag 1) 1 2)\n(end)\n(card)\n") ≡ ascii card_a
  ones : session_program paper (ascii "(book 1)\n(flags 1 2)\n(one 2 1)\n(end)\n(write)\n") ≡ ascii "(book 1)\n(flags 1 2)\n(rule 1 2)\n(rule (no 1) (no 2))\n(end)\n"
  written : session_program paper (ascii "(book 2)\n(flags 1)\n(rule (tag 7) 1)\n(end)\n(write)\n") ≡ ascii "(book 1)\n(flags 1)\n(rule 1)\n(end)\n"
  out_of_range_lem : session_program paper (ascii "(book 2)\n(flags 1)\n(rule (tag 0) 1)\n(end)\n(card)\n") ≡ ascii "(refused 39 3)\n"
  no_edition : session_program paper (ascii "(book 3)\n(flags 1)\n(end)\n(card)\n") ≡ ascii "(refused 2 1)\n"
  -- a rule of a call line has no tag
  call_tagged : session_program paper (ascii "(book 2)\n(flags 1)\n(end)\n(rule (tag 1) 1)\n") ≡ ascii "(refused 1 4)\n"

session_editions : Editions
unfolding split same digits number items consed closed inside form_from form_of rule_from line_from line_said read_lines read_editions open_editions place_of last_digits decimal literal_text items_text line_text lines_text visits_text card_text refusal_text overflow_text query_text call_from ended sized_call ceiled_call answer_text request_from request_of body_text line_of form_text forms_text book_forms book_text text_room write_call serve_lines parted session_program
session_editions = record { tagged = refl; ones = refl; written = refl; out_of_range_lem = refl; no_edition = refl; call_tagged = refl }
