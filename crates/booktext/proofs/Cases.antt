-- Texts of books, and the call, by computation.
use mathlib.Core.Path.{◌≡◌, refl}
use mathlib.Core.List.{List, [], ◌∷◌, ◌++◌}
use lib.IntN.{pos, negsuc}
use lib.ListN.{replicate}
use Rattle.qbf.specs.Formula.{free, exists, forall, Prefix, Clause, Formula, paper}
use Rattle.qbf.specs.Calls.{State}
use Rattle.qbf.specs.Runs.{fresh}
use Rattle.layout.specs.Words.{ascii}
use Rattle.layout.specs.Opening.{variable}
use Rattle.layout.specs.Output.{last_digits, decimal, literal_text, items_text}
use Rattle.booktext.specs.Texts.{body_text, line_of, form_text, forms_text}
use Rattle.booktext.specs.Books.{book_forms, book_text, Written, written, write_refused, write_call}

abbrev formula : Prefix → List Clause → Formula
formula D R = record { limits = paper; prefix = D; clauses = R }

abbrev book_a : Formula
book_a =
    formula (variable free 1 ∷ variable free 2 ∷ variable exists 3 ∷ variable forall 4 ∷ [])
    ((negsuc 0 ∷ pos 3 ∷ pos 4 ∷ []) ∷ (pos 2 ∷ negsuc 2 ∷ negsuc 3 ∷ []) ∷ (pos 1 ∷ pos 2 ∷ []) ∷ [])

-- "Literals stand in place order"
text_A : book_text book_a ≡ ascii "(book 1)\n(flags 1 2)\n(exists 3)\n(forall 4)\n(rule (no 1) 3 4)\n(rule 2 (no 3) (no 4))\n(rule 1 2)\n(end)\n"
unfolding book_text book_forms forms_text form_text line_of body_text items_text literal_text decimal last_digits
text_A = refl

-- "neighbouring groups of one kind become one line"
abbrev grouped : Formula
grouped = formula (variable exists 40 ∷ variable exists 2 ∷ variable forall 1 ∷ variable exists 3 ∷ []) []

text_groups : book_text grouped ≡ ascii "(book 1)\n(flags)\n(exists 40 2)\n(forall 1)\n(exists 3)\n(end)\n"
unfolding book_text book_forms forms_text form_text line_of body_text items_text literal_text decimal last_digits
text_groups = refl

-- ---- the call: the smallest book has 23 bytes
abbrev smallest : Formula
smallest = formula [] []

abbrev malformed : State
malformed = fresh (formula (variable exists 41 ∷ []) [])

-- one line for each: a table of 22 bytes, of 23, of 25, and a malformed state
abbrev results : List Written
results = write_call 22 (fresh smallest) ∷ write_call 23 (fresh smallest) ∷ write_call 25 (fresh smallest) ∷ write_call 4 malformed ∷ []

abbrev expected : List Written
expected =
    write_refused 31 (replicate 22 0)
    ∷ written 23 (ascii "(book 1)\n(flags)\n(end)\n")
    ∷ written 23 (ascii "(book 1)\n(flags)\n(end)\n" ++ (0 ∷ 0 ∷ []))
    ∷ write_refused 22 (0 ∷ 0 ∷ 0 ∷ 0 ∷ [])
    ∷ []

call_rows : results ≡ expected
unfolding write_call book_text book_forms forms_text form_text line_of body_text items_text literal_text decimal last_digits
call_rows = refl
