-- A book written back as text. Paper 02, wish 2.
use Rattle.std.specs.Prelude.{ℕ, ◌+◌, ◌*◌, ◌-◌, Bool, true, false, cond, List, [], ◌∷◌, ◌++◌, map, length, replicate, leb}
use Rattle.qbf.specs.Formula.{Limits, Quantifier, free, Variable, Prefix, Clause, Formula, same_quantifier}
use Rattle.qbf.specs.Card.{zero_table}
use Rattle.qbf.specs.Calls.{State, well_formed}
use Rattle.layout.specs.Words.{Bytes, ascii}
use Rattle.layout.specs.Forms.{Form, book, block, clause, end}
use Rattle.layout.specs.Output.{decimal, items_text}
use Rattle.booktext.specs.Texts.{block_word, forms_text}

-- "neighbouring groups of one kind become one line": the lines of the variables from here on, after those on the line that stands open
abbrev pub blocks_from : Quantifier → List ℕ → Prefix → List Form
blocks_from κ ns [] = block κ ns ∷ []
blocks_from κ ns (d ∷ D) =
    cond (same_quantifier κ d.quantifier) (blocks_from κ (ns ++ (d.number ∷ [])) D) (block κ ns ∷ blocks_from d.quantifier (d.number ∷ []) D)

-- the flags' line always stands, as `(flags)` where there is none
abbrev pub blocks : Prefix → List Form
blocks D = blocks_from free [] D

-- "rules in the order of adding", each with its "literals in place order", as it is held
abbrev pub rule_forms : List Clause → List Form
rule_forms R = map clause R

-- always edition 1
unfoldable pub book_forms : Formula → List Form
book_forms b = book 1 ∷ (blocks b.prefix ++ (rule_forms b.clauses ++ (end ∷ [])))

-- "Write a book as text."
unfoldable pub book_text : Formula → Bytes
book_text b = forms_text (book_forms b)

-- ---- the same text as it is written, byte after byte (`written_as` in booktext_laws)
-- the end of a line, and the word of the next
unfoldable pub heading_text : Quantifier → Bytes
heading_text κ = ascii ")\n(" ++ block_word κ

-- a variable where a line of the kind κ stands open: on that line, or on one of its own kind
unfoldable pub variable_text : Quantifier → Variable → Bytes
variable_text κ d =
    cond (same_quantifier κ d.quantifier) (ascii " " ++ decimal d.number) (heading_text d.quantifier ++ (ascii " " ++ decimal d.number))

-- the variables from here on, one place after the other
unfoldable pub rest_text : Quantifier → Prefix → Bytes
rest_text κ [] = ascii ")\n"
rest_text κ (d ∷ D) = variable_text κ d ++ rest_text d.quantifier D

unfoldable pub rule_text : Clause → Bytes
rule_text r = ascii "(rule" ++ items_text r ++ ascii ")\n"

unfoldable pub rules_text : List Clause → Bytes
rules_text [] = []
rules_text (r ∷ R) = rule_text r ++ rules_text R

unfoldable pub written_text : Formula → Bytes
written_text b = ascii "(book 1)\n(flags" ++ (rest_text free b.prefix ++ (rules_text b.clauses ++ ascii "(end)\n"))

-- ---- the call
-- "It returns the length and zeroes the bytes after the text. A table too short is 31, after 22, and zeroed."
pub data Written : Type 0 where
  written : ℕ → Bytes → Written
  write_refused : ℕ → Bytes → Written

abbrev pub written_to : ℕ → Bytes → Written
written_to size t = cond (leb (length t) size) (written (length t) (t ++ replicate (size - length t) 0)) (write_refused 31 (zero_table size))

abbrev pub write_guarded : Bool → ℕ → Formula → Written
write_guarded true size b = written_to size (book_text b)
write_guarded false size b = write_refused 22 (zero_table size)

-- the state stays as it is
unfoldable pub write_call : ℕ → State → Written
write_call size x = write_guarded (well_formed x) size x.formula

-- ---- how long a text may be
-- a table of so many bytes holds the text of every book under these limits (`text_room_lem` in booktext_laws)
unfoldable pub text_room : Limits → ℕ
text_room L =
    let digits = length (decimal L.numbers) in
    23 + L.numbers * (10 + digits) + L.clauses * (7 + L.literals * (6 + digits))
