-- The text of a form, the inverse of reading a line. Paper 01, "Text and program": one form a line, one space between items.
use Rattle.std.specs.Prelude.{ℕ, suc, cond, List, [], ◌∷◌, ◌++◌, map, pos}
use Rattle.std.proofs.Math.Option.{some}
use Rattle.qbf.specs.Formula.{Limits, Quantifier, free, exists, forall, Formula}
use Rattle.layout.specs.Words.{Bytes, newline, opening, closing, split}
use Rattle.layout.specs.Forms.{Form, book, block, clause, end, book_word, flags_word, exists_word, forall_word, rule_word, end_word}
use Rattle.layout.specs.Opening.{Opened, refused, opened, read_line, is_end, stage_after, rank, read_lines, empty_formula}
use Rattle.layout.specs.Output.{items_text}

-- ---- the text of forms
abbrev pub block_word : Quantifier → Bytes
block_word free = flags_word
block_word exists = exists_word
block_word forall = forall_word

-- a keyword and its items, each after one space
unfoldable pub body_text : Form → Bytes
body_text (book e) = book_word ++ items_text (pos e ∷ [])
body_text (block κ ns) = block_word κ ++ items_text (map pos ns)
body_text (clause ls) = rule_word ++ items_text ls
body_text end = end_word

-- a line without its byte 10
unfoldable pub line_of : Form → Bytes
line_of f = opening ∷ (body_text f ++ (closing ∷ []))

-- "each line ended by byte 10"
unfoldable pub form_text : Form → Bytes
form_text f = line_of f ++ (newline ∷ [])

unfoldable pub forms_text : List Form → Bytes
forms_text [] = []
forms_text (f ∷ fs) = form_text f ++ forms_text fs

-- ---- reading without a bound on the bytes
-- "A reader without 9": the lines of a text of any length
unfoldable pub read_text : Limits → Bytes → Opened
read_text L s = read_lines 1 0 (empty_formula L) (split newline s)

-- the same of forms, each on a line of its own
abbrev pub at_end_forms : ℕ → Formula → List Form → Opened
at_end_forms n b [] = opened b
at_end_forms n b (f ∷ fs) = refused 1 n

unfoldable pub read_forms : ℕ → ℕ → Formula → List Form → Opened
read_forms n stage b [] = refused 1 n
read_forms n stage b (f ∷ fs) = read_line n stage b (some f) (λ g b'. cond (is_end g) (at_end_forms (suc n) b' fs) (read_forms (suc n) (stage_after (rank g)) b' fs))
