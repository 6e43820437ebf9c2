-- Opening a text: the order of its lines, what each does, and every refusal with its line. Paper 01, "Refusals from the input",
-- "Refusals from the state" and "Text and program".
use Rattle.std.specs.Prelude.{ℕ, suc, Bool, cond, not, ◌&&◌, ◌||◌, List, [], ◌∷◌, ◌++◌, map, length, leb, ltb, eqb}
use Rattle.std.proofs.Math.Option.{Option, none, some}
use Rattle.qbf.specs.Formula.{Limits, most_free, Quantifier, free, exists, forall, is_free, Variable, Prefix, Formula, place_of}
use Rattle.qbf.specs.Truth.{free_variables}
use Rattle.qbf.specs.Calls.{given, rule_fault, with_rule, limits_are_ok, ◌or_else◌}
use Rattle.layout.specs.Words.{Bytes, newline, split}
use Rattle.layout.specs.Forms.{Form, book, block, clause, end, form_of}

-- the limits under which a text in QDIMACS is opened: as a state's, and so few numbers that no text can have more flags than there may be
abbrev pub opening_ok : Limits → Bool
opening_ok L = limits_are_ok L && leb L.numbers most_free

-- "text over 65,536 bytes"
abbrev pub text_bytes : ℕ
text_bytes = 65536

-- ---- the order of the lines
-- "In order: `(book 1)`, `(flags ..)`, any `(exists ..)` or `(forall ..)`, rules, `(end)`"
abbrev pub rank : Form → ℕ
rank (book e) = 0
rank (block free ns) = 1
rank (block exists ns) = 2
rank (block forall ns) = 2
rank (clause ls) = 3
rank end = 4

-- The stage of a text is the rank that its next line must have, where that is the book's or the flags' (each stands once); then the least
-- rank that it may have.
abbrev pub allowed : ℕ → ℕ → Bool
allowed stage r = cond (ltb stage 2) (eqb r stage) (leb stage r)

abbrev pub stage_after : ℕ → ℕ
stage_after r = cond (ltb r 2) (suc r) r

-- ---- what a line says
abbrev pub variable : Quantifier → ℕ → Variable
variable κ n = record { number = n; quantifier = κ }

-- "flags stay at most 40": there are as many as there may be, and one more is to be declared
abbrev pub crowded : Quantifier → Prefix → Bool
crowded κ D = is_free κ && leb most_free (free_variables D)

-- "3 number not 1 to 40" or to the own limit, "4 declared twice", "Declaring a 41st flag is 33, checked after 4": from the left, the first fault among the
-- numbers that a block declares
abbrev pub declare_fault : Limits → Quantifier → Prefix → List ℕ → Option ℕ
declare_fault L κ D [] = none
declare_fault L κ D (n ∷ ns) =
    given (eqb n 0 || ltb L.numbers n) 3
    or_else given (not (eqb (place_of D n) 0)) 4
    or_else given (crowded κ D) 33
    or_else declare_fault L κ (D ++ (variable κ n ∷ [])) ns

abbrev pub with_block : Quantifier → Formula → List ℕ → Formula
with_block κ b ns = record { limits = b.limits; prefix = b.prefix ++ map (variable κ) ns; clauses = b.clauses }

-- "2 edition not 1", then "as the calls"
abbrev pub form_fault : Formula → Form → Option ℕ
form_fault b (book e) = given (not (eqb e 1)) 2
form_fault b (block κ ns) = declare_fault b.limits κ b.prefix ns
form_fault b (clause ls) = rule_fault b ls
form_fault b end = none

-- "line by line 1, 2, then as the calls": a form at a place where it may not stand is not in the layout
abbrev pub line_fault : ℕ → Formula → Form → Option ℕ
line_fault stage b f = given (not (allowed stage (rank f))) 1 or_else form_fault b f

-- the formula after a line without a fault
abbrev pub with_form : Formula → Form → Formula
with_form b (book e) = b
with_form b (block κ ns) = with_block κ b ns
with_form b (clause ls) = with_rule none b ls
with_form b end = b

-- ---- the text
-- a refusal has its number and its line
pub data Opened : Type 0 where
  refused : ℕ → ℕ → Opened
  opened : Formula → Opened

abbrev pub refused_or : ℕ → Option ℕ → Opened → Opened
refused_or n none o = o
refused_or n (some k) o = refused k n

-- line n by its form, and then what the lines after it give
abbrev pub read_line : ℕ → ℕ → Formula → Option Form → (Form → Formula → Opened) → Opened
read_line n stage b none go = refused 1 n
read_line n stage b (some f) go = refused_or n (line_fault stage b f) (go f (with_form b f))

-- "`(end)`, nothing after": the piece after the last byte 10 is the only one, and empty
abbrev pub at_end : ℕ → Formula → List Bytes → Opened
at_end n b [] = refused 1 n
at_end n b ([] ∷ []) = opened b
at_end n b ([] ∷ l ∷ ls) = refused 1 n
at_end n b ((c ∷ l) ∷ ls) = refused 1 n

abbrev pub is_end : Form → Bool
is_end f = eqb (rank f) 4

-- The lines from number n on. "each line ended by byte 10": the last piece is no line. "a missing line is the one after the last".
unfoldable pub read_lines : ℕ → ℕ → Formula → List Bytes → Opened
read_lines n stage b [] = refused 1 n
read_lines n stage b (l ∷ []) = refused 1 n
read_lines n stage b (l ∷ m ∷ ls) =
    read_line n stage b (form_of l)
    (λ f b'. cond (is_end f) (at_end (suc n) b' (m ∷ ls)) (read_lines (suc n) (stage_after (rank f)) b' (m ∷ ls)))

abbrev pub empty_formula : Limits → Formula
empty_formula L = record { limits = L; prefix = []; clauses = [] }

-- "text 9, then line by line"; "number and text line from 1 (0 for 9)"
unfoldable pub open_text : Limits → Bytes → Opened
open_text L s = cond (ltb text_bytes (length s)) (refused 9 0) (read_lines 1 0 (empty_formula L) (split newline s))
