-- Opening a QDIMACS text, to what our own text would open. Paper 02, wish 1.
use Rattle.std.specs.Prelude.{ℕ, zero, suc, Bool, cond, not, ◌||◌, List, [], ◌∷◌, ◌++◌, map, length, ltb, eqb}
use Rattle.std.proofs.Math.Option.{Option, none, some}
use Rattle.qbf.specs.Formula.{Limits, most_free, Quantifier, free, Prefix, Formula, place_of}
use Rattle.qbf.specs.Truth.{free_variables}
use Rattle.qbf.specs.Calls.{given, rule_fault, with_rule, ◌or_else◌}
use Rattle.layout.specs.Words.{Bytes, newline, split}
use Rattle.layout.specs.Opening.{text_bytes, variable, with_block, Opened, refused, opened, refused_or, empty_formula}
use Rattle.qdimacs_form.specs.Lines.{Line, comment, header, group, clause, line_of}

-- ---- flags
-- "Variables up to the header's count that stand in no quantifier line become flags, in rising number"
abbrev pub flags_up_to : Prefix → ℕ → List ℕ
flags_up_to D zero = []
flags_up_to D (suc v) = flags_up_to D v ++ cond (eqb (place_of D (suc v)) 0) (suc v ∷ []) []

abbrev pub flag_variables : Prefix → ℕ → Prefix
flag_variables D v = map (variable free) (flags_up_to D v)

-- the flags stand before the groups, though they are found after them
abbrev pub completed : ℕ → Formula → Formula
completed v b = record { limits = b.limits; prefix = flag_variables b.prefix v ++ b.prefix; clauses = b.clauses }

-- ---- what a line says
-- What is read: at stage 0 nothing, at 1 the header and the groups of the formula, from the first clause on, at 2, a completed formula.
pub record Reading : Type 0 where
  pub stage : ℕ
  pub variables : ℕ
  pub clauses : ℕ
  pub formula : Formula

-- "The book's limits and numbers apply: .. a variable above the count 5": each number of a quantifier line 3, 5, 4
abbrev pub group_fault : Limits → ℕ → Quantifier → Prefix → List ℕ → Option ℕ
group_fault L v κ D [] = none
group_fault L v κ D (n ∷ ns) =
    given (eqb n 0 || ltb L.numbers n) 3
    or_else given (ltb v n) 5
    or_else given (not (eqb (place_of D n) 0)) 4
    or_else group_fault L v κ (D ++ (variable κ n ∷ [])) ns

-- the formula that a clause is judged and added on
abbrev pub whole : Reading → Formula
whole r = cond (eqb r.stage 1) (completed r.variables r.formula) r.formula

-- "a header count above 40 is 3", "a line outside the form 1": the header first and once, no group after a clause
abbrev pub line_fault : Reading → Line → Option ℕ
line_fault r comment = none
line_fault r (header v c) = given (not (eqb r.stage 0)) 1 or_else given (ltb r.formula.limits.numbers v) 3
line_fault r (group κ ns) = given (not (eqb r.stage 1)) 1 or_else group_fault r.formula.limits r.variables κ r.formula.prefix ns
line_fault r (clause ls) = given (eqb r.stage 0) 1 or_else rule_fault (whole r) ls

-- after a line without a fault
abbrev pub after : Reading → Line → Reading
after r comment = r
after r (header v c) = record { stage = 1; variables = v; clauses = c; formula = r.formula }
after r (group κ ns) = record { stage = 1; variables = r.variables; clauses = r.clauses; formula = with_block κ r.formula ns }
after r (clause ls) = record { stage = 2; variables = r.variables; clauses = r.clauses; formula = with_rule none (whole r) ls }

-- ---- the text
abbrev pub read_line : ℕ → Reading → Option Line → (Reading → Opened) → Opened
read_line n r none go = refused 1 n
read_line n r (some f) go = refused_or n (line_fault r f) (go (after r f))

-- "flags stay at most 40": there are more of them
abbrev pub crowded : Reading → Bool
crowded r = ltb most_free (free_variables (whole r).prefix)

-- "A clause count that differs from the header is 30, given at the end of the text, as a missing line is"; so is a missing header. "Declaring a 41st flag is
-- 33, checked .. (in QDIMACS at the end of the text, before 30)"
abbrev pub end_fault : Reading → Option ℕ
end_fault r = given (eqb r.stage 0) 1 or_else given (crowded r) 33 or_else given (not (eqb (length r.formula.clauses) r.clauses)) 30

abbrev pub at_end : ℕ → Reading → Opened
at_end n r = refused_or n (end_fault r) (opened (whole r))

-- The lines from number n on; after the last byte 10 nothing stands.
unfoldable pub read_lines : ℕ → Reading → List Bytes → Opened
read_lines n r [] = refused 1 n
read_lines n r ([] ∷ []) = at_end n r
read_lines n r ((b ∷ l) ∷ []) = refused 1 n
read_lines n r (l ∷ m ∷ ls) = read_line n r (line_of l) (λ r'. read_lines (suc n) r' (m ∷ ls))

abbrev pub start : Limits → Reading
start L = record { stage = 0; variables = 0; clauses = 0; formula = empty_formula L }

-- a reader without 9
unfoldable pub read_qdimacs : Limits → Bytes → Opened
read_qdimacs L s = read_lines 1 (start L) (split newline s)

unfoldable pub open_qdimacs : Limits → Bytes → Opened
open_qdimacs L s = cond (ltb text_bytes (length s)) (refused 9 0) (read_qdimacs L s)
