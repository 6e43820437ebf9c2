-- No refusal of a text has the number 0, so that a number tells whether the text opens: what the editions share.
use Prim.Native.Nat.{ℕ, zero, suc, ◌<◌}
use native.Mathlib.Omega.{arith}
use native.Mathlib.Decide.{dec_lt}
use mathlib.Core.Path.{◌≡◌, refl, sym, subst, ◌∙◌}
use mathlib.Core.Logic.{◌⊎◌, inl, inr}
use mathlib.Core.Bool.{Bool, true, false, cond, not, ◌||◌}
use mathlib.Core.List.{List, [], ◌∷◌, ◌++◌}
use mathlib.Core.Option.{Option, none, some}
use lib.IntN.{ℤ}
use lib.ListN.{length}
use lib.Dec.{eqb, ltb}
use Rattle.std.specs.Prelude.{Result, Ok, Err}
use Rattle.qbf.specs.Formula.{Limits, Quantifier, Prefix, Formula, place_of}
use Rattle.qbf.specs.Calls.{given}
use Rattle.layout.specs.Words.{Bytes, newline, split}
use Rattle.layout.specs.Forms.{Form, book, block, clause, end, form_of}
use Rattle.layout.specs.Opening.{rank, allowed, stage_after, variable, crowded, declare_fault, form_fault, line_fault, with_form, Opened, refused, opened, refused_or, read_line, at_end, is_end, read_lines, empty_formula, open_text, text_bytes}
use Rattle.serving.proofs.Numbered.{Numbered}
use Rattle.state_parts.specs.Parts.{cell_count, literal_count, Whole}
use Rattle.opening.specs.declared.text.RefusedAt.{RefusedAt}
use Rattle.opening.specs.Opened.{AnsweredAt, OpenedAt}
use Rattle.opening.proofs.Numbered.{numbered_given, rule_numbered}

pub declare_numbered : (L : Limits) (κ : Quantifier) (D : Prefix) (ns : List ℕ) → Numbered (declare_fault L κ D ns)
declare_numbered L κ D [] = tt
declare_numbered L κ D (n ∷ ns) =
    numbered_given (eqb n 0 || ltb L.numbers n) 2 _
    (numbered_given (not (eqb (place_of D n) 0)) 3 _ (numbered_given (crowded κ D) 32 _ (declare_numbered L κ (D ++ (variable κ n ∷ [])) ns)))

pub edition_given : (t : Bool) → Numbered (given t 2)
edition_given true = tt
edition_given false = tt

abbrev pub NumberedText : Opened → Type 0
NumberedText (refused zero k) = ⊥
NumberedText (refused (suc n) k) = Unit {0}
NumberedText (opened b) = Unit {0}

pub fault_numbered : (n : ℕ) (f : Option ℕ) (o : Opened) → Numbered f → NumberedText o → NumberedText (refused_or n f o)
fault_numbered n none o h i = i
fault_numbered n (some zero) o h i = absurd h
fault_numbered n (some (suc k)) o h i = tt

pub end_numbered : (n : ℕ) (b : Formula) (ls : List Bytes) → NumberedText (at_end n b ls)
end_numbered n b [] = tt
end_numbered n b ([] ∷ []) = tt
end_numbered n b ([] ∷ l ∷ ls) = tt
end_numbered n b ((c ∷ l) ∷ ls) = tt

-- ---- a text of edition 1
form_numbered : (b : Formula) (f : Form) → Numbered (form_fault b f)
form_numbered b (book e) = edition_given (not (eqb e 1))
form_numbered b (block κ ns) = declare_numbered b.limits κ b.prefix ns
form_numbered b (clause ls) = rule_numbered b ls
form_numbered b end = tt

lines_numbered : (n stage : ℕ) (b : Formula) (ls : List Bytes) → NumberedText (read_lines n stage b ls)
unfolding read_lines
lines_numbered n stage b [] = tt
lines_numbered n stage b (l ∷ []) = tt
lines_numbered n stage b (l ∷ m ∷ ls) = by (form_of l) (λ s x. lines_numbered (suc n) s x (m ∷ ls))
  where
    Next : Type 0
    Next = (s : ℕ) (x : Formula) → NumberedText (read_lines (suc n) s x (m ∷ ls))

    onward : Form → Formula → Opened
    onward f x = cond (is_end f) (at_end (suc n) x (m ∷ ls)) (read_lines (suc n) (stage_after (rank f)) x (m ∷ ls))

    last : (f : Form) (t : Bool) → Next → NumberedText (cond t (at_end (suc n) (with_form b f) (m ∷ ls)) (read_lines (suc n) (stage_after (rank f)) (with_form b f) (m ∷ ls)))
    last f true ih = end_numbered (suc n) (with_form b f) (m ∷ ls)
    last f false ih = ih (stage_after (rank f)) (with_form b f)

    by : (o : Option Form) → Next → NumberedText (read_line n stage b o onward)
    by none ih = tt
    by (some f) ih = fault_numbered n (line_fault stage b f) (onward f (with_form b f)) (numbered_given (not (allowed stage (rank f))) 0 _ (form_numbered b f)) (last f (is_end f) ih)

pub text_numbered : (L : Limits) (s : Bytes) → NumberedText (open_text L s)
unfolding open_text
text_numbered L s = by (ltb text_bytes (length s))
  where
    by : (t : Bool) → NumberedText (cond t (refused 9 0) (read_lines 1 0 (empty_formula L) (split newline s)))
    by true = tt
    by false = lines_numbered 1 0 (empty_formula L) (split newline s)

-- ---- what is not refused is an opened text, onto tables that hold every part
pub whole_or : (L : Limits) (cells : List ℕ) (literals : List ℤ) → Whole L cells literals ⊎ (Whole L cells literals → ⊥)
whole_or L cells literals = by (dec_lt (length cells) (cell_count L)) (dec_lt (length literals) (literal_count L))
  where
    by : Dec (length cells < cell_count L) → Dec (length literals < literal_count L) → Whole L cells literals ⊎ (Whole L cells literals → ⊥)
    by (yes p) q = inr (λ w. omega (arith, p, w.cells_room))
    by (no p) (yes q) = inr (λ w. omega (arith, q, w.literals_room))
    by (no p) (no q) = inl (record { cells_room = omega (arith, p); literals_room = omega (arith, q) })

-- whatever reads it
pub result_apart : {L : Limits} (o : Opened) {r : Result (Unit {0}) RefusedAt} {cells cells' : List ℕ} {literals literals' : List ℤ} → OpenedAt L o cells literals r cells' literals' → r ≡ Ok tt → (b : Formula) × (o ≡ opened b) × Whole L cells literals
result_apart {L} o {r} {cells} {cells'} {literals} {literals'} told e = by (whole_or L cells literals)
  where
    -- a result without a refusal
    Fine : Result (Unit {0}) RefusedAt → Type 0
    Fine (Ok u) = Unit {0}
    Fine (Err q) = ⊥

    of : Whole L cells literals → (x : Opened) → o ≡ x → AnsweredAt x (Ok tt) cells' literals' → (b : Formula) × (o ≡ opened b) × Whole L cells literals
    of w (refused n k) i t = absurd t
    of w (opened b) i t = (b, i, w)

    by : Whole L cells literals ⊎ (Whole L cells literals → ⊥) → (b : Formula) × (o ≡ opened b) × Whole L cells literals
    by (inl w) = of w o refl (subst (λ (q : Result (Unit {0}) RefusedAt). AnsweredAt o q cells' literals') e (told.whole w))
    by (inr n) = absurd (subst Fine (sym e ∙ (told.short n).0) tt)

-- so the reader of edition 1 alone
pub text_apart : (L : Limits) (s : Bytes) {r : Result (Unit {0}) RefusedAt} {cells cells' : List ℕ} {literals literals' : List ℤ} → OpenedAt L (open_text L s) cells literals r cells' literals' → r ≡ Ok tt
    → (b : Formula) × (open_text L s ≡ opened b) × Whole L cells literals
text_apart L s = result_apart (open_text L s)
