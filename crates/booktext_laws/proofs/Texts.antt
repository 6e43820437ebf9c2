-- A text of forms is read form by form.
use Prim.Native.Nat.{ℕ, suc, ◌≤◌}
use mathlib.Core.Path.{◌≡◌, refl, sym, ap, ◌∙◌}
use mathlib.Core.Bool.{false}
use mathlib.Core.List.{List, [], ◌∷◌, ◌++◌, append_assoc}
use mathlib.Core.Option.{none}
use borrow.Author.Tests.{le-ltb}
use lib.ListN.{length}
use Rattle.qbf.specs.Formula.{Limits, Formula}
use Rattle.layout.specs.Words.{Bytes, newline, split}
use Rattle.layout.specs.Forms.{Form}
use Rattle.layout.specs.Opening.{text_bytes, rank, stage_after, line_fault, with_form, is_end, read_lines, open_text}
use Rattle.booktext.specs.Texts.{line_of, form_text, forms_text, read_text, read_forms}
use Rattle.booktext_laws.proofs.Lines.{split_first, Legible, line_back, line_newline}

abbrev pub AllLegible : List Form → Type 0
AllLegible [] = Unit {0}
AllLegible (f ∷ fs) = Legible f × AllLegible fs

pub legible_append : (fs gs : List Form) → AllLegible fs → AllLegible gs → AllLegible (fs ++ gs)
legible_append [] gs h g = g
legible_append (f ∷ fs) gs h g = (h.0, legible_append fs gs h.1 g)

-- the lines of a text of forms; the last piece is empty
abbrev pub lines_of : List Form → List Bytes
lines_of [] = [] ∷ []
lines_of (f ∷ fs) = line_of f ∷ lines_of fs

pub forms_lines : (fs : List Form) → split newline (forms_text fs) ≡ lines_of fs
unfolding forms_text form_text split
forms_lines [] = refl
forms_lines (f ∷ fs) = ap (split newline) (append_assoc (line_of f) (newline ∷ []) (forms_text fs)) ∙ split_first newline (line_of f) (forms_text fs) (line_newline f) ∙ ap (λ (l : List Bytes). line_of f ∷ l) (forms_lines fs)

pub forms_append : (fs gs : List Form) → forms_text (fs ++ gs) ≡ forms_text fs ++ forms_text gs
unfolding forms_text
forms_append [] gs = refl
forms_append (f ∷ fs) gs = ap (λ (t : Bytes). form_text f ++ t) (forms_append fs gs) ∙ sym (append_assoc (form_text f) (forms_text fs) (forms_text gs))

lines_read : (n stage : ℕ) (b : Formula) (fs : List Form) → AllLegible fs → read_lines n stage b (lines_of fs) ≡ read_forms n stage b fs
unfolding read_lines read_forms line_of
lines_read n stage b [] h = refl
lines_read n stage b (f ∷ []) h = rw (line_back f h.0) refl
lines_read n stage b (f ∷ g ∷ gs) h = rw (line_back f h.0, lines_read (suc n) (stage_after (rank f)) (with_form b f) (g ∷ gs) h.1) refl

-- each form of a text is read as it was written
pub forms_read : (n stage : ℕ) (b : Formula) (fs : List Form) → AllLegible fs → read_lines n stage b (split newline (forms_text fs)) ≡ read_forms n stage b fs
forms_read n stage b fs h = ap (read_lines n stage b) (forms_lines fs) ∙ lines_read n stage b fs h

-- a line without a fault, and the end
pub form_read : (n stage : ℕ) (b : Formula) (f : Form) (fs : List Form) → line_fault stage b f ≡ none → is_end f ≡ false → read_forms n stage b (f ∷ fs) ≡ read_forms (suc n) (stage_after (rank f)) (with_form b f) fs
unfolding read_forms
form_read n stage b f fs q e = rw (q, e)

-- ---- the bound on the bytes
pub text_fits : (L : Limits) (s : Bytes) → length s ≤ text_bytes → open_text L s ≡ read_text L s
unfolding open_text read_text
text_fits L s h = rw (le-ltb text_bytes (length s) h)
