-- WISH 1: "Read that form and give the same book that our own text would give."
use Prim.Native.Nat.{ℕ, zero, suc, ◌≤◌, ◌<◌}
use mathlib.Core.Path.{◌≡◌, refl, sym, ap, ◌∙◌}
use mathlib.Core.Logic.{◌↔◌}
use mathlib.Core.Bool.{Bool, true, false, cond}
use mathlib.Core.List.{List, [], ◌∷◌, ◌++◌, map, append-nil}
use mathlib.Core.Option.{some}
use native.Mathlib.Omega.{arith}
use lib.IntN.{pos}
use lib.ListN.{length}
use lib.Dec.{eqb, leb, ltb}
use borrow.Author.Tests.{leb-true}
use Rattle.qbf.specs.Formula.{Limits, most_free, free, Prefix, Formula, place_of}
use Rattle.qbf.specs.Calls.{limits_are_ok, formula_is_ok, well_formed}
use Rattle.qbf.specs.Truth.{free_variables}
use Rattle.theory.proofs.Basics.{and_left, and_right}
use Rattle.qbf.specs.Runs.{fresh}
use Rattle.theory.proofs.WellFormed.{FormulaFacts, facts_formula}
use Rattle.layout.specs.Words.{Bytes, newline, split}
use Rattle.layout.specs.Forms.{end}
use Rattle.layout.specs.Opening.{text_bytes, declare_fault, Opened, refused, opened, empty_formula, open_text, opening_ok}
use Rattle.layout_laws.proofs.Blocks.{block_free}
use Rattle.layout_laws.proofs.Opened.{lines_facts, reached_none, fresh_formed, went}
use Rattle.booktext.specs.Texts.{forms_text, read_forms, read_text}
use Rattle.booktext.specs.Books.{text_room}
use Rattle.booktext_laws.proofs.Lines.{Short}
use Rattle.booktext_laws.proofs.Texts.{AllLegible, legible_append, forms_read, text_fits}
use Rattle.qdimacs_form.specs.Lines.{Line, comment, header, group, clause}
use Rattle.qdimacs_form.specs.Opening.{flags_up_to, flag_variables, start, read_qdimacs, open_qdimacs}
use Rattle.qdimacs_form.specs.Translation.{parsed, count_of, quantified, forms_of, translated, unnumbered, Plain}
use Rattle.qdimacs_laws.proofs.Translated.{AllSpoken, read_parsed, FewFlags, plain_forms}
use Rattle.qdimacs_laws.proofs.Spoken.{parsed_spoken}
use Rattle.qdimacs_laws.proofs.Plain.{opened_parsed, parsed_read, opened_plain, flags_first, opened_few}
use Rattle.qdimacs_laws.proofs.Room.{forms_room}

-- ---- the translated text can be written
forms_legible : (ls : List Line) → AllSpoken ls → AllLegible (forms_of ls)
forms_legible [] h = tt
forms_legible (comment ∷ ls) h = forms_legible ls h.1
forms_legible (header v c ∷ ls) h = forms_legible ls h.1
forms_legible (group κ ns ∷ ls) h = (h.0.1, forms_legible ls h.1)
forms_legible (clause l ∷ ls) h = (h.0, forms_legible ls h.1)

count_short : (ls : List Line) → AllSpoken ls → count_of ls < 100000
count_short [] h = omega arith
count_short (comment ∷ ls) h = count_short ls h.1
count_short (header v c ∷ ls) h = h.0
count_short (group κ ns ∷ ls) h = count_short ls h.1
count_short (clause l ∷ ls) h = count_short ls h.1

short_append : (xs ys : List ℕ) → Short (map pos xs) → Short (map pos ys) → Short (map pos (xs ++ ys))
short_append [] ys h g = g
short_append (x ∷ xs) ys h g = (h.0, short_append xs ys h.1 g)

flags_short : (D : Prefix) (v : ℕ) → v < 100000 → Short (map pos (flags_up_to D v))
flags_short D zero h = tt
flags_short D (suc v) h = short_append (flags_up_to D v) (cond (eqb (place_of D (suc v)) 0) (suc v ∷ []) []) (flags_short D v (omega (arith, h))) (last (eqb (place_of D (suc v)) 0))
  where
    last : (t : Bool) → Short (map pos (cond t (suc v ∷ []) []))
    last true = (h, tt)
    last false = tt

translated_legible : (ls : List Line) → AllSpoken ls → AllLegible (translated ls)
unfolding translated
translated_legible ls h = (omega arith, (flags_short (quantified ls) (count_of ls) (count_short ls h), legible_append (forms_of ls) (end ∷ []) (forms_legible ls h) (tt, tt)))

-- ---- the same result
-- Where the lines are in the form and in order, the header's counts hold and there are at most 40 flags, the two readers agree, refusals included. Under limits
-- of at most 40 numbers there are never more flags (`few_under`). A flag too many is 33 in both, but here at the end, behind what a rule is refused for.
pub same_result : (L : Limits) (s : Bytes) (ls : List Line) → parsed (split newline s) ≡ some ls → Plain L ls → FewFlags ls → unnumbered (read_qdimacs L s) ≡ unnumbered (read_text L (forms_text (translated ls)))
unfolding read_qdimacs read_text
same_result L s ls e p most =
    let sp = parsed_spoken (split newline s) ls e in
    ap unnumbered (parsed_read 1 (start L) (split newline s) ls e) ∙ plain_forms L 1 ls sp p most ∙ ap unnumbered (sym (forms_read 1 0 (empty_formula L) (translated ls) (translated_legible ls sp)))

opened_alone : (o : Opened) (b : Formula) → unnumbered o ≡ opened b → o ≡ opened b
opened_alone (refused k n) b e = absurd (let z : ◌≡◌ {A = ℕ} 0 1 = cc in omega arith)
opened_alone (opened c) b e = e

-- our own text opens with no more flags than there may be
own_few : (L : Limits) (ls : List Line) (b : Formula) → read_forms 1 0 (empty_formula L) (translated ls) ≡ opened b → FewFlags ls
unfolding read_forms translated
own_few L ls b e =
    omega (
      arith,
      leb-true (free_variables (flag_variables (quantified ls) (count_of ls))) most_free
          (block_free L free [] (flags_up_to (quantified ls) (count_of ls)) refl (went 2 (declare_fault L free [] (flags_up_to (quantified ls) (count_of ls))) _ b e).0),
      flags_first b (flags_up_to (quantified ls) (count_of ls)) [],
      ap free_variables (append-nil (flag_variables (quantified ls) (count_of ls))),
    )

-- Under any limits one opens where the other does, to the same formula: the two differ in the number of a refusal only, where there are too many flags.
pub same_opening : (L : Limits) (s : Bytes) (ls : List Line) → parsed (split newline s) ≡ some ls → Plain L ls → (b : Formula) → (read_qdimacs L s ≡ opened b) ↔ (read_text L (forms_text (translated ls)) ≡ opened b)
unfolding read_qdimacs read_text
same_opening L s ls e p b = (
  λ h. opened_alone (read_text L (forms_text (translated ls))) b (sym (same_result L s ls e p (opened_few b L 1 ls (sym (parsed_read 1 (start L) (split newline s) ls e) ∙ h))) ∙ ap unnumbered h),
  λ h. opened_alone (read_qdimacs L s) b (same_result L s ls e p (own_few L ls b (sym (forms_read 1 0 (empty_formula L) (translated ls) (translated_legible ls (parsed_spoken (split newline s) ls e))) ∙ h)) ∙ ap unnumbered h),
)

-- ---- the same book
-- what is known of a text that opens
pub record Translates (L : Limits) (s : Bytes) (b : Formula) : Type 0 where
  pub lines : List Line
  pub are : parsed (split newline s) ≡ some lines
  pub plain : Plain L lines
  pub same : read_text L (forms_text (translated lines)) ≡ opened b

-- Under any limits: a text that opens has at most 40 flags.
pub same_book : (L : Limits) (s : Bytes) (b : Formula) → read_qdimacs L s ≡ opened b → Translates L s b
unfolding read_qdimacs
same_book L s b e = record { lines = ls; are = w.1; plain = p; same = opened_alone (read_text L (forms_text (translated ls))) b (sym (same_result L s ls w.1 p (opened_few b L 1 ls once)) ∙ ap unnumbered e) }
  where
    w : (ls : List Line) × (parsed (split newline s) ≡ some ls)
    w = opened_parsed 1 (start L) (split newline s) b e

    ls : List Line
    ls = w.0

    once : read_parsed 1 (start L) ls ≡ opened b
    once = sym (parsed_read 1 (start L) (split newline s) ls w.1) ∙ e

    p : Plain L ls
    p = opened_plain b L 1 ls once

-- ---- with the bound on the bytes
module _ (L : Limits) (s : Bytes) (b : Formula) (e : open_qdimacs L s ≡ opened b) where
  read_opened : read_qdimacs L s ≡ opened b
  unfolding open_qdimacs
  read_opened = by (ltb text_bytes (length s)) e
    where
      by : (t : Bool) → cond t (refused 9 0) (read_qdimacs L s) ≡ opened b → read_qdimacs L s ≡ opened b
      by true z = absurd (let y : ◌≡◌ {A = ℕ} 0 1 = cc in omega arith)
      by false z = z

  pub translates : Translates L s b
  translates = same_book L s b read_opened

  -- our own text opens the same book where it is no longer than a text may be
  pub own_fits : (t : Translates L s b) → length (forms_text (translated t.lines)) ≤ text_bytes → open_text L (forms_text (translated t.lines)) ≡ opened b
  own_fits t fits = text_fits L (forms_text (translated t.lines)) fits ∙ t.same

  -- and the book is well formed, under limits that are
  module _ (room : limits_are_ok L ≡ true) where
    facts : FormulaFacts b × (b.limits ≡ L)
    unfolding read_text
    facts = lines_facts 1 0 (empty_formula L) (split newline (forms_text (translated translates.lines))) b (reached_none L room) translates.same

    pub opened_formula : formula_is_ok b ≡ true
    opened_formula = facts_formula b facts.0

    pub opened_limits : b.limits ≡ L
    opened_limits = facts.1

    pub opened_state : well_formed (fresh b) ≡ true
    opened_state = fresh_formed b facts.0

  -- our own text is no longer than the text of a book under these limits can be
  pub text_most : (t : Translates L s b) → limits_are_ok L ≡ true → length (forms_text (translated t.lines)) ≤ text_room L
  unfolding read_text
  text_most t room =
      let legible = translated_legible t.lines (parsed_spoken (split newline s) t.lines t.are) in
      forms_room 1 L (translated t.lines) b legible (sym (forms_read 1 0 (empty_formula L) (translated t.lines) legible) ∙ t.same) (facts room).0 (facts room).1

  -- so that it opens the same book under all limits whose books fit a text
  pub own_text : (t : Translates L s b) → limits_are_ok L ≡ true → text_room L ≤ text_bytes → open_text L (forms_text (translated t.lines)) ≡ opened b
  own_text t room fits = own_fits t (omega (arith, text_most t room, fits))

-- ---- limits under which no text has more flags than there may be
pub opening_few : (L : Limits) → opening_ok L ≡ true → (limits_are_ok L ≡ true) × (L.numbers ≤ most_free)
opening_few L h = (and_left (limits_are_ok L) (leb L.numbers most_free) h, leb-true L.numbers most_free (and_right (limits_are_ok L) (leb L.numbers most_free) h))
