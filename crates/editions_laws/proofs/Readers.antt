-- Readers compared: one that takes more editions opens what another opens, and a text of the first edition without exactly-one forms
-- opens what it opened before.
use Prim.Native.Nat.{ℕ, suc, ◌≤◌}
use mathlib.Core.Path.{◌≡◌, refl, sym, ap, ◌∙◌, subst}
use mathlib.Core.Bool.{Bool, true, false, cond, not}
use mathlib.Core.List.{List, [], ◌∷◌}
use mathlib.Core.Option.{Option, none, some}
use native.Mathlib.Omega.{arith}
use borrow.Author.Tests.{eqb-true, ltb-false}
use lib.ListN.{length}
use lib.Dec.{eqb, ltb}
use Rattle.qbf.specs.Formula.{Limits, free, exists, forall, Literal, Formula}
use Rattle.qbf.specs.Calls.{given, formula_is_ok}
use Rattle.theory.proofs.Basics.{not_false, or_left, or_right}
use Rattle.theory.proofs.AcceptedRule.{some_none, given_none}
use Rattle.layout.specs.Words.{Bytes, newline, space, split, same, inside}
use Rattle.layout.specs.Forms.{then, items, Form, book, block, clause, end, rule_form, rule_word, form_from, form_of, one_word}
use Rattle.layout.specs.Opening.{text_bytes, rank, allowed, stage_after, form_fault, with_form, Opened, refused, opened, at_end, empty_formula, open_text}
use Rattle.layout.specs.Opening as own
use Rattle.layout_laws.proofs.Opened.{allowed_is, never_opened, went}
use Rattle.editions.specs.Lines.{Line, says, tagged, one, said, exactly_one_line, rule_from, line_from, line_of}
use Rattle.editions.specs.Opening.{Editions, both, only, rank_of, said_fault, line_fault, with_line, edition_after, is_end, read_line, read_lines, read_editions, open_editions}
use Rattle.editions.specs.Converting.{next, each_line, converted, to_tagged, to_untagged}
use Rattle.booktext.specs.Texts.{read_text}
use Rattle.booktext.specs.Books.{book_text}
use Rattle.booktext_laws.proofs.Books.{ShortNumbers, read_back}
use Rattle.editions_laws.proofs.Words.{none_some, some_same, same_true}
use Rattle.editions_laws.proofs.Lines.{untagged_from}
use Rattle.editions_laws.proofs.Reading.{Same, AllFit, lines_same}
use Rattle.editions_laws.proofs.Converting.{begun, first_line, fits_text, text_fits, same_tagged, same_untagged}

-- ---- which editions a reader takes does not show after the first line
abbrev as_it_is : ℕ → Bytes → Bytes
as_it_is k l = l

each_is : (k : ℕ) (ps : List Bytes) → each_line as_it_is k ps ≡ ps
unfolding each_line
each_is k [] = refl
each_is k (l ∷ ls) = ap (λ (x : List Bytes). l ∷ x) (each_is (next k l) ls)

abbrev Any : ℕ → Bytes → Type 0
Any k l = Unit {0}

abbrev Always : ℕ → Formula → Type 0
Always k b = Unit {0}

all_any : (k : ℕ) (ps : List Bytes) → AllFit Any k ps
all_any k [] = tt
all_any k (l ∷ ls) = (tt, all_any (next k l) ls)

module _ (a a' : Editions) (e : ℕ) where
  same_line : (k stage : ℕ) (b : Formula) (l : Bytes) (f : Line) → 1 ≤ stage → Always k b → Any k l → line_of l ≡ some f → line_fault a e stage b f ≡ none → Same a' e e stage b l f × Always (next k l) (with_line b f)
  same_line k stage b l (says (book x)) h i fit q z =
      absurd (omega (arith, h, (allowed_is stage 0 (not_false (allowed stage 0) (given_none (not (allowed stage 0)) 1 (said_fault a b (says (book x))) z).0)).0))
  same_line k stage b l (says (block κ ns)) h i fit q z = (record { line = says (block κ ns); is = q; fault = z; formula = refl; rank = refl; edition = refl; edition' = refl }, tt)
  same_line k stage b l (says (clause ls)) h i fit q z = (record { line = says (clause ls); is = q; fault = z; formula = refl; rank = refl; edition = refl; edition' = refl }, tt)
  same_line k stage b l (says end) h i fit q z = (record { line = says end; is = q; fault = z; formula = refl; rank = refl; edition = refl; edition' = refl }, tt)
  same_line k stage b l (tagged j ls) h i fit q z = (record { line = tagged j ls; is = q; fault = z; formula = refl; rank = refl; edition = refl; edition' = refl }, tt)
  same_line k stage b l (one ls) h i fit q z = (record { line = one ls; is = q; fault = z; formula = refl; rank = refl; edition = refl; edition' = refl }, tt)

  later_lines : (n stage : ℕ) (b : Formula) (ps : List Bytes) (c : Formula) → 1 ≤ stage → read_lines a n e stage b ps ≡ opened c → read_lines a' n e stage b ps ≡ opened c
  later_lines n stage b ps c h z = ap (read_lines a' n e stage b) (sym (each_is 1 ps)) ∙ lines_same a a' e e as_it_is Always Any (λ k. refl) same_line n 1 stage b ps c h tt (all_any 1 ps) z

-- a reader that takes more editions
pub more_editions : (a a' : Editions) → ((e : ℕ) → a e ≡ true → a' e ≡ true) → (L : Limits) (s : Bytes) (c : Formula) → open_editions a L s ≡ opened c → open_editions a' L s ≡ opened c
more_editions a a' h L s c z =
    let w = fits_text a L s c z in
    let t = begun a 1 (empty_formula L) (split newline s) c w.1 in
    text_fits a' L s c w.0
    (ap (read_lines a' 1 0 0 (empty_formula L)) t.are ∙ first_line a' 1 t.edition (empty_formula L) _ t.second t.others t.is_book_lem (h t.edition t.taken)
    ∙ later_lines a a' t.edition 2 1 (empty_formula L) (t.second ∷ t.others) c (omega arith) t.onward)

-- ---- texts as they were before
form_line_lem : (ws : List Bytes) (f : Form) → form_from ws ≡ some f → line_from ws ≡ some (says f)
unfolding line_from form_from same
form_line_lem [] f z = absurd (none_some f z)
form_line_lem (w ∷ ws) f z = by (same w rule_word) refl (same w one_word) refl
  where
    ruled : (o : Option (List Literal)) → items true ws ≡ o → then o rule_form ≡ some f → rule_from ws ≡ some (says f)
    ruled none q y = absurd (none_some f y)
    ruled (some ls) q y = untagged_from ws ls q ∙ ap (λ (g : Form). some (says g)) (some_same (clause ls) f y)

    by : (t : Bool) → same w rule_word ≡ t → (u : Bool) → same w one_word ≡ u → cond t (rule_from ws) (cond u (then (items true ws) exactly_one_line) (then (form_from (w ∷ ws)) said)) ≡ some (says f)
    by true q u r = ruled (items true ws) refl (subst (λ (x : Bytes). form_from (x ∷ ws) ≡ some f) (same_true w rule_word q) z)
    by false q true r = absurd (none_some f (subst (λ (x : Bytes). form_from (x ∷ ws) ≡ some f) (same_true w one_word r) z))
    by false q false r = ap (λ (o : Option Form). then o said) z

own_line : (l : Bytes) (f : Form) → form_of l ≡ some f → line_of l ≡ some (says f)
unfolding form_of line_of
own_line l f z = by (inside l) z
  where
    by : (o : Option Bytes) → then o (λ s. form_from (split space s)) ≡ some f → then o (λ s. line_from (split space s)) ≡ some (says f)
    by none y = absurd (none_some f y)
    by (some s) y = form_line_lem (split space s) f y

own_fault : (a : Editions) (stage : ℕ) (b : Formula) (f : Form) → 1 ≤ stage → own.line_fault stage b f ≡ none → (line_fault a 1 stage b (says f) ≡ none) × (edition_after 1 (says f) ≡ 1)
own_fault a stage b (book x) h z = absurd (omega (arith, h, (allowed_is stage 0 (not_false (allowed stage 0) (given_none (not (allowed stage 0)) 1 (form_fault b (book x)) z).0)).0))
own_fault a stage b (block κ ns) h z = (z, refl)
own_fault a stage b (clause ls) h z = (z, refl)
own_fault a stage b end h z = (z, refl)

after_one : (r : ℕ) → 1 ≤ stage_after r
after_one r = by (ltb r 2) refl
  where
    by : (t : Bool) → ltb r 2 ≡ t → 1 ≤ cond t (suc r) r
    by true q = omega arith
    by false q = omega (arith, ltb-false r 2 q)

module _ (a : Editions) where
  own_lines : (n stage : ℕ) (b : Formula) (ps : List Bytes) (c : Formula) → 1 ≤ stage → own.read_lines n stage b ps ≡ opened c → read_lines a n 1 stage b ps ≡ opened c
  unfolding own.read_lines read_lines
  own_lines n stage b [] c h z = absurd (never_opened 1 n c z)
  own_lines n stage b (l ∷ []) c h z = absurd (never_opened 1 n c z)
  own_lines n stage b (l ∷ m ∷ ls) c h z = by (form_of l) refl z (λ s x. own_lines (suc n) s x (m ∷ ls) c)
    where
      onward : Form → Formula → Opened
      onward f x = cond (own.is_end f) (at_end (suc n) x (m ∷ ls)) (own.read_lines (suc n) (stage_after (rank f)) x (m ∷ ls))

      onward' : Line → Formula → Opened
      onward' f x = cond (is_end f) (at_end (suc n) x (m ∷ ls)) (read_lines a (suc n) (edition_after 1 f) (stage_after (rank_of f)) x (m ∷ ls))

      last : (f : Form) (t : Bool) → edition_after 1 (says f) ≡ 1 → cond t (at_end (suc n) (with_form b f) (m ∷ ls)) (own.read_lines (suc n) (stage_after (rank f)) (with_form b f) (m ∷ ls)) ≡ opened c
          → ((s : ℕ) (x : Formula) → 1 ≤ s → own.read_lines (suc n) s x (m ∷ ls) ≡ opened c → read_lines a (suc n) 1 s x (m ∷ ls) ≡ opened c)
          → cond t (at_end (suc n) (with_form b f) (m ∷ ls)) (read_lines a (suc n) (edition_after 1 (says f)) (stage_after (rank f)) (with_form b f) (m ∷ ls)) ≡ opened c
      last f true e y ih = y
      last f false e y ih = ap (λ (x : ℕ). read_lines a (suc n) x (stage_after (rank f)) (with_form b f) (m ∷ ls)) e ∙ ih (stage_after (rank f)) (with_form b f) (after_one (rank f)) y

      by : (o : Option Form) → form_of l ≡ o → own.read_line n stage b o onward ≡ opened c
          → ((s : ℕ) (x : Formula) → 1 ≤ s → own.read_lines (suc n) s x (m ∷ ls) ≡ opened c → read_lines a (suc n) 1 s x (m ∷ ls) ≡ opened c) → read_line a n 1 stage b (line_of l) onward' ≡ opened c
      by none q y ih = absurd (never_opened 1 n c y)
      by (some f) q y ih =
          let w = went n (own.line_fault stage b f) (onward f (with_form b f)) c y in
          let g = own_fault a stage b f h w.0 in
          rw (own_line l f q, g.0) (last f (own.is_end f) g.1 w.1 ih)

  own_first : (n : ℕ) (b : Formula) (ps : List Bytes) (c : Formula) → a 1 ≡ true → own.read_lines n 0 b ps ≡ opened c → read_lines a n 0 0 b ps ≡ opened c
  unfolding own.read_lines
  own_first n b [] c h z = absurd (never_opened 1 n c z)
  own_first n b (l ∷ []) c h z = absurd (never_opened 1 n c z)
  own_first n b (l ∷ m ∷ ls) c h z = by (form_of l) refl z
    where
      onward : Form → Formula → Opened
      onward f x = cond (own.is_end f) (at_end (suc n) x (m ∷ ls)) (own.read_lines (suc n) (stage_after (rank f)) x (m ∷ ls))

      edition_one : (x : ℕ) → own.line_fault 0 b (book x) ≡ none → x ≡ 1
      edition_one x w = eqb-true x 1 (not_false (eqb x 1) (off (not (eqb x 1)) w))
        where
          off : (t : Bool) → given t 2 ≡ none → t ≡ false
          off true y = absurd (some_none y)
          off false y = refl

      first : (f : Form) → form_of l ≡ some f → own.line_fault 0 b f ≡ none → onward f (with_form b f) ≡ opened c → read_lines a n 0 0 b (l ∷ m ∷ ls) ≡ opened c
      first (book x) q w y = first_line a n 1 b l m ls (own_line l (book x) q ∙ ap (λ (i : ℕ). some (says (book i))) (edition_one x w)) h ∙ own_lines (suc n) 1 b (m ∷ ls) c (omega arith) y
      first (block free ns) q w y = absurd (some_none w)
      first (block exists ns) q w y = absurd (some_none w)
      first (block forall ns) q w y = absurd (some_none w)
      first (clause x) q w y = absurd (some_none w)
      first end q w y = absurd (some_none w)

      by : (o : Option Form) → form_of l ≡ o → own.read_line n 0 b o onward ≡ opened c → read_lines a n 0 0 b (l ∷ m ∷ ls) ≡ opened c
      by none q y = absurd (never_opened 1 n c y)
      by (some f) q y = let w = went n (own.line_fault 0 b f) (onward f (with_form b f)) c y in first f q w.0 w.1

  -- What the reader of 01 opens, a reader that takes edition 1 opens; without 9, and with it.
  pub reads_as_before : a 1 ≡ true → (L : Limits) (s : Bytes) (c : Formula) → read_text L s ≡ opened c → read_editions a L s ≡ opened c
  unfolding read_text read_editions
  reads_as_before h L s c z = own_first 1 (empty_formula L) (split newline s) c h z

  pub opens_as_before : a 1 ≡ true → (L : Limits) (s : Bytes) (c : Formula) → open_text L s ≡ opened c → open_editions a L s ≡ opened c
  unfolding open_text
  opens_as_before h L s c z = by (ltb text_bytes (length s)) refl z
    where
      by : (t : Bool) → ltb text_bytes (length s) ≡ t → cond t (refused 9 0) (own.read_lines 1 0 (empty_formula L) (split newline s)) ≡ opened c → open_editions a L s ≡ opened c
      by true q y = absurd (never_opened 9 0 c y)
      by false q y = text_fits a L s c (ltb-false text_bytes (length s) q) (own_first 1 (empty_formula L) (split newline s) c h y)

-- ---- the reader of both editions
only_1 : (e : ℕ) → only 1 e ≡ true → both e ≡ true
only_1 e h = or_left (eqb e 1) (eqb e 2) h

only_2 : (e : ℕ) → only 2 e ≡ true → both e ≡ true
only_2 e h = or_right (eqb e 1) (eqb e 2) h

-- a book that is written is read back by it: WISH 2, after wish 13
pub written_back : (b : Formula) → formula_is_ok b ≡ true → ShortNumbers b.limits → read_editions both b.limits (book_text b) ≡ opened b
written_back b ok short = reads_as_before both refl b.limits (book_text b) b (read_back b ok short)

-- "finds equal rules, so cards agree whether or not a book is tagged": it opens a text and what the text is converted to alike
module _ (L : Limits) (few : L.clauses ≤ 65535) (size : ℕ) (s t : Bytes) where
  pub equal_tagged : to_tagged L size s ≡ converted t → open_editions both L s ≡ open_editions both L t
  equal_tagged e = let w = same_tagged L few size s t e in more_editions (only 1) both only_1 L s w.0 w.1 ∙ sym w.2

  pub equal_untagged : to_untagged L size s ≡ converted t → open_editions both L s ≡ open_editions both L t
  equal_untagged e = let w = same_untagged L few size s t e in more_editions (only 2) both only_2 L s w.0 w.1 ∙ sym w.2
