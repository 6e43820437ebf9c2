-- WISH 13: the two conversions undo each other, and equal rules are found whether a book is tagged or not.
use Prim.Native.Nat.{ℕ, zero, suc, ◌+◌, ◌≤◌}
use mathlib.Core.Path.{◌≡◌, refl, sym, ap, ◌∙◌, subst}
use mathlib.Core.Bool.{Bool, true, false, cond, not, ◌||◌}
use mathlib.Core.List.{List, [], ◌∷◌, ◌++◌}
use mathlib.Core.Option.{Option, none, some}
use native.Mathlib.Omega.{arith}
use borrow.Author.Tests.{eqb-true, ltb-false, le-ltb}
use lib.ListN.{length, take, drop}
use lib.Dec.{eqb, ltb}
use Rattle.qbf.specs.Formula.{Limits, free, exists, forall, Formula}
use Rattle.qbf.specs.Calls.{given}
use Rattle.theory.proofs.Basics.{and_left, and_right, and_both, not_false, or_false, or_false_left, or_false_right}
use Rattle.theory.proofs.AcceptedRule.{some_none}
use Rattle.layout.specs.Words.{Bytes, ascii, newline, split, same, digits, number, closed, inside}
use Rattle.layout.specs.Forms.{items, consed, form_from, book, block, clause, end}
use Rattle.layout.specs.Output.{last_digits, decimal}
use Rattle.layout.specs.Opening.{text_bytes, stage_after, Opened, refused, opened, at_end, empty_formula}
use Rattle.booktext_laws.proofs.Lines.{lacks, lacks_append, digits_newline}
use Rattle.editions.specs.Lines.{Line, says, tagged, one, rule_from, line_from, line_of}
use Rattle.editions.specs.Opening.{Editions, both, only, rank_of, line_fault, with_line, edition_after, is_end, read_line, read_lines, read_editions, open_editions}
use Rattle.editions.specs.Converting.{joined, is_rule, tag_text, insert_tag, remove_tag, tag_line, untag_line, next, each_line, tagged_lines, untagged_lines, lost_line, tagged_text, untagged_text, converted, fitted, unlost, after_opening, to_tagged, to_untagged}
use Rattle.editions.specs.Converting as converting
use Rattle.editions_laws.proofs.Words.{AllLack, split_lacks, joined_split, split_joined, pieces}
use Rattle.editions_laws.proofs.Lines.{book_line}
use Rattle.layout_laws.proofs.Opened.{never_opened, went}
use Rattle.editions_laws.proofs.Reading.{AllFit, lines_same}
use Rattle.editions_laws.proofs.Tags.{untag_tag, lost_tag, tag_untag, Kept, kept_all, Counted, tag_line_lem, untag_line_lem}

-- ---- byte 10 stands in no tag
lack_take : (c n : ℕ) (s : Bytes) → lacks c s ≡ true → lacks c (take n s) ≡ true
lack_take c zero s h = refl
lack_take c (suc n) [] h = refl
lack_take c (suc n) (b ∷ s) h = and_both (not (eqb b c)) (lacks c (take n s)) (and_left (not (eqb b c)) (lacks c s) h) (lack_take c n s (and_right (not (eqb b c)) (lacks c s) h))

lack_drop : (c n : ℕ) (s : Bytes) → lacks c s ≡ true → lacks c (drop n s) ≡ true
lack_drop c zero s h = h
lack_drop c (suc n) [] h = refl
lack_drop c (suc n) (b ∷ s) h = lack_drop c n s (and_right (not (eqb b c)) (lacks c s) h)

tag_lacks : (k : ℕ) → lacks newline (tag_text k) ≡ true
unfolding tag_text
tag_lacks k = lacks_append newline (ascii " (tag " ++ decimal k) (ascii ")") (lacks_append newline (ascii " (tag ") (decimal k) refl (digits_newline k)) refl

insert_lacks : (k : ℕ) (l : Bytes) → lacks newline l ≡ true → lacks newline (insert_tag k l) ≡ true
unfolding insert_tag
insert_lacks k l h = lacks_append newline (take 5 l) (tag_text k ++ drop 5 l) (lack_take newline 5 l h) (lacks_append newline (tag_text k) (drop 5 l) (tag_lacks k) (lack_drop newline 5 l h))

remove_lacks : (k : ℕ) (l : Bytes) → lacks newline l ≡ true → lacks newline (remove_tag k l) ≡ true
unfolding remove_tag
remove_lacks k l h = lacks_append newline (take 5 l) (drop (5 + length (tag_text k)) l) (lack_take newline 5 l h) (lack_drop newline (5 + length (tag_text k)) l h)

each_lacks : (g : ℕ → Bytes → Bytes) → ((k : ℕ) (l : Bytes) → lacks newline l ≡ true → lacks newline (g k l) ≡ true) → (k : ℕ) (ps : List Bytes) → AllLack newline ps → AllLack newline (each_line g k ps)
unfolding each_line
each_lacks g h k [] a = tt
each_lacks g h k (l ∷ ls) a = (h k l a.0, each_lacks g h (next k l) ls a.1)

-- ---- the first line
-- a text that opens begins with the book's line, of an edition that the reader takes, and another line follows
pub record Begun (a : Editions) (n : ℕ) (b : Formula) (ps : List Bytes) (c : Formula) : Type 0 where
  pub edition : ℕ
  pub second : Bytes
  pub others : List Bytes
  pub are : ps ≡ (ascii "(book " ++ (decimal edition ++ ascii ")")) ∷ second ∷ others
  pub is_book_lem : line_of (ascii "(book " ++ (decimal edition ++ ascii ")")) ≡ some (says (book edition))
  pub taken : a edition ≡ true
  pub onward : read_lines a (suc n) edition 1 b (second ∷ others) ≡ opened c

given_off : (t : Bool) (n : ℕ) → given t n ≡ none → t ≡ false
given_off true n e = absurd (some_none e)
given_off false n e = refl

pub begun : (a : Editions) (n : ℕ) (b : Formula) (ps : List Bytes) (c : Formula) → read_lines a n 0 0 b ps ≡ opened c → Begun a n b ps c
unfolding read_lines
begun a n b [] c z = absurd (never_opened 1 n c z)
begun a n b (l ∷ []) c z = absurd (never_opened 1 n c z)
begun a n b (l ∷ m ∷ ls) c z = by (line_of l) refl z
  where
    onward : Line → Formula → Opened
    onward f x = cond (is_end f) (at_end (suc n) x (m ∷ ls)) (read_lines a (suc n) (edition_after 0 f) (stage_after (rank_of f)) x (m ∷ ls))

    first : (f : Line) → line_of l ≡ some f → line_fault a 0 0 b f ≡ none → onward f (with_line b f) ≡ opened c → Begun a n b (l ∷ m ∷ ls) c
    first (says (book e)) q w y =
        record {
          edition = e;
          second = m;
          others = ls;
          are = ap (λ (x : Bytes). x ∷ m ∷ ls) (book_line l e q);
          is_book_lem = ap line_of (sym (book_line l e q)) ∙ q;
          taken = not_false (a e) (given_off (not (a e)) 2 w);
          onward = y;
        }
    first (says (block free ns)) q w y = absurd (some_none w)
    first (says (block exists ns)) q w y = absurd (some_none w)
    first (says (block forall ns)) q w y = absurd (some_none w)
    first (says (clause x)) q w y = absurd (some_none w)
    first (says end) q w y = absurd (some_none w)
    first (tagged k x) q w y = absurd (some_none w)
    first (one x) q w y = absurd (some_none w)

    by : (o : Option Line) → line_of l ≡ o → read_line a n 0 0 b o onward ≡ opened c → Begun a n b (l ∷ m ∷ ls) c
    by none q y = absurd (never_opened 1 n c y)
    by (some f) q y = let w = went n (line_fault a 0 0 b f) (onward f (with_line b f)) c y in first f q w.0 w.1

-- the line of an edition
pub first_line : (a : Editions) (n e : ℕ) (b : Formula) (l m : Bytes) (ls : List Bytes) → line_of l ≡ some (says (book e)) → a e ≡ true → read_lines a n 0 0 b (l ∷ m ∷ ls) ≡ read_lines a (suc n) e 1 b (m ∷ ls)
unfolding read_lines
first_line a n e b l m ls q h = rw (q, h)

line_1 : line_of (ascii "(book 1)") ≡ some (says (book 1))
unfolding split same digits number items consed closed inside form_from rule_from line_from line_of
line_1 = refl

line_2 : line_of (ascii "(book 2)") ≡ some (says (book 2))
unfolding split same digits number items consed closed inside form_from rule_from line_from line_of
line_2 = refl

-- a text that a reader of one edition opens: its first line, and the others
pub record Text (k : ℕ) (l : Bytes) (b : Formula) (ps : List Bytes) (c : Formula) : Type 0 where
  pub second : Bytes
  pub others : List Bytes
  pub are : ps ≡ l ∷ second ∷ others
  pub onward : read_lines (only k) 2 k 1 b (second ∷ others) ≡ opened c

text_of : (k : ℕ) (l : Bytes) → ascii "(book " ++ (decimal k ++ ascii ")") ≡ l → (b : Formula) (ps : List Bytes) (c : Formula) → read_lines (only k) 1 0 0 b ps ≡ opened c → Text k l b ps c
text_of k l is b ps c z =
    let t = begun (only k) 1 b ps c z in
    let e : t.edition ≡ k = eqb-true t.edition k t.taken in
    record {
      second = t.second;
      others = t.others;
      are = t.are ∙ ap (λ (i : ℕ). (ascii "(book " ++ (decimal i ++ ascii ")")) ∷ t.second ∷ t.others) e ∙ ap (λ (x : Bytes). x ∷ t.second ∷ t.others) is;
      onward = subst (λ (i : ℕ). read_lines (only k) 2 i 1 b (t.second ∷ t.others) ≡ opened c) e t.onward;
    }

text_1 : (b : Formula) (ps : List Bytes) (c : Formula) → read_lines (only 1) 1 0 0 b ps ≡ opened c → Text 1 (ascii "(book 1)") b ps c
unfolding decimal last_digits
text_1 = text_of 1 (ascii "(book 1)") refl

text_2 : (b : Formula) (ps : List Bytes) (c : Formula) → read_lines (only 2) 1 0 0 b ps ≡ opened c → Text 2 (ascii "(book 2)") b ps c
unfolding decimal last_digits
text_2 = text_of 2 (ascii "(book 2)") refl

-- ---- the lines of the converted text
abbrev Any : ℕ → Bytes → Type 0
Any k l = Unit {0}

all_any : (k : ℕ) (ps : List Bytes) → AllFit Any k ps
all_any k [] = tt
all_any k (l ∷ ls) = (tt, all_any (next k l) ls)

tag_empty : (k : ℕ) → tag_line k [] ≡ []
unfolding is_rule same
tag_empty k = refl

untag_empty : (k : ℕ) → untag_line k [] ≡ []
unfolding is_rule same
untag_empty k = refl

module _ (L : Limits) (few : L.clauses ≤ 65535) where
  abbrev E : Formula
  E = empty_formula L

  counted : Counted 1 E
  counted = record { low = omega arith; high = omega arith; few = few }

  -- of any reader that takes the other edition
  tag_read : (a' : Editions) → a' 2 ≡ true → (ps : List Bytes) (c : Formula) → read_lines (only 1) 1 0 0 E ps ≡ opened c → read_lines a' 1 0 0 E (tagged_lines ps) ≡ opened c
  unfolding each_line
  tag_read a' h ps c z =
      let t = text_1 E ps c z in
      ap (λ (x : List Bytes). read_lines a' 1 0 0 E (tagged_lines x)) t.are
      ∙ first_line a' 1 2 E (ascii "(book 2)") (tag_line 1 t.second) (each_line tag_line (next 1 t.second) t.others) line_2 h
      ∙ lines_same (only 1) a' 1 2 tag_line Counted Any tag_empty (λ k stage b l f later i fit q w. tag_line_lem (only 1) a' k stage b l later i f q w) 2 1 1 E (t.second ∷ t.others) c (omega arith) counted (all_any 1 (t.second ∷ t.others)) t.onward

  untag_read : (a' : Editions) → a' 1 ≡ true → (ps : List Bytes) (c : Formula) → lost_line ps ≡ none → read_lines (only 2) 1 0 0 E ps ≡ opened c → read_lines a' 1 0 0 E (untagged_lines ps) ≡ opened c
  unfolding each_line
  untag_read a' h ps c lost z =
      let t = text_2 E ps c z in
      ap (λ (x : List Bytes). read_lines a' 1 0 0 E (untagged_lines x)) t.are
      ∙ first_line a' 1 1 E (ascii "(book 1)") (untag_line 1 t.second) (each_line untag_line (next 1 t.second) t.others) line_1 h
      ∙ lines_same (only 2) a' 2 1 untag_line Counted Kept untag_empty (λ k stage b l f later i fit q w. untag_line_lem (only 2) a' k stage b l later i f fit q w) 2 1 1 E (t.second ∷ t.others) c (omega arith) counted
      (kept_all 2 1 (t.second ∷ t.others) (ap lost_line (sym t.are) ∙ lost)) t.onward

-- ---- the text
lacks_tagged : (ps : List Bytes) → AllLack newline ps → AllLack newline (tagged_lines ps)
lacks_tagged [] a = tt
lacks_tagged (l ∷ ls) a = (refl, each_lacks tag_line (λ k x h. by (is_rule x) k x h) 1 ls a.1)
  where
    by : (t : Bool) (k : ℕ) (x : Bytes) → lacks newline x ≡ true → lacks newline (cond t (insert_tag k x) x) ≡ true
    by true k x h = insert_lacks k x h
    by false k x h = h

lacks_untagged : (ps : List Bytes) → AllLack newline ps → AllLack newline (untagged_lines ps)
lacks_untagged [] a = tt
lacks_untagged (l ∷ ls) a = (refl, each_lacks untag_line (λ k x h. by (is_rule x) k x h) 1 ls a.1)
  where
    by : (t : Bool) (k : ℕ) (x : Bytes) → lacks newline x ≡ true → lacks newline (cond t (remove_tag k x) x) ≡ true
    by true k x h = remove_lacks k x h
    by false k x h = h

tagged_split : (s : Bytes) → split newline (tagged_text s) ≡ tagged_lines (split newline s)
unfolding tagged_text
tagged_split s =
    let p = pieces newline s in
    ap (λ (x : List Bytes). split newline (joined (tagged_lines x))) p.2
    ∙ split_joined (ascii "(book 2)") (each_line tag_line 1 p.1) (lacks_tagged (p.0 ∷ p.1) (subst (AllLack newline) p.2 (split_lacks newline s)))
    ∙ ap tagged_lines (sym p.2)

untagged_split : (s : Bytes) → split newline (untagged_text s) ≡ untagged_lines (split newline s)
unfolding untagged_text
untagged_split s =
    let p = pieces newline s in
    ap (λ (x : List Bytes). split newline (joined (untagged_lines x))) p.2
    ∙ split_joined (ascii "(book 1)") (each_line untag_line 1 p.1) (lacks_untagged (p.0 ∷ p.1) (subst (AllLack newline) p.2 (split_lacks newline s)))
    ∙ ap untagged_lines (sym p.2)

-- ---- results
pub fits_text : (a : Editions) (L : Limits) (s : Bytes) (c : Formula) → open_editions a L s ≡ opened c → (length s ≤ text_bytes) × (read_lines a 1 0 0 (empty_formula L) (split newline s) ≡ opened c)
unfolding open_editions read_editions
fits_text a L s c e = by (ltb text_bytes (length s)) refl e
  where
    by : (t : Bool) → ltb text_bytes (length s) ≡ t → cond t (refused 9 0) (read_lines a 1 0 0 (empty_formula L) (split newline s)) ≡ opened c → (length s ≤ text_bytes) × (read_lines a 1 0 0 (empty_formula L) (split newline s) ≡ opened c)
    by true q z = absurd (never_opened 9 0 c z)
    by false q z = (ltb-false text_bytes (length s) q, z)

pub text_fits : (a : Editions) (L : Limits) (s : Bytes) (c : Formula) → length s ≤ text_bytes → read_lines a 1 0 0 (empty_formula L) (split newline s) ≡ opened c → open_editions a L s ≡ opened c
unfolding open_editions read_editions
text_fits a L s c h z = rw (le-ltb text_bytes (length s) h) z

converted_same : (s t : Bytes) → converted s ≡ converted t → s ≡ t
converted_same s t e = cc

never_converted : (k n : ℕ) (t : Bytes) → converting.refused k n ≡ converted t → ⊥
never_converted k n t e = let z : ◌≡◌ {A = ℕ} 0 1 = cc in omega arith

fitted_is : (size : ℕ) (s t : Bytes) → fitted size s ≡ converted t → (s ≡ t) × (length s ≤ size) × (length s ≤ text_bytes)
fitted_is size s t e = by (ltb size (length s) || ltb text_bytes (length s)) refl e
  where
    by : (x : Bool) → (ltb size (length s) || ltb text_bytes (length s)) ≡ x → cond x (converting.refused 31 0) (converted s) ≡ converted t → (s ≡ t) × (length s ≤ size) × (length s ≤ text_bytes)
    by true q z = absurd (never_converted 31 0 t z)
    by false q z = (converted_same s t z, ltb-false size (length s) (or_false_left (ltb size (length s)) (ltb text_bytes (length s)) q), ltb-false text_bytes (length s) (or_false_right (ltb size (length s)) (ltb text_bytes (length s)) q))

is_fitted : (size : ℕ) (s : Bytes) → length s ≤ size → length s ≤ text_bytes → fitted size s ≡ converted s
is_fitted size s h g = rw (or_false (ltb size (length s)) (ltb text_bytes (length s)) (le-ltb size (length s) h) (le-ltb text_bytes (length s) g))

-- what a conversion that is not refused was made from
record Made (k : ℕ) (L : Limits) (s t : Bytes) : Type 0 where
  formula : Formula
  opens : open_editions (only k) L s ≡ opened formula
  fits : length s ≤ text_bytes
  lines : read_lines (only k) 1 0 0 (empty_formula L) (split newline s) ≡ opened formula
  short : length t ≤ text_bytes

tagged_made : (L : Limits) (size : ℕ) (s t : Bytes) → to_tagged L size s ≡ converted t → Made 1 L s t × (tagged_text s ≡ t)
unfolding to_tagged
tagged_made L size s t e = by (open_editions (only 1) L s) refl e
  where
    by : (o : Opened) → open_editions (only 1) L s ≡ o → after_opening o (fitted size (tagged_text s)) ≡ converted t → Made 1 L s t × (tagged_text s ≡ t)
    by (refused k n) q z = absurd (never_converted k n t z)
    by (opened c) q z =
        let f = fitted_is size (tagged_text s) t z in
        let r = fits_text (only 1) L s c q in
        (record { formula = c; opens = q; fits = r.0; lines = r.1; short = subst (λ (x : Bytes). length x ≤ text_bytes) f.0 f.2 }, f.0)

untagged_made : (L : Limits) (size : ℕ) (s t : Bytes) → to_untagged L size s ≡ converted t → Made 2 L s t × (untagged_text s ≡ t) × (lost_line (split newline s) ≡ none)
unfolding to_untagged
untagged_made L size s t e = by (open_editions (only 2) L s) refl (lost_line (split newline s)) refl e
  where
    by : (o : Opened) → open_editions (only 2) L s ≡ o → (x : Option ℕ) → lost_line (split newline s) ≡ x → after_opening o (unlost x (fitted size (untagged_text s))) ≡ converted t
        → Made 2 L s t × (untagged_text s ≡ t) × (lost_line (split newline s) ≡ none)
    by (refused k n) q x y z = absurd (never_converted k n t z)
    by (opened c) q (some n) y z = absurd (never_converted 40 n t z)
    by (opened c) q none y z =
        let f = fitted_is size (untagged_text s) t z in
        let r = fits_text (only 2) L s c q in
        (record { formula = c; opens = q; fits = r.0; lines = r.1; short = subst (λ (x : Bytes). length x ≤ text_bytes) f.0 f.2 }, f.0, y)

-- ---- undone
module _ (L : Limits) (few : L.clauses ≤ 65535) where
  -- what is tagged opens, in edition 2, what the text opened
  tagged_opens : (a' : Editions) → a' 2 ≡ true → (s t : Bytes) (m : Made 1 L s t) → tagged_text s ≡ t → open_editions a' L t ≡ opened m.formula
  tagged_opens a' h s t m e =
      text_fits a' L t m.formula m.short
      (ap (λ (x : Bytes). read_lines a' 1 0 0 (empty_formula L) (split newline x)) (sym e) ∙ ap (read_lines a' 1 0 0 (empty_formula L)) (tagged_split s) ∙ tag_read L few a' h (split newline s) m.formula m.lines)

  untagged_opens : (a' : Editions) → a' 1 ≡ true → (s t : Bytes) (m : Made 2 L s t) → untagged_text s ≡ t → lost_line (split newline s) ≡ none → open_editions a' L t ≡ opened m.formula
  untagged_opens a' h s t m e lost =
      text_fits a' L t m.formula m.short
      (ap (λ (x : Bytes). read_lines a' 1 0 0 (empty_formula L) (split newline x)) (sym e) ∙ ap (read_lines a' 1 0 0 (empty_formula L)) (untagged_split s) ∙ untag_read L few a' h (split newline s) m.formula lost m.lines)

  -- tags in, then out
  pub tags_undone : (size size' : ℕ) (s t : Bytes) → to_tagged L size s ≡ converted t → length s ≤ size' → to_untagged L size' t ≡ converted s
  unfolding to_untagged untagged_text
  tags_undone size size' s t e h =
      let w = tagged_made L size s t e in
      let m = w.0 in
      let x = text_1 (empty_formula L) (split newline s) m.formula m.lines in
      let ps : List Bytes = x.second ∷ x.others in
      let lines : split newline t ≡ ascii "(book 2)" ∷ each_line tag_line 1 ps = ap (split newline) (sym w.1) ∙ tagged_split s ∙ ap tagged_lines x.are in
      ap (λ (o : Opened). after_opening o (unlost (lost_line (split newline t)) (fitted size' (joined (untagged_lines (split newline t)))))) (tagged_opens (only 2) refl s t m w.1)
      ∙ ap (λ (v : List Bytes). unlost (lost_line v) (fitted size' (joined (untagged_lines v)))) lines
      ∙ ap (λ (o : Option ℕ). unlost o (fitted size' (joined (ascii "(book 1)" ∷ each_line untag_line 1 (each_line tag_line 1 ps))))) (lost_tag 2 1 ps)
      ∙ ap (λ (v : List Bytes). fitted size' (joined (ascii "(book 1)" ∷ v))) (untag_tag 1 ps)
      ∙ ap (λ (v : List Bytes). fitted size' (joined v)) (sym x.are)
      ∙ ap (fitted size') (joined_split s)
      ∙ is_fitted size' s h m.fits

  -- tags out, then in
  pub untags_undone : (size size' : ℕ) (s t : Bytes) → to_untagged L size s ≡ converted t → length s ≤ size' → to_tagged L size' t ≡ converted s
  unfolding to_tagged tagged_text
  untags_undone size size' s t e h =
      let w = untagged_made L size s t e in
      let m = w.0 in
      let x = text_2 (empty_formula L) (split newline s) m.formula m.lines in
      let ps : List Bytes = x.second ∷ x.others in
      let lines : split newline t ≡ ascii "(book 1)" ∷ each_line untag_line 1 ps = ap (split newline) (sym w.1) ∙ untagged_split s ∙ ap untagged_lines x.are in
      ap (λ (o : Opened). after_opening o (fitted size' (joined (tagged_lines (split newline t))))) (untagged_opens (only 1) refl s t m w.1 w.2)
      ∙ ap (λ (v : List Bytes). fitted size' (joined (tagged_lines v))) lines
      ∙ ap (λ (v : List Bytes). fitted size' (joined (ascii "(book 2)" ∷ v))) (tag_untag 2 1 ps (ap lost_line (sym x.are) ∙ w.2))
      ∙ ap (λ (v : List Bytes). fitted size' (joined v)) (sym x.are)
      ∙ ap (fitted size') (joined_split s)
      ∙ is_fitted size' s h m.fits

  -- ---- equal rules
  -- "The new reader .. finds equal rules, so cards agree whether or not a book is tagged."
  pub same_tagged : (size : ℕ) (s t : Bytes) → to_tagged L size s ≡ converted t → (b : Formula) × (open_editions (only 1) L s ≡ opened b) × (open_editions both L t ≡ opened b)
  same_tagged size s t e = let w = tagged_made L size s t e in (w.0.formula, w.0.opens, tagged_opens both refl s t w.0 w.1)

  pub same_untagged : (size : ℕ) (s t : Bytes) → to_untagged L size s ≡ converted t → (b : Formula) × (open_editions (only 2) L s ≡ opened b) × (open_editions both L t ≡ opened b)
  same_untagged size s t e = let w = untagged_made L size s t e in (w.0.formula, w.0.opens, untagged_opens both refl s t w.0 w.1 w.2)
