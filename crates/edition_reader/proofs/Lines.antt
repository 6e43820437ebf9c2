-- A line of either edition by its first words.
use Prim.Native.Nat.{ℕ}
use mathlib.Core.Path.{◌≡◌, refl, sym, ap, subst, ◌∙◌}
use mathlib.Core.Bool.{Bool, true, false, cond}
use mathlib.Core.List.{List, [], ◌∷◌}
use mathlib.Core.Option.{Option, none, some}
use lib.IntN.{ℤ}
use lib.ListN.{length}
use lib.Seq.{take-nil}
use Rattle.std.specs.Prelude.{Option as Answer, Some}
use Rattle.qbf.specs.Formula.{Literal}
use Rattle.layout.specs.Words.{Bytes, split, space, same, number, digits, closed, inside}
use Rattle.layout.specs.Forms.{then, items, consed, Form, rule_word, form_from, one_word}
use Rattle.editions.specs.Lines.{says, tag_word, said, rule_line, exactly_one_line, tagged_line, rule_from, line_from, line_of}
use Rattle.editions.specs.Lines as form
use Rattle.std.specs.Borrow.{Bor}
use Rattle.reader.specs.Pieces.{pieces, Cut}
use Rattle.reader.specs.Items.{Filled}
use Rattle.reader.specs.Lines as old
use Rattle.reader.specs.declared.keyword.Line.{Line as FormLine}
use Rattle.reader.specs.declared.keyword.Line.TheVariants as first
use Rattle.reader.proofs.Words.{same_true}
use Rattle.edition_reader.specs.Lines.{form_line, tag_from, LineRead}
use Rattle.edition_reader.specs.declared.line.Line.{Line}
use Rattle.edition_reader.specs.declared.line.Line.TheVariants as line

-- ---- after "(tag"
pub tag_none : tag_from [] ≡ none
unfolding tag_from
tag_none = refl

module _ {s w : Bytes} {left : Answer (Bor Bytes)} (p : Cut space s w left) where
  tag_is : tag_from (split space s) ≡ tagged_line (then (closed w) number) (items true (pieces space left))
  unfolding tag_from
  tag_is = ap tag_from p.is

  pub tag_unread : then (closed w) number ≡ none → tag_from (split space s) ≡ none
  tag_unread e = tag_is ∙ ap (λ (o : Option ℕ). tagged_line o (items true (pieces space left))) e

  pub tag_no_items : {k : ℕ} → then (closed w) number ≡ some k → items true (pieces space left) ≡ none → tag_from (split space s) ≡ none
  tag_no_items {k} e i = tag_is ∙ ap (λ (o : Option ℕ). tagged_line o (items true (pieces space left))) e ∙ ap (tagged_line (some k)) i

  pub tag_read : (k n : ℕ) {out : List ℤ} → then (closed w) number ≡ some k → Filled (items true (pieces space left)) (Some n) out → LineRead (tag_from (split space s)) (Some (line.Tagged k n)) out
  tag_read k n e (ls, i, kept) = (ls, tag_is ∙ ap (λ (o : Option ℕ). tagged_line o (items true (pieces space left))) e ∙ ap (tagged_line (some k)) i, kept)

-- ---- after `rule`
pub rule_empty : (out : List ℤ) → LineRead (rule_from []) (Some (line.Rule 0)) out
unfolding rule_from
rule_empty out = ([], refl, record { count = refl; first = sym (take-nil (length out)) })

tag_word_lem : (ws : List Bytes) → rule_from (tag_word ∷ ws) ≡ tag_from ws
unfolding rule_from tag_from items same consed number digits
tag_word_lem [] = refl
tag_word_lem (v ∷ ws) = refl

plain_word : (w : Bytes) (ws : List Bytes) → same w tag_word ≡ false → rule_from (w ∷ ws) ≡ then (items true (w ∷ ws)) rule_line
unfolding rule_from
plain_word w [] e = refl
plain_word w (v ∷ ws) e = ap (λ (t : Bool). cond t (tagged_line (then (closed v) number) (items true ws)) (then (items true (w ∷ v ∷ ws)) rule_line)) e

module _ {s w : Bytes} {left : Answer (Bor Bytes)} (p : Cut space s w left) where
  pub rule_tagged : (r : Answer Line) (out : List ℤ) → same w tag_word ≡ true → LineRead (tag_from (pieces space left)) r out → LineRead (rule_from (split space s)) r out
  rule_tagged r out e h =
      subst (λ (o : Option form.Line). LineRead o r out)
      (sym (ap rule_from p.is ∙ ap (λ (v : Bytes). rule_from (v ∷ pieces space left)) (same_true w tag_word e) ∙ tag_word_lem (pieces space left))) h

  pub plain_is : same w tag_word ≡ false → rule_from (split space s) ≡ then (items true (split space s)) rule_line
  plain_is e = ap rule_from p.is ∙ plain_word w (pieces space left) e ∙ ap (λ (ws : List Bytes). then (items true ws) rule_line) (sym p.is)

-- .. whose literals are read
module _ (ws : List Bytes) (is : rule_from ws ≡ then (items true ws) rule_line) where
  pub rule_unread : items true ws ≡ none → rule_from ws ≡ none
  rule_unread i = is ∙ ap (λ (o : Option (List Literal)). then o rule_line) i

  pub rule_read : (n : ℕ) {out : List ℤ} → Filled (items true ws) (Some n) out → LineRead (rule_from ws) (Some (line.Rule n)) out
  rule_read n (ls, i, kept) = (ls, is ∙ ap (λ (o : Option (List Literal)). then o rule_line) i, kept)

-- ---- after `one`
pub one_unread : (ws : List Bytes) → items true ws ≡ none → then (items true ws) exactly_one_line ≡ none
one_unread ws i = ap (λ (o : Option (List Literal)). then o exactly_one_line) i

pub one_read : (ws : List Bytes) (n : ℕ) {out : List ℤ} → Filled (items true ws) (Some n) out → LineRead (then (items true ws) exactly_one_line) (Some (line.One n)) out
one_read ws n (ls, i, kept) = (ls, ap (λ (o : Option (List Literal)). then o exactly_one_line) i, kept)

-- ---- the first word
pub form_unread : (o : Option Form) → o ≡ none → then o said ≡ none
form_unread o h = ap (λ (x : Option Form). then x said) h

pub form_read : (o : Option Form) (l : FormLine) (out : List ℤ) → old.LineIs o l out → LineRead (then o said) (Some (form_line l)) out
form_read o first.Book out (e, h, k) = (e, ap (λ (x : Option Form). then x said) h, k)
form_read o (first.Block κ n) out (q, c, (ns, h, k)) = (q, c, (ns, ap (λ (x : Option Form). then x said) h, k))
form_read o (first.Rule n) out (ls, h, k) = (ls, ap (λ (x : Option Form). then x said) h, k)
form_read o first.End out h = ap (λ (x : Option Form). then x said) h

module _ {s w : Bytes} {left : Answer (Bor Bytes)} (p : Cut space s w left) (r : Answer Line) (out : List ℤ) where
  words_are : (o : Option form.Line) → line_from (split space s) ≡ o → LineRead o r out → LineRead (line_from (split space s)) r out
  words_are o q h = subst (λ (x : Option form.Line). LineRead x r out) (sym q) h

  pub words_rule : same w rule_word ≡ true → LineRead (rule_from (pieces space left)) r out → LineRead (line_from (split space s)) r out
  unfolding line_from
  words_rule q h = words_are (rule_from (pieces space left)) (ap line_from p.is ∙ rw q) h

  pub words_one : same w rule_word ≡ false → same w one_word ≡ true → LineRead (then (items true (pieces space left)) exactly_one_line) r out → LineRead (line_from (split space s)) r out
  unfolding line_from
  words_one q t h = words_are (then (items true (pieces space left)) exactly_one_line) (ap line_from p.is ∙ rw (q, t)) h

  pub words_form : same w rule_word ≡ false → same w one_word ≡ false → LineRead (then (form_from (split space s)) said) r out → LineRead (line_from (split space s)) r out
  unfolding line_from
  words_form q t h = words_are (then (form_from (split space s)) said) (ap line_from p.is ∙ (rw (q, t) (ap (λ (ws : List Bytes). then (form_from ws) said) (sym p.is)))) h

-- ---- the brackets
pub line_out : (l : Bytes) → inside l ≡ none → line_of l ≡ none
unfolding line_of
line_out l h = rw h

pub line_in_lem : (l : Bytes) {s : Bytes} → inside l ≡ some s → line_of l ≡ line_from (split space s)
unfolding line_of
line_in_lem l h = rw h
