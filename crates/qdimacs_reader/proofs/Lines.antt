-- A line by its first word.
use Prim.Native.Nat.{ℕ, zero, suc}
use mathlib.Core.Path.{◌≡◌, refl, sym, ap, subst, ◌∙◌}
use mathlib.Core.Bool.{Bool, true, false, cond, not}
use mathlib.Core.List.{List, [], ◌∷◌}
use mathlib.Core.Option.{Option, none, some}
use native.Mathlib.Omega.{arith}
use lib.IntN.{ℤ}
use lib.ListN.{get_or}
use lib.Dec.{eqb}
use Rattle.std.specs.Prelude.{Option as Answer, Some, None}
use Rattle.qbf.specs.Formula.{Quantifier, exists, forall, is_free, Literal}
use Rattle.theory.proofs.Basics.{not_false, not_true}
use Rattle.tables.specs.Views.{quantifier_code}
use Rattle.layout.specs.Words.{Bytes, space, split, same}
use Rattle.layout.specs.Forms.{then}
use Rattle.reader.specs.Items.{Filled}
use Rattle.qdimacs_form.specs.Lines.{edged, filled, literals, header_word, exists_word, forall_word, cnf_word, header_of, header_from, comment_byte}
use Rattle.qdimacs_form.specs.Lines as form
use Rattle.std.specs.Borrow.{Bor}
use Rattle.qdimacs_reader.specs.Words.{words, First}
use Rattle.qdimacs_reader.specs.declared.word.Word.{Word as Span}
use Rattle.qdimacs_reader.specs.Lines.{word_of, group_line, LineRead}
use Rattle.qdimacs_reader.specs.declared.line.Word.{Word}
use Rattle.qdimacs_reader.specs.declared.line.Line.{Line}
use Rattle.qdimacs_reader.specs.declared.line.Word.TheVariants as word
use Rattle.qdimacs_reader.specs.declared.line.Line.TheVariants as line

-- ---- the first byte and the first word
module _ (w : Bytes) where
  pub word_1 : same w header_word ≡ true → Some word.Header ≡ word_of w
  unfolding word_of
  word_1 e0 = rw e0

  pub word_2 : same w header_word ≡ false → same w exists_word ≡ true → Some word.Exists ≡ word_of w
  unfolding word_of
  word_2 e0 e1 = rw (e0, e1)

  pub word_3 : same w header_word ≡ false → same w exists_word ≡ false → same w forall_word ≡ true → Some word.Forall ≡ word_of w
  unfolding word_of
  word_3 e0 e1 e2 = rw (e0, e1, e2)

  pub word_4 : same w header_word ≡ false → same w exists_word ≡ false → same w forall_word ≡ false → None ≡ word_of w
  unfolding word_of
  word_4 e0 e1 e2 = rw (e0, e1, e2)

-- ---- a line by its first word
line_with : Answer Word → Bytes → List Bytes → Option form.Line
line_with (Some word.Header) w ws = header_from ws
line_with (Some word.Exists) w ws = then (literals false ws) (form.group_of exists)
line_with (Some word.Forall) w ws = then (literals false ws) (form.group_of forall)
line_with None w ws = then (literals true (w ∷ ws)) form.clause_of

by_word : (w : Bytes) (ws : List Bytes) → form.line_from (w ∷ ws) ≡ line_with (word_of w) w ws
unfolding line_with word_of form.line_from
by_word w ws = by (same w header_word) (same w exists_word) (same w forall_word)
  where
    by : (p e a : Bool) →
        cond p (header_from ws)
        (cond e (then (literals false ws) (form.group_of exists))
        (cond a (then (literals false ws) (form.group_of forall))
        (then (literals true (w ∷ ws)) form.clause_of)))
        ≡ line_with (cond p (Some word.Header) (cond e (Some word.Exists) (cond a (Some word.Forall) None))) w ws
    by true e a = refl
    by false true a = refl
    by false false true = refl
    by false false false = refl

-- a line with no word
pub no_words : (whole : Answer (Bor Bytes)) → words whole ≡ [] → form.line_from (words whole) ≡ none
unfolding form.line_from
no_words whole h = ap form.line_from h

-- what the items of a quantifier line say
group_read : (q : Quantifier) → is_free q ≡ false → (o : Option (List Literal)) (out : List ℤ) (n : ℕ) → Filled o (Some n) out → LineRead (then o (form.group_of q)) (group_line (quantifier_code q) n) out
group_read q f o out zero ([], e, k) = ap (λ (x : Option (List Literal)). then x (form.group_of q)) e
group_read q f o out zero (l ∷ ls, e, k) = absurd (omega (arith, k.count))
group_read q f o out (suc n) ([], e, k) = absurd (omega (arith, k.count))
group_read q f o out (suc n) (l ∷ ls, e, k) = (q, refl, f, (l ∷ ls, ap (λ (x : Option (List Literal)). then x (form.group_of q)) e, k))

module _ {whole : Answer (Bor Bytes)} {here : Span} (k : First whole here) {v : Answer Word} (is : v ≡ word_of here.word.now) where
  first : (x : Answer Word) → v ≡ x → form.line_from (words whole) ≡ line_with x here.word.now (words here.left)
  first x q = ap form.line_from k.is ∙ by_word here.word.now (words here.left) ∙ ap (λ (y : Answer Word). line_with y here.word.now (words here.left)) (sym is ∙ q)

  -- a quantifier line
  group_first : (q : Quantifier) → form.line_from (words whole) ≡ then (literals false (words here.left)) (form.group_of q) → literals false (words here.left) ≡ none → form.line_from (words whole) ≡ none
  group_first q w h = w ∙ ap (λ (o : Option (List Literal)). then o (form.group_of q)) h

  pub exists_none : v ≡ Some word.Exists → literals false (words here.left) ≡ none → form.line_from (words whole) ≡ none
  unfolding line_with
  exists_none q = group_first exists (first (Some word.Exists) q)

  pub forall_none : v ≡ Some word.Forall → literals false (words here.left) ≡ none → form.line_from (words whole) ≡ none
  unfolding line_with
  forall_none q = group_first forall (first (Some word.Forall) q)

  clause_first : v ≡ None → form.line_from (words whole) ≡ then (literals true (words whole)) form.clause_of
  unfolding line_with
  clause_first q = first None q ∙ ap (λ (ws : List Bytes). then (literals true ws) form.clause_of) (sym k.is)

  pub clause_none : v ≡ None → literals true (words whole) ≡ none → form.line_from (words whole) ≡ none
  clause_none q h = clause_first q ∙ ap (λ (o : Option (List Literal)). then o form.clause_of) h

  pub words_clause : (out : List ℤ) (n : ℕ) → v ≡ None → Filled (literals true (words whole)) (Some n) out → LineRead (form.line_from (words whole)) (Some (line.Clause n)) out
  words_clause out n q (ls, h, w) = (ls, clause_first q ∙ ap (λ (o : Option (List Literal)). then o form.clause_of) h, w)

  module _ (r : Answer Line) (out : List ℤ) where
    same_line : {o p : Option form.Line} → o ≡ p → LineRead p r out → LineRead o r out
    same_line q = subst (λ (x : Option form.Line). LineRead x r out) (sym q)

    pub words_header : v ≡ Some word.Header → ((t : List ℤ) → LineRead (header_from (words here.left)) r t) → LineRead (form.line_from (words whole)) r out
    unfolding line_with
    words_header q h = same_line (first (Some word.Header) q) (h out)

    module _ (n : ℕ) where
      pub words_exists : v ≡ Some word.Exists → Filled (literals false (words here.left)) (Some n) out → r ≡ group_line (quantifier_code exists) n → LineRead (form.line_from (words whole)) r out
      unfolding line_with
      words_exists q h z =
          same_line (first (Some word.Exists) q)
          (subst (λ (x : Answer Line). LineRead (then (literals false (words here.left)) (form.group_of exists)) x out) (sym z) (group_read exists refl (literals false (words here.left)) out n h))

      pub words_forall : v ≡ Some word.Forall → Filled (literals false (words here.left)) (Some n) out → r ≡ group_line (quantifier_code forall) n → LineRead (form.line_from (words whole)) r out
      unfolding line_with
      words_forall q h z =
          same_line (first (Some word.Forall) q)
          (subst (λ (x : Answer Line). LineRead (then (literals false (words here.left)) (form.group_of forall)) x out) (sym z) (group_read forall refl (literals false (words here.left)) out n h))

-- ---- the line
module _ (l : Bytes) {t : Bool} (first_byte : t ≡ eqb (get_or l 0 0) comment_byte) where
  pub line_comment : t ≡ true → form.line_of l ≡ some form.comment
  unfolding form.line_of
  line_comment h = let z = sym first_byte ∙ h in rw z

  module _ (h : t ≡ false) {u : Bool} (edges : u ≡ edged l) where
    pub line_unedged : not u ≡ true → form.line_of l ≡ none
    unfolding form.line_of
    line_unedged g = let z = sym first_byte ∙ h in let y = sym edges ∙ not_true u g in rw (z, y)

    pub line_words : not u ≡ false → form.line_of l ≡ form.line_from (filled (split space l))
    unfolding form.line_of
    line_words g = let z = sym first_byte ∙ h in let y = sym edges ∙ not_false u g in rw (z, y)
