-- Keywords: the tests in the order of the code, and the form of a line by its keyword.
use Prim.Native.Nat.{ℕ, suc}
use mathlib.Core.Path.{◌≡◌, refl, sym, ap, subst, ◌∙◌}
use mathlib.Core.Bool.{Bool, true, false, cond}
use mathlib.Core.List.{List, [], ◌∷◌, map}
use mathlib.Core.Option.{Option, none, some}
use native.Mathlib.Omega.{arith}
use borrow.Author.Tests.{ne_eqb}
use lib.IntN.{ℤ, pos}
use lib.ListN.{length}
use Rattle.std.specs.Prelude.{Option as Answer, Some, None}
use Rattle.std.specs.Bool.{then_some}
use Rattle.qbf.specs.Formula.{Literal, free, exists, forall, number_of}
use Rattle.layout.specs.Words.{Bytes, same, split, space, number}
use Rattle.layout.specs.Forms.{then, consed, items, book_word, flags_word, exists_word, forall_word, rule_word, end_word, Form, book_form, flags_form, block_form, rule_form, end_form, form_from}
use Rattle.std.specs.Borrow.{Bor}
use Rattle.reader.specs.Pieces.{pieces, Cut}
use Rattle.reader.specs.Items.{Kept}
use Rattle.reader.specs.Lines.{pick, word_of, signs, form_with, line_of, LineRead}
use Rattle.reader.specs.declared.keyword.Word.{Word}
use Rattle.reader.specs.declared.keyword.Line.{Line}
use Rattle.reader.specs.declared.keyword.Word.TheVariants as word
use Rattle.reader.specs.declared.keyword.Line.TheVariants as line
use Rattle.reader.proofs.Lines.{made, by_first}

-- ---- keywords
module _ (w : Bytes) where
  pub word_1 : same w book_word ≡ true → Some word.Book ≡ word_of w
  unfolding word_of
  word_1 e0 = rw e0

  pub word_2 : same w book_word ≡ false → same w flags_word ≡ true → Some word.Flags ≡ word_of w
  unfolding word_of
  word_2 e0 e1 = rw (e0, e1)

  pub word_3 : same w book_word ≡ false → same w flags_word ≡ false → same w exists_word ≡ true → Some word.Exists ≡ word_of w
  unfolding word_of
  word_3 e0 e1 e2 = rw (e0, e1, e2)

  pub word_4 : same w book_word ≡ false → same w flags_word ≡ false → same w exists_word ≡ false → same w forall_word ≡ true → Some word.Forall ≡ word_of w
  unfolding word_of
  word_4 e0 e1 e2 e3 = rw (e0, e1, e2, e3)

  pub word_5 : same w book_word ≡ false → same w flags_word ≡ false → same w exists_word ≡ false → same w forall_word ≡ false → same w rule_word ≡ true → Some word.Rule ≡ word_of w
  unfolding word_of
  word_5 e0 e1 e2 e3 e4 = rw (e0, e1, e2, e3, e4)

  pub word_6 : same w book_word ≡ false → same w flags_word ≡ false → same w exists_word ≡ false → same w forall_word ≡ false → same w rule_word ≡ false → same w end_word ≡ true → Some word.End ≡ word_of w
  unfolding word_of
  word_6 e0 e1 e2 e3 e4 e5 = rw (e0, e1, e2, e3, e4, e5)

  pub word_7 : same w book_word ≡ false → same w flags_word ≡ false → same w exists_word ≡ false → same w forall_word ≡ false → same w rule_word ≡ false → same w end_word ≡ false → None ≡ word_of w
  unfolding word_of
  word_7 e0 e1 e2 e3 e4 e5 = rw (e0, e1, e2, e3, e4, e5)

-- ---- forms by keyword
-- items without signs are numbers
unsigned_more : (o : Option ℕ) (r : Option (List Literal)) (ls : List Literal) → ((ms : List Literal) → r ≡ some ms → ms ≡ map pos (map number_of ms)) → consed pos o r ≡ some ls
    → ls ≡ map pos (map number_of ls)
unfolding consed
unsigned_more none r ls ih e = absurd (let z : ◌≡◌ {A = ℕ} 0 1 = cc in omega arith)
unsigned_more (some n) none ls ih e = absurd (let z : ◌≡◌ {A = ℕ} 0 1 = cc in omega arith)
unsigned_more (some n) (some ms) ls ih e =
    let q : pos n ∷ ms ≡ ls = cc in
    subst (λ (xs : List Literal). xs ≡ map pos (map number_of xs)) q (ap (λ (xs : List Literal). pos n ∷ xs) (ih ms refl))

pub unsigned : (ws : List Bytes) (ls : List Literal) → items false ws ≡ some ls → ls ≡ map pos (map number_of ls)
unfolding items
unsigned [] ls e = let q : [] ≡ ls = cc in subst (λ (xs : List Literal). xs ≡ map pos (map number_of xs)) q refl
unsigned (w ∷ []) ls e = unsigned_more (number w) (some []) ls (λ ms z. let q : [] ≡ ms = cc in subst (λ (xs : List Literal). xs ≡ map pos (map number_of xs)) q refl) e
unsigned (w ∷ v ∷ ws) ls e = unsigned_more (number w) (items false (v ∷ ws)) ls (unsigned (v ∷ ws)) e

chosen : Bool → Bool → Bool → Bool → Bool → Bool → Answer Word
chosen a b c d e f = pick a word.Book (pick b word.Flags (pick c word.Exists (pick d word.Forall (pick e word.Rule (pick f word.End None)))))

by_word : (w : Bytes) (ws : List Bytes) → form_from (w ∷ ws) ≡ made signs form_with ws (word_of w)
unfolding form_from word_of chosen
by_word w ws = go (same w book_word) (same w flags_word) (same w exists_word) (same w forall_word) (same w rule_word) (same w end_word)
  where
    go : (a b c d e f : Bool) →
        cond a (then (items false ws) book_form)
        (cond b (then (items false ws) flags_form)
        (cond c (then (items false ws) (block_form exists))
        (cond d (then (items false ws) (block_form forall))
        (cond e (then (items true ws) rule_form)
        (cond f (then (items false ws) end_form)
        none)))))
        ≡ made signs form_with ws (chosen a b c d e f)
    go true b c d e f = refl
    go false true c d e f = refl
    go false false true d e f = refl
    go false false false true e f = refl
    go false false false false true f = refl
    go false false false false false true = refl
    go false false false false false false = refl

-- ---- the line of a keyword
-- What a keyword's line says of the form that its items make; items without signs are numbers.
by_count : (w : Word) (ls : List Literal) (out : List ℤ) → (signs w ≡ false → ls ≡ map pos (map number_of ls)) → Kept (length ls) out ls → LineRead (form_with w ls) (line_of w (length ls)) out
by_count word.Book [] out u k = refl
by_count word.Book (l ∷ []) out u k = (number_of l, refl, subst (Kept 1 out) (u refl) k)
by_count word.Book (l ∷ m ∷ ls) out u k = subst (λ (x : Bool). LineRead none (then_some x line.Book) out) (sym (ne_eqb (suc (suc (length ls))) 1 (λ e. omega arith))) refl
by_count word.Flags ls out u k = (free, refl, (map number_of ls, refl, subst (Kept (length ls) out) (u refl) k))
by_count word.Exists [] out u k = refl
by_count word.Exists (l ∷ ls) out u k = (exists, refl, (map number_of (l ∷ ls), refl, subst (Kept (suc (length ls)) out) (u refl) k))
by_count word.Forall [] out u k = refl
by_count word.Forall (l ∷ ls) out u k = (forall, refl, (map number_of (l ∷ ls), refl, subst (Kept (suc (length ls)) out) (u refl) k))
by_count word.Rule ls out u k = (ls, refl, k)
by_count word.End [] out u k = refl
by_count word.End (l ∷ ls) out u k = subst (λ (x : Bool). LineRead none (then_some x line.End) out) (sym (ne_eqb (suc (length ls)) 0 (λ e. omega arith))) refl

line_form : (w : Word) (ls : List Literal) (n : ℕ) (out : List ℤ) → (signs w ≡ false → ls ≡ map pos (map number_of ls)) → Kept n out ls → LineRead (form_with w ls) (line_of w n) out
line_form w ls n out u k =
    subst (λ (m : ℕ). LineRead (form_with w ls) (line_of w m) out) (sym k.count) (by_count w ls out u (subst (λ (m : ℕ). Kept m out ls) k.count k))

module _ {s v : Bytes} {left : Answer (Bor Bytes)} (p : Cut space s v left) {o : Answer Word} (is : o ≡ word_of v) where
  -- another word than a keyword
  pub form_unnamed : o ≡ None → form_from (split space s) ≡ none
  form_unnamed h = by_first form_from word_of signs form_with by_word p (sym h ∙ is)

  module _ {w : Word} (h : o ≡ Some w) {g : Bool} (is_g : g ≡ signs w) where
    form_is : form_from (split space s) ≡ then (items g (pieces space left)) (form_with w)
    form_is = by_first form_from word_of signs form_with by_word p (sym h ∙ is) ∙ ap (λ (x : Bool). then (items x (pieces space left)) (form_with w)) (sym is_g)

    pub form_none : items g (pieces space left) ≡ none → form_from (split space s) ≡ none
    form_none q = form_is ∙ ap (λ (o : Option (List Literal)). then o (form_with w)) q

    pub form_some : {ls : List Literal} {n : ℕ} {out : List ℤ} {r : Answer Line} → items g (pieces space left) ≡ some ls → Kept n out ls → r ≡ line_of w n
        → LineRead (form_from (split space s)) r out
    form_some {ls} {n} {out} {r} q k t =
        subst (λ (o : Option Form). LineRead o r out) (sym (form_is ∙ ap (λ (o : Option (List Literal)). then o (form_with w)) q))
        (subst (λ (x : Answer Line). LineRead (form_with w ls) x out) (sym t) (line_form w ls n out (λ z. unsigned (pieces space left) ls (ap (λ (x : Bool). items x (pieces space left)) (sym (is_g ∙ z)) ∙ q)) k))
