-- The bytes of a line by what it says: a rule, with its tag or without, the book's line, any other.
use Prim.Native.Nat.{ℕ, ◌<◌}
use mathlib.Core.Path.{◌≡◌, refl, sym, ap, ◌∙◌, subst}
use mathlib.Core.Logic.{◌⊎◌, inl, inr}
use mathlib.Core.Bool.{Bool, true, false, cond, true≢false}
use mathlib.Core.List.{List, [], ◌∷◌, ◌++◌, map, append_assoc, append-nil}
use mathlib.Core.Option.{Option, none, some}
use native.Mathlib.Omega.{arith}
use lib.IntN.{pos}
use Rattle.qbf.specs.Formula.{Quantifier, free, exists, forall, Literal, number_of}
use Rattle.layout.specs.Words.{Bytes, ascii, space, opening, closing, split, same, digits, number, closed, inside}
use Rattle.layout.specs.Forms.{then, consed, items, Form, book, block, clause, end, book_form, flags_form, block_form, rule_form, end_form, book_word, flags_word, exists_word, forall_word, rule_word, end_word, form_from, one_word}
use Rattle.layout.specs.Output.{decimal}
use Rattle.layout_laws.proofs.Decimal.{number_decimal}
use Rattle.booktext_laws.proofs.Lines.{lacks, lacks_append, split_first, closed_append, inside_append, digits_space}
use Rattle.editions.specs.Lines.{Line, says, tagged, one, tag_word, said, exactly_one_line, rule_line, tagged_line, rule_from, line_from, line_of}
use Rattle.editions.specs.Converting.{rule_head, is_rule, tag_text}
use Rattle.editions_laws.proofs.Words.{none_some, some_same, same_true, Tail, tail_split, Parts, pieces, parts, closed_is, inside_is, number_text}

-- two lines are not one: what the constructors of a line are told apart by
abbrev pub is_plain : Line → Bool
is_plain (says (book e)) = true
is_plain (says (block κ ns)) = true
is_plain (says (clause ls)) = false
is_plain (says end) = true
is_plain (tagged k ls) = false
is_plain (one ls) = true

apart : (f g : Line) → some f ≡ some g → is_plain f ≡ true → is_plain g ≡ false → ⊥
apart f g e p q = true≢false (sym p ∙ ap is_plain (some_same f g e) ∙ q)

-- ---- the words of a line
pub record Shape (l : Bytes) (f : Line) : Type 0 where
  pub word : Bytes
  pub rest : Bytes
  pub words : List Bytes
  pub is : l ≡ opening ∷ (word ++ (rest ++ (closing ∷ [])))
  pub free_of : lacks space word ≡ true
  pub tail : Tail space rest words
  pub says_so : line_from (word ∷ words) ≡ some f

pub shape : (l : Bytes) (f : Line) → line_of l ≡ some f → Shape l f
unfolding line_of
shape l f e = by (inside l) refl e
  where
    by : (o : Option Bytes) → inside l ≡ o → then o (λ s. line_from (split space s)) ≡ some f → Shape l f
    by none q z = absurd (none_some f z)
    by (some s) q z =
        let p = pieces space s in
        record {
          word = p.0;
          rest = p.3.rest;
          words = p.1;
          is = inside_is l s q ∙ ap (λ (t : Bytes). opening ∷ (t ++ (closing ∷ []))) p.3.is ∙ ap (λ (t : Bytes). opening ∷ t) (append_assoc p.0 p.3.rest (closing ∷ []));
          free_of = p.3.free_of;
          tail = p.3.tail;
          says_so = ap line_from (sym p.2) ∙ z;
        }

-- a line of these words
pub shape_line : (w x : Bytes) (ws : List Bytes) → lacks space w ≡ true → Tail space x ws → line_of (opening ∷ (w ++ (x ++ (closing ∷ [])))) ≡ line_from (w ∷ ws)
unfolding line_of
shape_line w x ws h t =
    ap (λ (s : Bytes). then (inside (opening ∷ s)) (λ v. line_from (split space v))) (sym (append_assoc w x (closing ∷ [])))
    ∙ ap (λ (o : Option Bytes). then o (λ v. line_from (split space v))) (inside_append (w ++ x))
    ∙ ap line_from (tail_split space w x ws h t)

-- ---- rules
-- no item is the word of a tag
tag_none : (v : Bytes) (ws : List Bytes) → items true (tag_word ∷ v ∷ ws) ≡ none
unfolding items same number digits consed
tag_none v ws = refl

-- without a tag the words are the literals
pub untagged_from : (ws : List Bytes) (ls : List Literal) → items true ws ≡ some ls → rule_from ws ≡ some (says (clause ls))
unfolding rule_from items
untagged_from [] ls e = ap (λ (o : Option (List Literal)). then o rule_line) e
untagged_from (w ∷ []) ls e = ap (λ (o : Option (List Literal)). then o rule_line) e
untagged_from (w ∷ v ∷ ws) ls e = by (same w tag_word) refl
  where
    by : (t : Bool) → same w tag_word ≡ t → cond t (tagged_line (then (closed v) number) (items true ws)) (then (items true (w ∷ v ∷ ws)) rule_line) ≡ some (says (clause ls))
    by true q = absurd (none_some ls (sym (tag_none v ws) ∙ ap (λ (x : Bytes). items true (x ∷ v ∷ ws)) (sym (same_true w tag_word q)) ∙ e))
    by false q = ap (λ (o : Option (List Literal)). then o rule_line) e

-- what the words after the keyword say
pub record Tagged (ws : List Bytes) (k : ℕ) (ls : List Literal) : Type 0 where
  pub number_word : Bytes
  pub others : List Bytes
  pub are : ws ≡ tag_word ∷ (number_word ++ (closing ∷ [])) ∷ others
  pub number_is : number number_word ≡ some k
  pub literals_are : items true others ≡ some ls

Ruled : List Bytes → Line → Type 0
Ruled ws f = ((ls : List Literal) × (f ≡ says (clause ls)) × (items true ws ≡ some ls)) ⊎ ((k : ℕ) × (ls : List Literal) × (f ≡ tagged k ls) × Tagged ws k ls)

rule_from_lem : (ws : List Bytes) (f : Line) → rule_from ws ≡ some f → Ruled ws f
unfolding rule_from Ruled items
rule_from_lem [] f e = inl ([], sym (some_same (says (clause [])) f e), refl)
rule_from_lem (w ∷ []) f e = untagged (w ∷ []) (items true (w ∷ [])) refl e
  where
    untagged : (ws : List Bytes) (o : Option (List Literal)) → items true ws ≡ o → then o rule_line ≡ some f → Ruled ws f
    untagged ws none q z = absurd (none_some f z)
    untagged ws (some ls) q z = inl (ls, sym (some_same (says (clause ls)) f z), q)
rule_from_lem (w ∷ v ∷ ws) f e = by (same w tag_word) refl e
  where
    untagged : (o : Option (List Literal)) → items true (w ∷ v ∷ ws) ≡ o → then o rule_line ≡ some f → Ruled (w ∷ v ∷ ws) f
    untagged none q z = absurd (none_some f z)
    untagged (some ls) q z = inl (ls, sym (some_same (says (clause ls)) f z), q)

    with_tag : w ≡ tag_word → (c : Option Bytes) → closed v ≡ c → (o : Option ℕ) → then c number ≡ o → (p : Option (List Literal)) → items true ws ≡ p → tagged_line o p ≡ some f → Ruled (w ∷ v ∷ ws) f
    with_tag t c q none r p y z = absurd (none_some f z)
    with_tag t c q (some k) r none y z = absurd (none_some f z)
    with_tag t none q (some k) r (some ls) y z = absurd (none_some k r)
    with_tag t (some u) q (some k) r (some ls) y z =
        inr (k, ls, sym (some_same (tagged k ls) f z), record { number_word = u; others = ws; are = ap (λ (x : Bytes). x ∷ v ∷ ws) t ∙ ap (λ (x : Bytes). tag_word ∷ x ∷ ws) (closed_is v u q); number_is = r; literals_are = y })

    by : (t : Bool) → same w tag_word ≡ t → cond t (tagged_line (then (closed v) number) (items true ws)) (then (items true (w ∷ v ∷ ws)) rule_line) ≡ some f → Ruled (w ∷ v ∷ ws) f
    by true q z = with_tag (same_true w tag_word q) (closed v) refl (then (closed v) number) refl (items true ws) refl z
    by false q z = untagged (items true (w ∷ v ∷ ws)) refl z

ruled_plain : (ws : List Bytes) (f : Line) → Ruled ws f → is_plain f ≡ false
unfolding Ruled
ruled_plain ws f (inl p) = ap is_plain p.1
ruled_plain ws f (inr p) = ap is_plain p.2

untagged_is : (ws : List Bytes) (ls : List Literal) → Ruled ws (says (clause ls)) → items true ws ≡ some ls
unfolding Ruled
untagged_is ws ls (inl p) = p.2 ∙ ap some (cc)
untagged_is ws ls (inr p) = absurd (let q = p.2 in let z : ◌≡◌ {A = ℕ} 0 1 = cc in omega arith)

tagged_is : (ws : List Bytes) (k : ℕ) (ls : List Literal) → Ruled ws (tagged k ls) → Tagged ws k ls
unfolding Ruled
tagged_is ws k ls (inl p) = absurd (let q = p.1 in let z : ◌≡◌ {A = ℕ} 0 1 = cc in omega arith)
tagged_is ws k ls (inr p) = subst (λ (x : ℕ). Tagged ws x ls) (same_tag p.0 k p.1 ls (sym p.2)).0 (subst (Tagged ws p.0) (same_tag p.0 k p.1 ls (sym p.2)).1 p.3)
  where
    same_tag : (i j : ℕ) (ms ns : List Literal) → tagged i ms ≡ tagged j ns → (i ≡ j) × (ms ≡ ns)
    same_tag i j ms ns q = (cc, cc)

-- ---- the other forms
-- a form of another keyword is no rule, and its line does not begin as a rule's
form_plain : (w : Bytes) (ws : List Bytes) (f : Form) → same w rule_word ≡ false → form_from (w ∷ ws) ≡ some f → (is_plain (says f) ≡ true) × ((r : Bytes) → is_rule (opening ∷ (w ++ r)) ≡ false)
unfolding form_from is_rule same
form_plain w ws f n e = by (same w book_word) refl (same w flags_word) refl (same w exists_word) refl (same w forall_word) refl (same w end_word) refl (rw n at e)
  where
    Wanted : Type 0
    Wanted = (is_plain (says f) ≡ true) × ((r : Bytes) → is_rule (opening ∷ (w ++ r)) ≡ false)

    starting : (v : Bytes) → same w v ≡ true → ((r : Bytes) → is_rule (opening ∷ (v ++ r)) ≡ false) → (r : Bytes) → is_rule (opening ∷ (w ++ r)) ≡ false
    starting v q h r = ap (λ (x : Bytes). is_rule (opening ∷ (x ++ r))) (same_true w v q) ∙ h r

    booked : (o : Option (List Literal)) → then o book_form ≡ some f → is_plain (says f) ≡ true
    booked none z = absurd (none_some f z)
    booked (some []) z = absurd (none_some f z)
    booked (some (l ∷ [])) z = sym (ap (λ (x : Form). is_plain (says x)) (some_same (book (number_of l)) f z))
    booked (some (l ∷ m ∷ ls)) z = absurd (none_some f z)

    flagged : (o : Option (List Literal)) → then o flags_form ≡ some f → is_plain (says f) ≡ true
    flagged none z = absurd (none_some f z)
    flagged (some ls) z = sym (ap (λ (x : Form). is_plain (says x)) (some_same (block free (map number_of ls)) f z))

    blocked : (κ : Quantifier) (o : Option (List Literal)) → then o (block_form κ) ≡ some f → is_plain (says f) ≡ true
    blocked κ none z = absurd (none_some f z)
    blocked κ (some []) z = absurd (none_some f z)
    blocked κ (some (l ∷ ls)) z = sym (ap (λ (x : Form). is_plain (says x)) (some_same (block κ (map number_of (l ∷ ls))) f z))

    ended : (o : Option (List Literal)) → then o end_form ≡ some f → is_plain (says f) ≡ true
    ended none z = absurd (none_some f z)
    ended (some []) z = sym (ap (λ (x : Form). is_plain (says x)) (some_same end f z))
    ended (some (l ∷ ls)) z = absurd (none_some f z)

    by : (a : Bool) → same w book_word ≡ a → (b : Bool) → same w flags_word ≡ b → (c : Bool) → same w exists_word ≡ c → (d : Bool) → same w forall_word ≡ d → (g : Bool) → same w end_word ≡ g
        → cond a (then (items false ws) book_form)
        (cond b (then (items false ws) flags_form)
        (cond c (then (items false ws) (block_form exists))
        (cond d (then (items false ws) (block_form forall))
        (cond g (then (items false ws) end_form)
        none)))) ≡ some f → Wanted
    by true p b q c r d s g t z = (booked (items false ws) z, starting book_word p (λ x. refl))
    by false p true q c r d s g t z = (flagged (items false ws) z, starting flags_word q (λ x. refl))
    by false p false q true r d s g t z = (blocked exists (items false ws) z, starting exists_word r (λ x. refl))
    by false p false q false r true s g t z = (blocked forall (items false ws) z, starting forall_word s (λ x. refl))
    by false p false q false r false s true t z = (ended (items false ws) z, starting end_word t (λ x. refl))
    by false p false q false r false s false t z = absurd (none_some f z)

-- what a line says, by its keyword
line_from_lem : (w : Bytes) (ws : List Bytes) (f : Line) → line_from (w ∷ ws) ≡ some f → ((w ≡ rule_word) × (rule_from ws ≡ some f)) ⊎ ((is_plain f ≡ true) × ((r : Bytes) → is_rule (opening ∷ (w ++ r)) ≡ false))
unfolding line_from is_rule same
line_from_lem w ws f e = by (same w rule_word) refl (same w one_word) refl e
  where
    ones : (o : Option (List Literal)) → then o exactly_one_line ≡ some f → is_plain f ≡ true
    ones none z = absurd (none_some f z)
    ones (some ls) z = sym (ap is_plain (some_same (one ls) f z))

    forms : same w rule_word ≡ false → (o : Option Form) → form_from (w ∷ ws) ≡ o → then o said ≡ some f → (is_plain f ≡ true) × ((r : Bytes) → is_rule (opening ∷ (w ++ r)) ≡ false)
    forms n none q z = absurd (none_some f z)
    forms n (some g) q z = let p = form_plain w ws g n q in (ap is_plain (sym (some_same (says g) f z)) ∙ p.0, p.1)

    by : (a : Bool) → same w rule_word ≡ a → (b : Bool) → same w one_word ≡ b → cond a (rule_from ws) (cond b (then (items true ws) exactly_one_line) (then (form_from (w ∷ ws)) said)) ≡ some f
        → ((w ≡ rule_word) × (rule_from ws ≡ some f)) ⊎ ((is_plain f ≡ true) × ((r : Bytes) → is_rule (opening ∷ (w ++ r)) ≡ false))
    by true p b q z = inl (same_true w rule_word p, z)
    by false p true q z = inr (ones (items true ws) z, λ r. ap (λ (x : Bytes). is_rule (opening ∷ (x ++ r))) (same_true w one_word q))
    by false p false q z = inr (forms p (form_from (w ∷ ws)) refl z)

-- ---- the bytes of a rule
-- `(rule`, the bytes T, then its literals
pub record RuleShape (l T : Bytes) (ls : List Literal) : Type 0 where
  pub rest : Bytes
  pub words : List Bytes
  pub is : l ≡ rule_head ++ (T ++ (rest ++ (closing ∷ [])))
  pub tail : Tail space rest words
  pub literals_are : items true words ≡ some ls

-- a line that says no rule does not begin as a rule's
pub plain_line : (l : Bytes) (f : Line) → line_of l ≡ some f → is_plain f ≡ true → is_rule l ≡ false
plain_line l f e p = by (line_from_lem s.word s.words f s.says_so)
  where
    s : Shape l f
    s = shape l f e

    by : ((s.word ≡ rule_word) × (rule_from s.words ≡ some f)) ⊎ ((is_plain f ≡ true) × ((r : Bytes) → is_rule (opening ∷ (s.word ++ r)) ≡ false)) → is_rule l ≡ false
    by (inl q) = absurd (true≢false (sym p ∙ ruled_plain s.words f (rule_from_lem s.words f q.1)))
    by (inr q) = ap is_rule s.is ∙ q.1 (s.rest ++ (closing ∷ []))

-- the words of a line that says a rule
rule_words : (l : Bytes) (f : Line) → is_plain f ≡ false → (s : Shape l f) → (s.word ≡ rule_word) × Ruled s.words f
rule_words l f p s = by (line_from_lem s.word s.words f s.says_so)
  where
    by : ((s.word ≡ rule_word) × (rule_from s.words ≡ some f)) ⊎ ((is_plain f ≡ true) × ((r : Bytes) → is_rule (opening ∷ (s.word ++ r)) ≡ false)) → (s.word ≡ rule_word) × Ruled s.words f
    by (inl q) = (q.0, rule_from_lem s.words f q.1)
    by (inr q) = absurd (true≢false (sym q.0 ∙ p))

rule_bytes : (l : Bytes) (f : Line) (s : Shape l f) → s.word ≡ rule_word → l ≡ rule_head ++ (s.rest ++ (closing ∷ []))
rule_bytes l f s e = s.is ∙ ap (λ (w : Bytes). opening ∷ (w ++ (s.rest ++ (closing ∷ [])))) e

pub clause_shape : (l : Bytes) (ls : List Literal) → line_of l ≡ some (says (clause ls)) → RuleShape l [] ls
clause_shape l ls e =
    let s = shape l (says (clause ls)) e in
    let w = rule_words l (says (clause ls)) refl s in
    record { rest = s.rest; words = s.words; is = rule_bytes l (says (clause ls)) s w.0; tail = s.tail; literals_are = untagged_is s.words ls w.1 }

pub clause_line_lem : (l : Bytes) (ls : List Literal) → RuleShape l [] ls → line_of l ≡ some (says (clause ls))
unfolding line_from same
clause_line_lem l ls r = ap line_of r.is ∙ shape_line rule_word r.rest r.words refl r.tail ∙ untagged_from r.words ls r.literals_are

-- a tail with a word begins with a space
tail_word : (x w : Bytes) (ws : List Bytes) → Tail space x (w ∷ ws) → (y : Bytes) × (x ≡ space ∷ y) × Parts space y w ws
tail_word x w ws (inl p) = absurd (let q = p.1 in let z : ◌≡◌ {A = ℕ} 0 1 = cc in omega arith)
tail_word x w ws (inr p) = (p.0, p.1, parts space p.0 w ws p.2)

pub tagged_shape : (l : Bytes) (k : ℕ) (ls : List Literal) → line_of l ≡ some (tagged k ls) → RuleShape l (tag_text k) ls
unfolding tag_text
tagged_shape l k ls e = record { rest = p₂.rest; words = t.others; is = rule_bytes l (tagged k ls) s w.0 ∙ ap (λ (x : Bytes). rule_head ++ x) tag_first; tail = p₂.tail; literals_are = t.literals_are }
  where
    s : Shape l (tagged k ls)
    s = shape l (tagged k ls) e

    w : (s.word ≡ rule_word) × Ruled s.words (tagged k ls)
    w = rule_words l (tagged k ls) refl s

    t : Tagged s.words k ls
    t = tagged_is s.words k ls w.1

    v : Bytes
    v = t.number_word ++ (closing ∷ [])

    a : (y : Bytes) × (s.rest ≡ space ∷ y) × Parts space y tag_word (v ∷ t.others)
    a = tail_word s.rest tag_word (v ∷ t.others) (subst (Tail space s.rest) t.are s.tail)

    b : (y : Bytes) × (a.2.rest ≡ space ∷ y) × Parts space y v t.others
    b = tail_word a.2.rest v t.others a.2.tail

    p₂ : Parts space b.0 v t.others
    p₂ = b.2

    after : s.rest ≡ tag_text k ++ p₂.rest
    after =
        a.1 ∙ ap (λ (x : Bytes). space ∷ x) (a.2.is ∙ ap (λ (x : Bytes). tag_word ++ x) (b.1 ∙ ap (λ (x : Bytes). space ∷ x) p₂.is))
        ∙ ap (λ (u : Bytes). ascii " (tag " ++ ((u ++ (closing ∷ [])) ++ p₂.rest)) (number_text t.number_word k t.number_is)

    tag_first : s.rest ++ (closing ∷ []) ≡ tag_text k ++ (p₂.rest ++ (closing ∷ []))
    tag_first = ap (λ (x : Bytes). x ++ (closing ∷ [])) after ∙ append_assoc (tag_text k) p₂.rest (closing ∷ [])

pub tagged_line_lem : (l : Bytes) (k : ℕ) (ls : List Literal) → k < 100000 → RuleShape l (tag_text k) ls → line_of l ≡ some (tagged k ls)
unfolding line_from same tag_text rule_from
tagged_line_lem l k ls h r =
    ap line_of (r.is ∙ ap (λ (x : Bytes). rule_head ++ x) (sym (append_assoc (tag_text k) r.rest (closing ∷ []))))
    ∙ shape_line rule_word (tag_text k ++ r.rest) (tag_word ∷ v ∷ r.words) refl (inr (tag_word ++ (space ∷ (v ++ r.rest)), refl, words_are))
    ∙ rw (closed_append (decimal k), number_decimal k h, r.literals_are)
  where
    v : Bytes
    v = decimal k ++ (closing ∷ [])

    words_are : split space (tag_word ++ (space ∷ (v ++ r.rest))) ≡ tag_word ∷ v ∷ r.words
    words_are =
        split_first space tag_word (v ++ r.rest) refl
        ∙ ap (λ (ws : List Bytes). tag_word ∷ ws) (tail_split space v r.rest r.words (lacks_append space (decimal k) (closing ∷ []) (digits_space k) refl) r.tail)

-- ---- the book's line
abbrev is_book : Form → Bool
is_book (book e) = true
is_book (block κ ns) = false
is_book (clause ls) = false
is_book end = false

no_book : (f : Form) (e : ℕ) → some f ≡ some (book e) → is_book f ≡ false → ⊥
no_book f e q h = true≢false (sym (ap is_book (some_same f (book e) q)) ∙ h)

book_from : (w : Bytes) (ws : List Bytes) (e : ℕ) → form_from (w ∷ ws) ≡ some (book e) → (w ≡ book_word) × (then (items false ws) book_form ≡ some (book e))
unfolding form_from
book_from w ws e q = by (same w book_word) refl (same w flags_word) (same w exists_word) (same w forall_word) (same w rule_word) (same w end_word) q
  where
    other : (o : Option (List Literal)) (g : List Literal → Option Form) → ((ls : List Literal) (f : Form) → g ls ≡ some f → is_book f ≡ false) → then o g ≡ some (book e) → ⊥
    other none g h z = none_some (book e) z
    other (some ls) g h z = true≢false (h ls (book e) z)

    flagged : (ls : List Literal) (f : Form) → flags_form ls ≡ some f → is_book f ≡ false
    flagged ls f z = ap is_book (sym (some_same (block free (map number_of ls)) f z))

    blocked : (κ : Quantifier) (ls : List Literal) (f : Form) → block_form κ ls ≡ some f → is_book f ≡ false
    blocked κ [] f z = absurd (none_some f z)
    blocked κ (l ∷ ls) f z = ap is_book (sym (some_same (block κ (map number_of (l ∷ ls))) f z))

    ruled : (ls : List Literal) (f : Form) → rule_form ls ≡ some f → is_book f ≡ false
    ruled ls f z = ap is_book (sym (some_same (clause ls) f z))

    ended : (ls : List Literal) (f : Form) → end_form ls ≡ some f → is_book f ≡ false
    ended [] f z = ap is_book (sym (some_same end f z))
    ended (l ∷ ls) f z = absurd (none_some f z)

    by : (a : Bool) → same w book_word ≡ a → (b c d r g : Bool)
        → cond a (then (items false ws) book_form)
        (cond b (then (items false ws) flags_form)
        (cond c (then (items false ws) (block_form exists))
        (cond d (then (items false ws) (block_form forall))
        (cond r (then (items true ws) rule_form)
        (cond g (then (items false ws) end_form)
        none))))) ≡ some (book e) → (w ≡ book_word) × (then (items false ws) book_form ≡ some (book e))
    by true p b c d r g z = (same_true w book_word p, z)
    by false p true c d r g z = absurd (other (items false ws) flags_form flagged z)
    by false p false true d r g z = absurd (other (items false ws) (block_form exists) (blocked exists) z)
    by false p false false true r g z = absurd (other (items false ws) (block_form forall) (blocked forall) z)
    by false p false false false true g z = absurd (other (items true ws) rule_form ruled z)
    by false p false false false false true z = absurd (other (items false ws) end_form ended z)
    by false p false false false false false z = absurd (none_some (book e) z)

-- one number is one word
one_word_lem : (ws : List Bytes) (l : Literal) → items false ws ≡ some (l ∷ []) → (u : Bytes) × (ws ≡ u ∷ []) × (number u ≡ some (number_of l))
unfolding items consed
one_word_lem [] l e = absurd (let z : ◌≡◌ {A = ℕ} 0 1 = cc in omega arith)
one_word_lem (u ∷ []) l e = by (number u) refl e
  where
    by : (o : Option ℕ) → number u ≡ o → consed pos o (some []) ≡ some (l ∷ []) → (x : Bytes) × (u ∷ [] ≡ x ∷ []) × (number x ≡ some (number_of l))
    by none q z = absurd (none_some (l ∷ []) z)
    by (some n) q z = (u, refl, q ∙ ap some (ap number_of (head (some_same (pos n ∷ []) (l ∷ []) z))))
      where
        head : pos n ∷ [] ≡ l ∷ [] → pos n ≡ l
        head y = cc
one_word_lem (u ∷ v ∷ ws) l e = absurd (by (number u) (items false (v ∷ ws)) refl e)
  where
    never : (ws : List Bytes) → items false (v ∷ ws) ≡ some [] → ⊥
    never [] z = cases (number v) z
      where
        cases : (o : Option ℕ) → consed pos o (some []) ≡ some [] → ⊥
        cases none y = none_some [] y
        cases (some n) y = let x : ◌≡◌ {A = ℕ} 0 1 = cc in omega arith
    never (x ∷ xs) z = cases (number v) (items false (x ∷ xs)) z
      where
        cases : (o : Option ℕ) (p : Option (List Literal)) → consed pos o p ≡ some [] → ⊥
        cases none p y = none_some [] y
        cases (some n) none y = none_some [] y
        cases (some n) (some ms) y = let t : ◌≡◌ {A = ℕ} 0 1 = cc in omega arith

    by : (o : Option ℕ) (p : Option (List Literal)) → items false (v ∷ ws) ≡ p → consed pos o p ≡ some (l ∷ []) → ⊥
    by none p q z = none_some (l ∷ []) z
    by (some n) none q z = none_some (l ∷ []) z
    by (some n) (some ms) q z = never ws (q ∙ ap some (rest (some_same (pos n ∷ ms) (l ∷ []) z)))
      where
        rest : pos n ∷ ms ≡ l ∷ [] → ms ≡ []
        rest y = cc

says_form : (w : Bytes) (ws : List Bytes) (e : ℕ) → line_from (w ∷ ws) ≡ some (says (book e)) → form_from (w ∷ ws) ≡ some (book e)
unfolding line_from
says_form w ws e q = by (same w rule_word) (same w one_word) q
  where
    ones : (o : Option (List Literal)) → then o exactly_one_line ≡ some (says (book e)) → ⊥
    ones none z = none_some (says (book e)) z
    ones (some ls) z = let y = some_same (one ls) (says (book e)) z in let x : ◌≡◌ {A = ℕ} 0 1 = cc in omega arith

    forms : (o : Option Form) → then o said ≡ some (says (book e)) → o ≡ some (book e)
    forms none z = absurd (none_some (says (book e)) z)
    forms (some g) z = let y = some_same (says g) (says (book e)) z in ap some (inner g y)
      where
        inner : (g : Form) → says g ≡ says (book e) → g ≡ book e
        inner g y = cc

    by : (a b : Bool) → cond a (rule_from ws) (cond b (then (items true ws) exactly_one_line) (then (form_from (w ∷ ws)) said)) ≡ some (says (book e)) → form_from (w ∷ ws) ≡ some (book e)
    by true b z = absurd (true≢false (ruled_plain ws (says (book e)) (rule_from_lem ws (says (book e)) z)))
    by false true z = absurd (ones (items true ws) z)
    by false false z = forms (form_from (w ∷ ws)) z

pub book_line : (l : Bytes) (e : ℕ) → line_of l ≡ some (says (book e)) → l ≡ ascii "(book " ++ (decimal e ++ ascii ")")
book_line l e q = whole
  where
    s : Shape l (says (book e))
    s = shape l (says (book e)) q

    b : (s.word ≡ book_word) × (then (items false s.words) book_form ≡ some (book e))
    b = book_from s.word s.words e (says_form s.word s.words e s.says_so)

    number_of_lem : (o : Option (List Literal)) → items false s.words ≡ o → then o book_form ≡ some (book e) → (u : Bytes) × (s.words ≡ u ∷ []) × (number u ≡ some e)
    number_of_lem none p z = absurd (none_some (book e) z)
    number_of_lem (some []) p z = absurd (none_some (book e) z)
    number_of_lem (some (x ∷ [])) p z = let w = one_word_lem s.words x p in (w.0, w.1, w.2 ∙ ap some (edition (some_same (book (number_of x)) (book e) z)))
      where
        edition : book (number_of x) ≡ book e → number_of x ≡ e
        edition y = cc
    number_of_lem (some (x ∷ y ∷ ls)) p z = absurd (none_some (book e) z)

    u : (u : Bytes) × (s.words ≡ u ∷ []) × (number u ≡ some e)
    u = number_of_lem (items false s.words) refl b.1

    t : (y : Bytes) × (s.rest ≡ space ∷ y) × Parts space y u.0 []
    t = tail_word s.rest u.0 [] (subst (Tail space s.rest) u.1 s.tail)

    alone : (x : Bytes) → Tail space x [] → x ≡ []
    alone x (inl p) = p.0
    alone x (inr p) = absurd (let w = pieces space p.0 in let v : w.0 ∷ w.1 ≡ [] = sym w.2 ∙ p.2 in let z : ◌≡◌ {A = ℕ} 0 1 = cc in omega arith)

    digits_are : s.rest ≡ space ∷ decimal e
    digits_are = t.1 ∙ ap (λ (x : Bytes). space ∷ x) (t.2.is ∙ ap (λ (x : Bytes). u.0 ++ x) (alone t.2.rest t.2.tail) ∙ append-nil u.0 ∙ number_text u.0 e u.2)

    whole : l ≡ ascii "(book " ++ (decimal e ++ ascii ")")
    whole = s.is ∙ ap (λ (w : Bytes). opening ∷ (w ++ (s.rest ++ (closing ∷ [])))) b.0 ∙ ap (λ (x : Bytes). opening ∷ (book_word ++ (x ++ (closing ∷ [])))) digits_are
