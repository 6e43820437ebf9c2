-- Calls: the tests of the word in the order of the code, the size of a card's table, and the call of a line by its word.
use Prim.Native.Nat.{ℕ, suc, ◌+◌, ◌*◌, ◌<◌, ◌≤◌, ◌-◌}
use mathlib.Core.Path.{◌≡◌, refl, sym, ap, subst, ◌∙◌}
use mathlib.Core.Bool.{Bool, true, false, cond, not, ◌&&◌, ◌||◌}
use mathlib.Core.List.{List, [], ◌∷◌}
use mathlib.Core.Logic.{◌⊎◌, inl, inr}
use mathlib.Core.Option.{Option, none, some}
use native.Mathlib.Omega.{arith}
use borrow.Author.Tests.{ne_eqb, le-ltb, lt-ltb, eqb-true}
use lib.Dec.{leb, eqb}
use lib.IntN.{ℤ, pos}
use lib.ListN.{length, get_or}
use Rattle.std.specs.Prelude.{Option as Answer, Some, None}
use Rattle.std.specs.Bool.{then_some}
use Rattle.qbf.specs.Formula.{Literal}
use Rattle.qbf.specs.Ceiling.{highest_ceiling}
use Rattle.qbf.specs.Calls.{Call, card, keep_card, card_of, forget, withdraw}
use Rattle.layout.specs.Words.{Bytes, same, on_first, split, space, is_digit, digits, number, number_within, inside}
use Rattle.layout.specs.Forms.{then, consed, items, rule_word, one_word}
use Rattle.layout.specs.Opening.{text_bytes}
use Rattle.layout.specs.Endings.{within, number_up_to}
use Rattle.layout.specs.Program.{table_bytes}
use Rattle.layout.specs.Session.{query_word, card_word, keep_card_word, forget_word, withdraw_word, closest_word, sized_by, rule_call, one_call, query_call, closest_call, card_call, alone, call_from, ceiled_call, call_of}
use Rattle.std.specs.Borrow.{Bor}
use Rattle.reader.specs.Pieces.{pieces, Cut}
use Rattle.reader.specs.Numbers.{num_of}
use Rattle.reader.specs.Items.{Filled}
use Rattle.reader.specs.Calls.{CallUnder, call_word_of, call_signs, call_with, card_size, CallRead}
use Rattle.reader.specs.declared.call.CallWord.{CallWord}
use Rattle.reader.specs.declared.call.CallLine.{CallLine}
use Rattle.reader.specs.declared.call.CallWord.TheVariants as word
use Rattle.reader.specs.declared.call.CallLine.TheVariants as line
use Rattle.reader.proofs.Literals.{items_on}
use Rattle.reader.proofs.Lines.{made, by_first}

-- ---- words
module _ (w : Bytes) where
  pub call_1 : same w rule_word ≡ true → Some word.Rule ≡ call_word_of w
  unfolding call_word_of
  call_1 e0 = rw e0

  pub call_2 : same w rule_word ≡ false → same w query_word ≡ true → Some word.Query ≡ call_word_of w
  unfolding call_word_of
  call_2 e0 e1 = rw (e0, e1)

  pub call_3 : same w rule_word ≡ false → same w query_word ≡ false → same w card_word ≡ true → Some word.Card ≡ call_word_of w
  unfolding call_word_of
  call_3 e0 e1 e2 = rw (e0, e1, e2)

  pub call_4 : same w rule_word ≡ false → same w query_word ≡ false → same w card_word ≡ false → same w keep_card_word ≡ true → Some word.KeepCard ≡ call_word_of w
  unfolding call_word_of
  call_4 e0 e1 e2 e3 = rw (e0, e1, e2, e3)

  pub call_5 : same w rule_word ≡ false → same w query_word ≡ false → same w card_word ≡ false → same w keep_card_word ≡ false → same w forget_word ≡ true → Some word.Forget ≡ call_word_of w
  unfolding call_word_of
  call_5 e0 e1 e2 e3 e4 = rw (e0, e1, e2, e3, e4)

  pub call_6 : same w rule_word ≡ false → same w query_word ≡ false → same w card_word ≡ false → same w keep_card_word ≡ false → same w forget_word ≡ false → same w withdraw_word ≡ true → Some word.Withdraw ≡ call_word_of w
  unfolding call_word_of
  call_6 e0 e1 e2 e3 e4 e5 = rw (e0, e1, e2, e3, e4, e5)

  pub call_7 : same w rule_word ≡ false → same w query_word ≡ false → same w card_word ≡ false → same w keep_card_word ≡ false → same w forget_word ≡ false → same w withdraw_word ≡ false → same w one_word ≡ true → Some word.One ≡ call_word_of w
  unfolding call_word_of
  call_7 e0 e1 e2 e3 e4 e5 e6 = rw (e0, e1, e2, e3, e4, e5, e6)

  pub call_8 : same w rule_word ≡ false → same w query_word ≡ false → same w card_word ≡ false → same w keep_card_word ≡ false → same w forget_word ≡ false → same w withdraw_word ≡ false → same w one_word ≡ false → same w closest_word ≡ true → Some word.Closest ≡ call_word_of w
  unfolding call_word_of
  call_8 e0 e1 e2 e3 e4 e5 e6 e7 = rw (e0, e1, e2, e3, e4, e5, e6, e7)

  pub call_9 : same w rule_word ≡ false → same w query_word ≡ false → same w card_word ≡ false → same w keep_card_word ≡ false → same w forget_word ≡ false → same w withdraw_word ≡ false → same w one_word ≡ false → same w closest_word ≡ false → None ≡ call_word_of w
  unfolding call_word_of
  call_9 e0 e1 e2 e3 e4 e5 e6 e7 = rw (e0, e1, e2, e3, e4, e5, e6, e7)

chosen : Bool → Bool → Bool → Bool → Bool → Bool → Bool → Bool → Answer CallWord
chosen a b c d e f g h =
    cond a (Some word.Rule) (cond b (Some word.Query) (cond c (Some word.Card) (cond d (Some word.KeepCard) (cond e (Some word.Forget) (cond f (Some word.Withdraw) (cond g (Some word.One) (cond h (Some word.Closest) None)))))))

by_word : (w : Bytes) (ws : List Bytes) → call_from (w ∷ ws) ≡ made call_signs call_with ws (call_word_of w)
unfolding call_from call_word_of chosen
by_word w ws = go (same w rule_word) (same w query_word) (same w card_word) (same w keep_card_word) (same w forget_word) (same w withdraw_word) (same w one_word) (same w closest_word)
  where
    go : (a b c d e f g h : Bool) →
        cond a (then (items true ws) rule_call)
        (cond b (then (items true ws) query_call)
        (cond c (then (items false ws) (card_call true))
        (cond d (then (items false ws) (card_call false))
        (cond e (then (items false ws) (alone forget))
        (cond f (then (items false ws) (alone withdraw))
        (cond g (then (items true ws) one_call)
        (cond h (then (items true ws) closest_call)
        none)))))))
        ≡ made call_signs call_with ws (chosen a b c d e f g h)
    go true b c d e f g h = refl
    go false true c d e f g h = refl
    go false false true d e f g h = refl
    go false false false true e f g h = refl
    go false false false false true f g h = refl
    go false false false false false true g h = refl
    go false false false false false false true h = refl
    go false false false false false false false true = refl
    go false false false false false false false false = refl

-- ---- the size of a card's table
cond_none : (x : Bool) (o : Option ℕ) → o ≡ none → cond x o none ≡ none
cond_none true o e = e
cond_none false o e = refl

-- A text is one word, or has a space in it and is no digits.
OneWord : Bytes → Type 0
OneWord t = (split space t ≡ t ∷ []) ⊎ ((w : Bytes) × (v : Bytes) × (vs : List Bytes) × (split space t ≡ w ∷ v ∷ vs) × ((n : ℕ) → digits n t ≡ none))

one_word_lem : (t : Bytes) → OneWord t
unfolding OneWord split digits
one_word_lem [] = inl refl
one_word_lem (b ∷ t) = by (eqb b 32) refl (one_word_lem t)
  where
    by : (x : Bool) → eqb b 32 ≡ x → OneWord t
        → (cond x ([] ∷ split space t) (on_first b (split space t)) ≡ (b ∷ t) ∷ [])
        ⊎ ((w : Bytes) × (v : Bytes) × (vs : List Bytes) × (cond x ([] ∷ split space t) (on_first b (split space t)) ≡ w ∷ v ∷ vs) × ((n : ℕ) → cond (is_digit b) (digits (n * 10 + (b - 48)) t) none ≡ none))
    by true q (inl e) = inr ([], t, [], ap (λ (ws : List Bytes). [] ∷ ws) e, λ n. rw (eqb-true b 32 q))
    by true q (inr e) = inr ([], e.0, e.1 ∷ e.2, ap (λ (ws : List Bytes). [] ∷ ws) e.3, λ n. rw (eqb-true b 32 q))
    by false q (inl e) = inl (ap (on_first b) e)
    by false q (inr e) = inr (b ∷ e.0, e.1, e.2, ap (on_first b) e.3, λ n. cond_none (is_digit b) (digits (n * 10 + (b - 48)) t) (e.4 (n * 10 + (b - 48))))

number_spaced : (t : Bytes) → digits 0 t ≡ none → number t ≡ none
unfolding number
number_spaced t e = cond_none (leb 1 (length t) && leb (length t) 5 && (eqb (length t) 1 || not (eqb (get_or t 0 0) 48))) (digits 0 t) e

five : (w : Bytes) → number_within 5 w ≡ number w
unfolding number
five w = refl

pub size_text : (t : Bytes) → number t ≡ card_size (split space t)
unfolding OneWord
size_text t = by (one_word_lem t)
  where
    by : OneWord t → number t ≡ card_size (split space t)
    by (inl e) = sym (ap card_size e)
    by (inr e) = number_spaced t (e.4 0) ∙ sym (ap card_size e.3)

pub size_read : (t : Bytes) → number_up_to 5 table_bytes t ≡ then (card_size (split space t)) (within table_bytes)
unfolding number_up_to
size_read t = ap (λ (o : Option ℕ). then o (within table_bytes)) (five t ∙ size_text t)

-- what a line says with a table of so many bytes
unfoldable pub sized : {A : Type 0} → (ℕ → A) → ℕ → Option A
sized part n = cond (leb n table_bytes) (some (part n)) none

-- what a line says with one item that is a number, and with no two items
module _ {A : Type 0} (says : List Literal → Option A) (told : ℕ → Option A) (one : (n : ℕ) → says (pos n ∷ []) ≡ told n) (two : (l m : Literal) (ls : List Literal) → says (l ∷ m ∷ ls) ≡ none) where
  two_items : (o p : Option ℕ) (r : Option (List Literal)) → then (consed pos o (consed pos p r)) says ≡ none
  unfolding consed
  two_items none p r = refl
  two_items (some n) none r = refl
  two_items (some n) (some m) none = refl
  two_items (some n) (some m) (some ls) = two (pos n) (pos m) ls

  -- at least one item
  pub one_item : (w : Bytes) (ws : List Bytes) → then (items false (w ∷ ws)) says ≡ then (card_size (w ∷ ws)) told
  unfolding items consed
  one_item w [] = by (number w)
    where
      by : (o : Option ℕ) → then (consed pos o (some [])) says ≡ then o told
      by none = refl
      by (some n) = one n
  one_item w (v ∷ ws) =
      ap (λ (o : Option (List Literal)). then o says) (items_on false w (v ∷ ws) refl ∙ ap (consed pos (number w)) (items_on false v ws refl))
      ∙ two_items (number w) (number v) (items false ws)

-- .. the size of a table
pub size_is : {A : Type 0} (whole : A) (part : ℕ → A) (w : Bytes) (ws : List Bytes) → then (items false (w ∷ ws)) (sized_by whole part) ≡ then (card_size (w ∷ ws)) (sized part)
unfolding sized
size_is whole part w ws = one_item (sized_by whole part) (sized part) (λ n. refl) (λ l m ls. refl) w ws

-- the card, or the keep card
card_is : (p : Bool) (ws : List Bytes) → then (items false ws) (card_call p) ≡ then (card_size ws) (sized (card_of p highest_ceiling))
unfolding items sized
card_is p [] = refl
card_is p (w ∷ ws) = size_is (card_of p highest_ceiling table_bytes) (card_of p highest_ceiling) w ws

-- .. which is within the largest
pub sized_within : {A : Type 0} (part : ℕ → A) (o : Option ℕ) → then o (sized part) ≡ then (then o (within table_bytes)) (λ n. some (part n))
unfolding sized
sized_within part none = refl
sized_within {A} part (some n) = by (leb n table_bytes)
  where
    by : (t : Bool) → cond t (some (part n)) none ≡ then (cond t (some n) none) (λ n. some (part n))
    by true = refl
    by false = refl

-- ---- the call of a word with its items
-- a call that has no items
alone_line : (v : CallLine) (c : Call) (out : List ℤ) → CallUnder highest_ceiling (some c) v out → (ls : List Literal) → CallRead (alone c ls) (then_some (eqb (length ls) 0) v) out
alone_line v c out h [] = h
alone_line v c out h (l ∷ ls) = subst (λ (x : Bool). CallRead none (then_some x v) out) (sym (ne_eqb (suc (length ls)) 0 (λ e. omega arith))) refl

module _ {s v : Bytes} {left : Answer (Bor Bytes)} (p : Cut space s v left) {q : Answer CallWord} (is : q ≡ call_word_of v) where
  -- another word than a call's
  pub no_word : q ≡ None → call_from (split space s) ≡ none
  no_word h = by_first call_from call_word_of call_signs call_with by_word p (sym h ∙ is)

  module _ {w : CallWord} (named : q ≡ Some w) {g : Bool} (is_g : g ≡ call_signs w) where
    call_is : call_from (split space s) ≡ then (items g (pieces space left)) (call_with w)
    call_is = by_first call_from call_word_of call_signs call_with by_word p (sym named ∙ is) ∙ ap (λ (x : Bool). then (items x (pieces space left)) (call_with w)) (sym is_g)

    -- no items
    pub call_none : (r : Answer ℕ) (out : List ℤ) → Filled (items g (pieces space left)) r out → r ≡ None → call_from (split space s) ≡ none
    call_none r out f i = call_is ∙ ap (λ (o : Option (List Literal)). then o (call_with w)) (subst (λ (x : Answer ℕ). Filled (items g (pieces space left)) x out) i f)

    -- n items
    module _ (r : Answer ℕ) (out : List ℤ) {n : ℕ} (f : Filled (items g (pieces space left)) r out) (i : r ≡ Some n) where
      read : Filled (items g (pieces space left)) (Some n) out
      read = subst (λ (x : Answer ℕ). Filled (items g (pieces space left)) x out) i f

      with_items : (v : CallWord) → w ≡ v → call_from (split space s) ≡ call_with v read.0
      with_items v h = call_is ∙ ap (λ (o : Option (List Literal)). then o (call_with w)) read.1 ∙ ap (λ (u : CallWord). call_with u read.0) h

      no_signs : (v : CallWord) → w ≡ v → call_signs v ≡ false → items false (pieces space left) ≡ some read.0
      no_signs v h z = ap (λ (x : Bool). items x (pieces space left)) (sym (is_g ∙ ap call_signs h ∙ z)) ∙ read.1

      pub rule_read : w ≡ word.Rule → CallRead (call_from (split space s)) (Some (line.Rule n)) out
      rule_read h = (read.0, with_items word.Rule h, read.2)

      pub query_read : w ≡ word.Query → CallRead (call_from (split space s)) (Some (line.Query n)) out
      query_read h = (read.0, with_items word.Query h, read.2)

      -- a card's word, by the size of its table
      sized_is : (p : Bool) → call_from (split space s) ≡ then (items false (pieces space left)) (card_call p) → (z : Answer ℕ) → num_of z ≡ then (card_size (pieces space left)) (within table_bytes)
          → call_from (split space s) ≡ then (num_of z) (λ n. some (card_of p highest_ceiling n))
      sized_is p h z k = h ∙ card_is p (pieces space left) ∙ sized_within (card_of p highest_ceiling) (card_size (pieces space left)) ∙ ap (λ (o : Option ℕ). then o (λ n. some (card_of p highest_ceiling n))) (sym k)

      pub card_read : w ≡ word.Card → (z : Answer ℕ) → num_of z ≡ then (card_size (pieces space left)) (within table_bytes) → call_from (split space s) ≡ then (num_of z) (λ n. some (card highest_ceiling n))
      card_read h = sized_is true (with_items word.Card h ∙ ap (λ (o : Option (List Literal)). then o (card_call true)) (sym (no_signs word.Card h refl)))

      pub keep_card_read : w ≡ word.KeepCard → (z : Answer ℕ) → num_of z ≡ then (card_size (pieces space left)) (within table_bytes) → call_from (split space s) ≡ then (num_of z) (λ n. some (keep_card highest_ceiling n))
      keep_card_read h = sized_is false (with_items word.KeepCard h ∙ ap (λ (o : Option (List Literal)). then o (card_call false)) (sym (no_signs word.KeepCard h refl)))

      alone_read : (v : CallWord) → w ≡ v → (u : CallLine) (c : Call) → ((ls : List Literal) → call_with v ls ≡ alone c ls) → CallUnder highest_ceiling (some c) u out
          → {a : Answer CallLine} → a ≡ then_some (eqb n 0) u → CallRead (call_from (split space s)) a out
      alone_read v h u c says k e =
          subst (λ (x : Answer CallLine). CallRead (call_from (split space s)) x out) (sym e)
          (subst (λ (o : Option Call). CallRead o (then_some (eqb n 0) u) out) (sym (with_items v h ∙ says read.0))
          (subst (λ (m : ℕ). CallRead (alone c read.0) (then_some (eqb m 0) u) out) (sym read.2.count) (alone_line u c out k read.0)))

      pub forget_read : w ≡ word.Forget → {a : Answer CallLine} → a ≡ then_some (eqb n 0) line.Forget → CallRead (call_from (split space s)) a out
      forget_read h = alone_read word.Forget h line.Forget forget (λ ls. refl) refl

      pub withdraw_read : w ≡ word.Withdraw → {a : Answer CallLine} → a ≡ then_some (eqb n 0) line.Withdraw → CallRead (call_from (split space s)) a out
      withdraw_read h = alone_read word.Withdraw h line.Withdraw withdraw (λ ls. refl) refl

      pub one_read : w ≡ word.One → CallRead (call_from (split space s)) (Some (line.One n)) out
      one_read h = (read.0, with_items word.One h, read.2)

      pub closest_read : w ≡ word.Closest → CallRead (call_from (split space s)) (Some (line.Closest n table_bytes)) out
      closest_read h = (read.0, with_items word.Closest h, read.2)

-- ---- the line
module _ (l : Bytes) where
  pub call_long : text_bytes < length l → call_of l ≡ none
  unfolding call_of
  call_long h = rw (lt-ltb text_bytes (length l) h)

  module _ (short : length l ≤ text_bytes) where
    pub call_out : inside l ≡ none → call_of l ≡ none
    unfolding call_of
    call_out h = rw (le-ltb text_bytes (length l) short, h)

    pub call_in : {s : Bytes} → inside l ≡ some s → call_of l ≡ ceiled_call (split space s)
    unfolding call_of
    call_in h = rw (le-ltb text_bytes (length l) short, h)
