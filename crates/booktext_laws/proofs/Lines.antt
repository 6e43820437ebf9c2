-- A line that is written is read back: its words, its items, its form.
use Prim.Native.Nat.{ℕ, zero, suc, ◌+◌, ◌/◌, ◌%◌, ◌-◌, ◌<◌, ◌≤◌}
use mathlib.Core.Path.{◌≡◌, refl, ap, ◌∙◌}
use mathlib.Core.Bool.{Bool, true, false, cond, not, ◌&&◌, ◌||◌, false≢true}
use mathlib.Core.List.{List, [], ◌∷◌, ◌++◌, map, append-nil}
use mathlib.Core.Option.{some}
use native.Mathlib.Omega.{arith}
use native.Mathlib.Decide.{dec_lt}
use borrow.Author.Tests.{eq-eqb, ne_eqb, lt-ltb, le-ltb}
use lib.IntN.{pos, negsuc}
use lib.ListN.{length, length-append}
use lib.Seq.{take_at, get_or_at}
use lib.Dec.{eqb, ltb}
use Rattle.qbf.specs.Formula.{Quantifier, free, exists, forall, Literal, number_of, all}
use Rattle.theory.proofs.Basics.{and_left, and_right, and_both, not_true}
use Rattle.layout.specs.Words.{Bytes, ascii, space, newline, opening, closing, split, same, number, closed, inside}
use Rattle.layout.specs.Forms.{then, consed, no_word, off, items, Form, book, block, clause, end, block_form, book_word, flags_word, exists_word, forall_word, rule_word, end_word, form_from, form_of}
use Rattle.layout.specs.Output.{last_digits, decimal, literal_text, items_text}
use Rattle.layout_laws.proofs.Decimal.{number_decimal}
use Rattle.booktext.specs.Texts.{block_word, body_text, line_of}

-- ---- pieces
-- no byte c stands in it
abbrev pub lacks : ℕ → Bytes → Bool
lacks c s = all (λ b. not (eqb b c)) s

pub lacks_append : (c : ℕ) (s t : Bytes) → lacks c s ≡ true → lacks c t ≡ true → lacks c (s ++ t) ≡ true
lacks_append c [] t h g = g
lacks_append c (b ∷ s) t h g =
    and_both (not (eqb b c)) (lacks c (s ++ t)) (and_left (not (eqb b c)) (lacks c s) h) (lacks_append c s t (and_right (not (eqb b c)) (lacks c s) h) g)

-- the first piece ends at the first byte c
pub split_first : (c : ℕ) (w s : Bytes) → lacks c w ≡ true → split c (w ++ (c ∷ s)) ≡ w ∷ split c s
unfolding split
split_first c [] s h = rw (eq-eqb c c refl)
split_first c (b ∷ w) s h =
    rw (not_true (eqb b c) (and_left (not (eqb b c)) (lacks c w) h), split_first c w s (and_right (not (eqb b c)) (lacks c w) h))

pub split_only : (c : ℕ) (w : Bytes) → lacks c w ≡ true → split c w ≡ w ∷ []
unfolding split
split_only c [] h = refl
split_only c (b ∷ w) h = rw (not_true (eqb b c) (and_left (not (eqb b c)) (lacks c w) h), split_only c w (and_right (not (eqb b c)) (lacks c w) h))

-- ---- digits
-- digits are none of the other bytes of a line
abbrev Other : ℕ → Type 0
Other c = (d : ℕ) → d < 10 → not (eqb (48 + d) c) ≡ true

last_lacks : (c : ℕ) → Other c → (k n : ℕ) → lacks c (last_digits k n) ≡ true
unfolding last_digits
last_lacks c o zero n = refl
last_lacks c o (suc k) n = by (dec_lt n 10) (last_lacks c o k (n / 10))
  where
    by : Dec (n < 10) → lacks c (last_digits k (n / 10)) ≡ true → lacks c (cond (ltb n 10) ((48 + n) ∷ []) (last_digits k (n / 10) ++ ((48 + n % 10) ∷ []))) ≡ true
    by (yes q) ih = rw (lt-ltb n 10 q) (and_both (not (eqb (48 + n) c)) true (o n q) refl)
    by (no q) ih =
        rw (le-ltb n 10 (omega (arith, q)))
        (lacks_append c (last_digits k (n / 10)) ((48 + n % 10) ∷ []) ih (and_both (not (eqb (48 + n % 10) c)) true (o (n % 10) (omega arith)) refl))

decimal_lacks : (c : ℕ) → Other c → (n : ℕ) → lacks c (decimal n) ≡ true
unfolding decimal
decimal_lacks c o n = last_lacks c o (suc n) n

below : (c : ℕ) → c < 48 → Other c
below c h d g = ap not (ne_eqb (48 + d) c (λ e. omega (arith, e)))

-- a byte below the digits stands in no number
pub digits_lack : (c : ℕ) → c < 48 → (n : ℕ) → lacks c (decimal n) ≡ true
digits_lack c h = decimal_lacks c (below c h)

pub digits_space : (n : ℕ) → lacks space (decimal n) ≡ true
digits_space = digits_lack space (omega arith)

pub digits_newline : (n : ℕ) → lacks newline (decimal n) ≡ true
digits_newline = digits_lack newline (omega arith)

-- ---- words of items
abbrev pub words_of : List Literal → List Bytes
words_of [] = []
words_of (pos n ∷ ls) = decimal n ∷ words_of ls
words_of (negsuc n ∷ ls) = no_word ∷ (decimal (suc n) ++ (closing ∷ [])) ∷ words_of ls

pub items_words : (w : Bytes) (ls : List Literal) → lacks space w ≡ true → split space (w ++ items_text ls) ≡ w ∷ words_of ls
unfolding items_text literal_text
items_words w [] h = rw append-nil (split_only space w h)
items_words w (pos n ∷ ls) h = split_first space w (decimal n ++ items_text ls) h ∙ ap (λ (v : List Bytes). w ∷ v) (items_words (decimal n) ls (digits_space n))
items_words w (negsuc n ∷ ls) h =
    split_first space w (ascii "(no " ++ decimal (suc n) ++ ascii ")" ++ items_text ls) h
    ∙ ap (λ (v : List Bytes). w ∷ v)
    (ap (split space) regroup ∙ split_first space no_word (tail ++ items_text ls) refl
    ∙ ap (λ (v : List Bytes). no_word ∷ v) (items_words tail ls (lacks_append space (decimal (suc n)) (closing ∷ []) (digits_space (suc n)) refl)))
  where
    tail : Bytes
    tail = decimal (suc n) ++ (closing ∷ [])

    regroup : ascii "(no " ++ decimal (suc n) ++ ascii ")" ++ items_text ls ≡ no_word ++ (space ∷ (tail ++ items_text ls))
    regroup = refl

-- ---- items
-- every number has at most 5 digits
abbrev pub Short : List Literal → Type 0
Short [] = Unit {0}
Short (l ∷ ls) = (number_of l < 100000) × Short ls

abbrev pub unsigned : List Literal → Bool
unsigned [] = true
unsigned (pos n ∷ ls) = unsigned ls
unsigned (negsuc n ∷ ls) = false

-- the first byte of a number is a digit
pub lacks_same : (c : ℕ) (w v : Bytes) → lacks c w ≡ true → same w (c ∷ v) ≡ false
unfolding same
lacks_same c [] v h = refl
lacks_same c (b ∷ w) v h = rw (not_true (eqb b c) (and_left (not (eqb b c)) (lacks c w) h))

starts : (n : ℕ) → same (decimal n) no_word ≡ false
starts n = lacks_same opening (decimal n) (ascii "no") (digits_lack opening (omega arith) n)

items_on : (signed : Bool) (n : ℕ) (ws : List Bytes) → n < 100000 → items signed (decimal n ∷ ws) ≡ consed pos (some n) (items signed ws)
unfolding items
items_on signed n [] h = rw (number_decimal n h)
items_on signed n (v ∷ ws) h = rw (number_decimal n h, starts n) (by signed)
  where
    by : (t : Bool) → cond (t && false) (consed off (then (closed v) number) (items signed ws)) (consed pos (some n) (items signed (v ∷ ws))) ≡ consed pos (some n) (items signed (v ∷ ws))
    by true = refl
    by false = refl

pub closed_append : (w : Bytes) → closed (w ++ (closing ∷ [])) ≡ some w
unfolding closed
closed_append w = rw (len, get_or_at w closing [] 0 (length w) refl) (ap some (take_at w (closing ∷ []) (length w) refl))
  where
    len : length (w ++ (closing ∷ [])) - 1 ≡ length w
    len = omega (arith, length-append w (closing ∷ []))

-- what items write is read back; where signs are not allowed, none is written
pub items_back : (signed : Bool) (ls : List Literal) → Short ls → (signed || unsigned ls) ≡ true → items signed (words_of ls) ≡ some ls
unfolding items consed same
items_back signed [] h g = refl
items_back signed (pos n ∷ ls) h g = items_on signed n (words_of ls) h.0 ∙ ap (consed pos (some n)) (items_back signed ls h.1 g)
items_back false (negsuc n ∷ ls) h g = absurd (false≢true g)
items_back true (negsuc n ∷ ls) h g = rw (closed_append (decimal (suc n)), number_decimal (suc n) h.0, items_back true ls h.1 refl)

-- ---- forms
pub map_numbers : (ns : List ℕ) → map number_of (map pos ns) ≡ ns
map_numbers [] = refl
map_numbers (n ∷ ns) = ap (λ (l : List ℕ). n ∷ l) (map_numbers ns)

pub map_unsigned : (ns : List ℕ) → unsigned (map pos ns) ≡ true
map_unsigned [] = refl
map_unsigned (n ∷ ns) = map_unsigned ns

-- a form that a line can say: numbers of at most 5 digits, and "at least one number" in a group
abbrev pub Legible : Form → Type 0
Legible (book e) = e < 100000
Legible (block free ns) = Short (map pos ns)
Legible (block exists ns) = Short (map pos ns) × (1 ≤ length ns)
Legible (block forall ns) = Short (map pos ns) × (1 ≤ length ns)
Legible (clause ls) = Short ls
Legible end = Unit {0}

group_back : (κ : Quantifier) (ns : List ℕ) → 1 ≤ length ns → block_form κ (map pos ns) ≡ some (block κ ns)
group_back κ [] h = absurd (omega (arith, h))
group_back κ (n ∷ ns) h = ap (λ (l : List ℕ). some (block κ (n ∷ l))) (map_numbers ns)

pub inside_append : (w : Bytes) → inside (opening ∷ (w ++ (closing ∷ []))) ≡ some w
unfolding inside
inside_append w = closed_append w

module _ (ns : List ℕ) where
  numbers_back : Short (map pos ns) → items false (words_of (map pos ns)) ≡ some (map pos ns)
  numbers_back h = items_back false (map pos ns) h (map_unsigned ns)

body_back : (f : Form) → Legible f → form_from (split space (body_text f)) ≡ some f
unfolding body_text form_from same
body_back (book e) h = rw (items_words book_word (pos e ∷ []) refl, items_back false (pos e ∷ []) (h, tt) refl)
body_back (block free ns) h = rw (items_words flags_word (map pos ns) refl, numbers_back ns h) (ap (λ (l : List ℕ). some (block free l)) (map_numbers ns))
body_back (block exists ns) h = rw (items_words exists_word (map pos ns) refl, numbers_back ns h.0) (group_back exists ns h.1)
body_back (block forall ns) h = rw (items_words forall_word (map pos ns) refl, numbers_back ns h.0) (group_back forall ns h.1)
body_back (clause ls) h = rw (items_words rule_word ls refl, items_back true ls h refl)
body_back end h = rw (split_only space end_word refl, items_back false [] tt refl)

-- a line that is written is read back
pub line_back : (f : Form) → Legible f → form_of (line_of f) ≡ some f
unfolding line_of form_of
line_back f h = rw (inside_append (body_text f)) (body_back f h)

-- ---- byte 10 stands only at the end of a line
items_newline : (ls : List Literal) → lacks newline (items_text ls) ≡ true
unfolding items_text literal_text
items_newline [] = refl
items_newline (pos n ∷ ls) = lacks_append newline (decimal n) (items_text ls) (digits_newline n) (items_newline ls)
items_newline (negsuc n ∷ ls) =
    lacks_append newline (decimal (suc n) ++ (closing ∷ [])) (items_text ls) (lacks_append newline (decimal (suc n)) (closing ∷ []) (digits_newline (suc n)) refl) (items_newline ls)

block_newline : (κ : Quantifier) → lacks newline (block_word κ) ≡ true
block_newline free = refl
block_newline exists = refl
block_newline forall = refl

body_newline : (f : Form) → lacks newline (body_text f) ≡ true
unfolding body_text
body_newline (book e) = lacks_append newline book_word (items_text (pos e ∷ [])) refl (items_newline (pos e ∷ []))
body_newline (block κ ns) = lacks_append newline (block_word κ) (items_text (map pos ns)) (block_newline κ) (items_newline (map pos ns))
body_newline (clause ls) = lacks_append newline rule_word (items_text ls) refl (items_newline ls)
body_newline end = refl

pub line_newline : (f : Form) → lacks newline (line_of f) ≡ true
unfolding line_of
line_newline f = lacks_append newline (body_text f) (closing ∷ []) (body_newline f) refl
