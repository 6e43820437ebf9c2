-- What a line of a QDIMACS text says can be said in our own text.
use Prim.Native.Nat.{ℕ, zero, suc, ◌+◌, ◌*◌, ◌-◌, ◌≤◌, ◌<◌}
use mathlib.Core.Path.{◌≡◌, refl, subst}
use mathlib.Core.Bool.{Bool, true, false, cond, not, ◌&&◌, ◌||◌}
use mathlib.Core.List.{List, [], ◌∷◌, map}
use mathlib.Core.Option.{Option, none, some}
use native.Mathlib.Omega.{arith}
use borrow.Author.Tests.{leb-true}
use lib.IntN.{pos}
use lib.ListN.{length, get_or, drop}
use lib.Dec.{leb, eqb}
use Rattle.qbf.specs.Formula.{Quantifier, free, exists, forall, is_free, Literal, number_of}
use Rattle.theory.proofs.Basics.{and_left, and_right}
use Rattle.layout.specs.Words.{Bytes, space, split, same, is_digit, digits, number}
use Rattle.layout.specs.Forms.{then, consed, off, block}
use Rattle.booktext_laws.proofs.Lines.{Short, Legible}
use Rattle.qdimacs_form.specs.Lines.{filled, edged, minus, zero_word, literal_of, literal, literals, Line, comment, header, group, clause, header_word, exists_word, forall_word, cnf_word, header_of, header_from, group_of, clause_of, line_from, comment_byte, line_of}
use Rattle.qdimacs_form.specs.Translation.{parsed}
use Rattle.qdimacs_laws.proofs.Translated.{Spoken, AllSpoken}

-- ---- options
none_some : {A : Type 0} (a : A) → ◌≡◌ {A = Option A} none (some a) → ⊥
none_some a e = let z : ◌≡◌ {A = ℕ} 0 1 = cc in omega arith

some_same : {A : Type 0} (a b : A) → some a ≡ some b → a ≡ b
some_same a b e = cc

-- ---- numbers have at most 5 digits
-- the largest value of so many digits after those with the value v
abbrev top : ℕ → Bytes → ℕ
top v [] = v
top v (b ∷ w) = top (v * 10 + 9) w

top_mono : (u v : ℕ) (w : Bytes) → u ≤ v → top u w ≤ top v w
top_mono u v [] h = h
top_mono u v (b ∷ w) h = top_mono (u * 10 + 9) (v * 10 + 9) w (omega (arith, h))

digits_top : (v : ℕ) (w : Bytes) (n : ℕ) → digits v w ≡ some n → n ≤ top v w
unfolding digits
digits_top v [] n e = omega (arith, some_same v n e)
digits_top v (b ∷ w) n e = by (is_digit b) refl e (digits_top (v * 10 + (b - 48)) w n)
  where
    by : (t : Bool) → is_digit b ≡ t → cond t (digits (v * 10 + (b - 48)) w) none ≡ some n → (digits (v * 10 + (b - 48)) w ≡ some n → n ≤ top (v * 10 + (b - 48)) w) → n ≤ top (v * 10 + 9) w
    by true q z ih =
        let d : b ≤ 57 = leb-true b 57 (and_right (leb 48 b) (leb b 57) q) in
        omega (arith, ih z, top_mono (v * 10 + (b - 48)) (v * 10 + 9) w (omega arith))
    by false q z ih = absurd (none_some n z)

five : (w : Bytes) → length w ≤ 5 → top 0 w < 100000
five [] h = omega arith
five (a ∷ []) h = omega arith
five (a ∷ b ∷ []) h = omega arith
five (a ∷ b ∷ c ∷ []) h = omega arith
five (a ∷ b ∷ c ∷ d ∷ []) h = omega arith
five (a ∷ b ∷ c ∷ d ∷ e ∷ []) h = omega arith
five (a ∷ b ∷ c ∷ d ∷ e ∷ f ∷ w) h = absurd (omega (arith, h))

pub number_short : (w : Bytes) (n : ℕ) → number w ≡ some n → n < 100000
unfolding number
number_short w n e = by (leb 1 (length w) && leb (length w) 5 && (eqb (length w) 1 || not (eqb (get_or w 0 0) 48))) refl e
  where
    by : (t : Bool) → (leb 1 (length w) && leb (length w) 5 && (eqb (length w) 1 || not (eqb (get_or w 0 0) 48))) ≡ t → cond t (digits 0 w) none ≡ some n → n < 100000
    by true q z =
        omega (arith, digits_top 0 w n z, five w (leb-true (length w) 5 (and_right (leb 1 (length w)) (leb (length w) 5) (and_left (leb 1 (length w) && leb (length w) 5) (eqb (length w) 1 || not (eqb (get_or w 0 0) 48)) q))))
    by false q z = absurd (none_some n z)

-- ---- literals
off_number : (n : ℕ) → number_of (off n) ≡ n
off_number zero = refl
off_number (suc n) = refl

literal_short : (signed : Bool) (w : Bytes) (l : Literal) → literal signed w ≡ some l → number_of l < 100000
unfolding literal
literal_short signed w l e = by (same w zero_word) (signed && eqb (get_or w 0 0) minus) e
  where
    sign : (f : ℕ → Literal) → ((n : ℕ) → number_of (f n) ≡ n) → (v : Bytes) (o : Option ℕ) → number v ≡ o → literal_of f o ≡ some l → number_of l < 100000
    sign f g v none q z = absurd (none_some l z)
    sign f g v (some n) q z = subst (λ (k : Literal). number_of k < 100000) (some_same (f n) l z) (omega (arith, g n, number_short v n q))

    by : (s t : Bool) → cond s none (cond t (literal_of off (number (drop 1 w))) (literal_of pos (number w))) ≡ some l → number_of l < 100000
    by true t z = absurd (none_some l z)
    by false true z = sign off off_number (drop 1 w) (number (drop 1 w)) refl z
    by false false z = sign pos (λ n. refl) w (number w) refl z

literals_short : (signed : Bool) (ws : List Bytes) (ls : List Literal) → literals signed ws ≡ some ls → Short ls
unfolding literals consed
literals_short signed [] ls e = absurd (none_some ls e)
literals_short signed (w ∷ []) ls e = by (same w zero_word) e
  where
    by : (t : Bool) → cond t (some []) none ≡ some ls → Short ls
    by true z = subst Short (some_same [] ls z) tt
    by false z = absurd (none_some ls z)
literals_short signed (w ∷ v ∷ ws) ls e = by (literal signed w) refl (literals signed (v ∷ ws)) refl e (literals_short signed (v ∷ ws))
  where
    by : (o : Option Literal) → literal signed w ≡ o → (p : Option (List Literal)) → literals signed (v ∷ ws) ≡ p → consed (λ l. l) o p ≡ some ls
        → ((ms : List Literal) → literals signed (v ∷ ws) ≡ some ms → Short ms) → Short ls
    by none q p r z ih = absurd (none_some ls z)
    by (some l) q none r z ih = absurd (none_some ls z)
    by (some l) q (some ms) r z ih = subst Short (some_same (l ∷ ms) ls z) (literal_short signed w l q, ih ms r)

numbers_short : (ls : List Literal) → Short ls → Short (map pos (map number_of ls))
numbers_short [] h = tt
numbers_short (l ∷ ls) h = (h.0, numbers_short ls h.1)

-- ---- lines
group_spoken : (κ : Quantifier) → is_free κ ≡ false → (o : Option (List Literal)) → ((ls : List Literal) → o ≡ some ls → Short ls) → (f : Line) → then o (group_of κ) ≡ some f → Spoken f
group_spoken κ k none h f z = absurd (none_some f z)
group_spoken κ k (some []) h f z = absurd (none_some f z)
group_spoken κ k (some (l ∷ ls)) h f z = subst Spoken (some_same (group κ (map number_of (l ∷ ls))) f z) (k, legible κ)
  where
    legible : (μ : Quantifier) → Legible (block μ (map number_of (l ∷ ls)))
    legible free = numbers_short (l ∷ ls) (h (l ∷ ls) refl)
    legible exists = (numbers_short (l ∷ ls) (h (l ∷ ls) refl), omega arith)
    legible forall = (numbers_short (l ∷ ls) (h (l ∷ ls) refl), omega arith)

clause_spoken : (o : Option (List Literal)) → ((ls : List Literal) → o ≡ some ls → Short ls) → (f : Line) → then o clause_of ≡ some f → Spoken f
clause_spoken none h f z = absurd (none_some f z)
clause_spoken (some ls) h f z = subst Spoken (some_same (clause ls) f z) (h ls refl)

header_spoken : (ws : List Bytes) (f : Line) → header_from ws ≡ some f → Spoken f
header_spoken [] f z = absurd (none_some f z)
header_spoken (w ∷ []) f z = absurd (none_some f z)
header_spoken (w ∷ v ∷ []) f z = absurd (none_some f z)
header_spoken (w ∷ v ∷ c ∷ x ∷ ws) f z = absurd (none_some f z)
header_spoken (w ∷ v ∷ c ∷ []) f z = by (same w cnf_word) (number v) refl (number c) z
  where
    by : (t : Bool) (o : Option ℕ) → number v ≡ o → (p : Option ℕ) → header_of t o p ≡ some f → Spoken f
    by true (some n) q (some k) y = subst Spoken (some_same (header n k) f y) (number_short v n q)
    by true (some n) q none y = absurd (none_some f y)
    by true none q p y = absurd (none_some f y)
    by false o q p y = absurd (none_some f y)

from_spoken : (ws : List Bytes) (f : Line) → line_from ws ≡ some f → Spoken f
unfolding line_from
from_spoken [] f z = absurd (none_some f z)
from_spoken (w ∷ ws) f z = by (same w header_word) (same w exists_word) (same w forall_word) z
  where
    by : (p e a : Bool) → cond p (header_from ws) (cond e (then (literals false ws) (group_of exists)) (cond a (then (literals false ws) (group_of forall)) (then (literals true (w ∷ ws)) clause_of))) ≡ some f → Spoken f
    by true e a y = header_spoken ws f y
    by false true a y = group_spoken exists refl (literals false ws) (literals_short false ws) f y
    by false false true y = group_spoken forall refl (literals false ws) (literals_short false ws) f y
    by false false false y = clause_spoken (literals true (w ∷ ws)) (literals_short true (w ∷ ws)) f y

pub line_spoken : (l : Bytes) (f : Line) → line_of l ≡ some f → Spoken f
unfolding line_of
line_spoken l f z = by (eqb (get_or l 0 0) comment_byte) (edged l) z
  where
    by : (s t : Bool) → cond s (some comment) (cond t (line_from (filled (split space l))) none) ≡ some f → Spoken f
    by true t y = subst Spoken (some_same comment f y) tt
    by false true y = from_spoken (filled (split space l)) f y
    by false false y = absurd (none_some f y)

-- what a parsed text is: each line's parse, and the rest's
pub parsed_spoken : (ps : List Bytes) (ls : List Line) → parsed ps ≡ some ls → AllSpoken ls
unfolding parsed consed
parsed_spoken [] ls z = absurd (none_some ls z)
parsed_spoken ([] ∷ []) ls z = subst AllSpoken (some_same [] ls z) tt
parsed_spoken ((b ∷ l) ∷ []) ls z = absurd (none_some ls z)
parsed_spoken (l ∷ m ∷ ps) ls z = by (line_of l) refl (parsed (m ∷ ps)) refl z (parsed_spoken (m ∷ ps))
  where
    by : (o : Option Line) → line_of l ≡ o → (p : Option (List Line)) → parsed (m ∷ ps) ≡ p → consed (λ f. f) o p ≡ some ls → ((fs : List Line) → parsed (m ∷ ps) ≡ some fs → AllSpoken fs) → AllSpoken ls
    by none q p r y ih = absurd (none_some ls y)
    by (some f) q none r y ih = absurd (none_some ls y)
    by (some f) q (some fs) r y ih = subst AllSpoken (some_same (f ∷ fs) ls y) (line_spoken l f q, ih fs r)
