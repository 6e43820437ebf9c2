-- A text among the lines of a day is the book of a session: "to its first line `(end)`", and 9 where that does not stand within 65,536 bytes.
use Prim.Native.Nat.{ℕ, suc, ◌+◌, ◌<◌, ◌≤◌}
use mathlib.Core.Path.{◌≡◌, refl, sym, ap, ◌∙◌}
use mathlib.Core.Bool.{Bool, true, false, cond, ◌&&◌}
use lib.Dec.{eqb}
use mathlib.Core.List.{List, [], ◌∷◌, ◌++◌, append_assoc}
use mathlib.Core.Option.{Option, none, some}
use native.Mathlib.Omega.{arith}
use native.Mathlib.Decide.{dec_lt}
use borrow.Author.Tests.{le-ltb, lt-ltb}
use lib.ListN.{length, length-append}
use Rattle.qbf.specs.Formula.{Limits}
use Rattle.layout.specs.Words.{Bytes, newline, same}
use Rattle.layout.specs.Opening.{text_bytes, Opened}
use Rattle.layout.specs.Session.{end_line, Parted, onto, parted}
use Rattle.editions.specs.Opening.{both, open_editions}
use Rattle.feeding.specs.Lines.{Part, begun, overlong, Answered, as_line}
use Rattle.feeding.proofs.Sessions.{open_long}
use Rattle.layout.specs.Output.{refusal_text}
use Rattle.day_text.specs.Lines.{Place}
use Rattle.day_text.specs.Output.{at_text, opening_text}
use Rattle.day_text.specs.Program.{Loading, kept, joined_parts, with_line, open_part, ends_text, Phase, text, judged, on_text_line, day_lines}

kept_long : (s : Bytes) → text_bytes < length s → kept s ≡ overlong
kept_long s h = ap (λ (t : Bool). cond t overlong (begun s)) (lt-ltb text_bytes (length s) h)

kept_short : (s : Bytes) → length s ≤ text_bytes → kept s ≡ begun s
kept_short s h = ap (λ (t : Bool). cond t overlong (begun s)) (le-ltb text_bytes (length s) h)

line_long : (l : Bytes) → text_bytes < length l → as_line l ≡ none
line_long l h = ap (λ (t : Bool). cond t none (some l)) (lt-ltb text_bytes (length l) h)

line_short : (l : Bytes) → length l ≤ text_bytes → as_line l ≡ some l
line_short l h = ap (λ (t : Bool). cond t none (some l)) (le-ltb text_bytes (length l) h)

-- Of a text that is too long nothing has to be kept: whatever follows, it is too long.
pub joined_kept : (t l : Bytes) → joined_parts (kept t) (kept l) ≡ kept (t ++ l)
joined_kept t l = by (dec_lt text_bytes (length t)) (dec_lt text_bytes (length l))
  where
    by : Dec (text_bytes < length t) → Dec (text_bytes < length l) → joined_parts (kept t) (kept l) ≡ kept (t ++ l)
    by (yes h) d = rw (kept_long t h) (sym (kept_long (t ++ l) (omega (arith, h, length-append t l))))
    by (no h) (yes k) = rw (kept_short t (omega (arith, h)), kept_long l k) (sym (kept_long (t ++ l) (omega (arith, k, length-append t l))))
    by (no h) (no k) = rw (kept_short t (omega (arith, h)), kept_short l (omega (arith, k))) refl

pub line_kept : (t l : Bytes) → with_line (kept t) (as_line l) ≡ kept (t ++ (l ++ (newline ∷ [])))
line_kept t l = by (dec_lt text_bytes (length t)) (dec_lt text_bytes (length l))
  where
    longer : length t + length l ≤ length (t ++ (l ++ (newline ∷ [])))
    longer = omega (arith, length-append t (l ++ (newline ∷ [])), length-append l (newline ∷ []))

    by : Dec (text_bytes < length t) → Dec (text_bytes < length l) → with_line (kept t) (as_line l) ≡ kept (t ++ (l ++ (newline ∷ [])))
    by (yes h) d = rw (kept_long t h) (sym (kept_long (t ++ (l ++ (newline ∷ []))) (omega (arith, h, longer))))
    by (no h) (yes k) = rw (kept_short t (omega (arith, h)), line_long l k) (sym (kept_long (t ++ (l ++ (newline ∷ []))) (omega (arith, k, longer))))
    by (no h) (no k) = rw (kept_short t (omega (arith, h)), line_short l (omega (arith, k))) refl

pub open_kept : (L : Limits) (s : Bytes) → open_part L (kept s) ≡ open_editions both L s
open_kept L s = by (dec_lt text_bytes (length s))
  where
    by : Dec (text_bytes < length s) → open_part L (kept s) ≡ open_editions both L s
    by (yes h) = ap (open_part L) (kept_long s h) ∙ sym (open_long L s h)
    by (no h) = ap (open_part L) (kept_short s (omega (arith, h)))

-- a longer word is another one
longer_other : (w v : Bytes) → length v < length w → same w v ≡ false
unfolding same
longer_other [] v h = absurd (omega (arith, h))
longer_other (a ∷ w) [] h = refl
longer_other (a ∷ w) (b ∷ v) h = rw (longer_other w v (omega (arith, h))) (by (eqb a b))
  where
    by : (t : Bool) → (t && false) ≡ false
    by true = refl
    by false = refl

pub end_told : (l : Bytes) → ends_text (as_line l) ≡ same l end_line
end_told l = by (dec_lt text_bytes (length l))
  where
    by : Dec (text_bytes < length l) → ends_text (as_line l) ≡ same l end_line
    by (yes h) = ap ends_text (line_long l h) ∙ sym (longer_other l end_line (omega (arith, h)))
    by (no h) = ap ends_text (line_short l (omega (arith, h)))

-- what is printed where a text is judged, and for the lines behind it from number n on
abbrev pub judged_then : ℕ → Answered Phase → List Bytes → Bytes
judged_then n a [] = a.text
judged_then n a (l ∷ ls) = a.text ++ day_lines n a.left (l ∷ ls)

-- .. of a text whose bytes before these lines are t
abbrev pub text_then : ℕ → Loading → Option Place → Bytes → Parted → Bytes
text_then n z p t q = judged_then (n + q.count) (judged z p (kept (t ++ q.book))) q.rest

text_read : (l : Bytes) (ls : List Bytes) (n : ℕ) (z : Loading) (p : Option Place) (t : Bytes) → day_lines n (text z p (kept t)) (l ∷ ls) ≡ text_then n z p t (parted (l ∷ ls))
unfolding day_lines parted
text_read l [] n z p t = ap (λ (u : Part). (judged z p u).text) (joined_kept t l)
text_read l (m ∷ ls) n z p t =
    rw (end_told l, line_kept t l) (by (same l end_line) (text_read m ls (suc n) z p (t ++ (l ++ (newline ∷ [])))))
  where
    more : Part
    more = kept (t ++ (l ++ (newline ∷ [])))

    q : Parted
    q = parted (m ∷ ls)

    behind : text_then (suc n) z p (t ++ (l ++ (newline ∷ []))) q ≡ text_then n z p t (onto l q)
    behind =
        let k : suc n + q.count ≡ n + suc q.count = omega arith in
        ap (λ (i : ℕ). judged_then i (judged z p (kept (t ++ (l ++ (newline ∷ [])) ++ q.book))) q.rest) k
        ∙ ap (λ (s : Bytes). judged_then (n + suc q.count) (judged z p (kept s)) q.rest) (append_assoc t (l ++ (newline ∷ [])) q.book ∙ ap (λ (s : Bytes). t ++ s) (append_assoc l (newline ∷ []) q.book))

    by : (u : Bool) → day_lines (suc n) (text z p more) (m ∷ ls) ≡ text_then (suc n) z p (t ++ (l ++ (newline ∷ []))) q
        → (on_text_line z p more u).text ++ day_lines (suc n) (on_text_line z p more u).left (m ∷ ls)
        ≡ text_then n z p t (cond u (record { book = l ++ (newline ∷ []); count = 1; rest = m ∷ ls }) (onto l q))
    by true go = let k : suc n ≡ n + 1 = omega arith in ap (λ (i : ℕ). (judged z p more).text ++ day_lines i (judged z p more).left (m ∷ ls)) k
    by false go = go ∙ behind

-- Behind a place line: the text is the book that a session would read there, judged under the place's limits, and the lines go on behind it.
pub text_as_session : (l : Bytes) (ls : List Bytes) (n : ℕ) (z : Loading) (p : Option Place) → day_lines n (text z p (begun [])) (l ∷ ls) ≡ text_then n z p [] (parted (l ∷ ls))
text_as_session l ls n z p = text_read l ls n z p []

-- what is printed for it: its place, and `(opened)` or the refusal of a session's book
pub text_judged : (z : Loading) (p : Place) (s : Bytes) → (judged z (some p) (kept s)).text ≡ at_text p.place ++ opening_text (open_editions both p.limits s)
text_judged z p s = ap (λ (o : Opened). at_text p.place ++ opening_text o) (open_kept p.limits s)

-- "where none stands within 65,536 bytes it is 9"
pub long_judged : (z : Loading) (p : Place) (s : Bytes) → text_bytes < length s → (judged z (some p) (kept s)).text ≡ at_text p.place ++ refusal_text 9 0
long_judged z p s h = ap (λ (t : Part). at_text p.place ++ opening_text (open_part p.limits t)) (kept_long s h)

-- nothing is printed for a text that is skipped
pub skipped : (z : Loading) (t : Part) → (judged z none t).text ≡ []
skipped z t = refl
