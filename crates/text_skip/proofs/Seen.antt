-- What is seen of a line tells whether it is `(end)`, and a further byte tells what is seen then.
use Prim.Native.Nat.{ℕ, suc, ◌+◌, ◌-◌, ◌≤◌, ◌<◌}
use mathlib.Core.Path.{◌≡◌, refl, sym, ap, ◌∙◌}
use mathlib.Core.Bool.{Bool, true, false, cond, ◌&&◌}
use mathlib.Core.List.{[], ◌∷◌, ◌++◌}
use native.Mathlib.Omega.{arith}
use native.Mathlib.Decide.{dec_lt}
use borrow.Author.Tests.{le-ltb, lt-ltb, eq-eqb, ne_eqb}
use lib.Dec.{eqb, ltb}
use lib.ListN.{length, get_or}
use Rattle.layout.specs.Words.{Bytes, same}
use Rattle.layout.specs.Session.{end_line}
use Rattle.layout.specs.Opening.{text_bytes}
use Rattle.feeding.specs.Lines.{Part, begun, overlong, grown, line_of}
use Rattle.day_text.specs.Program.{ends_text}
use Rattle.text_skip.specs.Skip.{other, seen_from, seen_of, next_seen}

-- all bytes of the line p, and no more, are seen where the line is p
seen_all : (p : Bytes) (k : ℕ) (l : Bytes) → k + length p < other → eqb (seen_from p k l) (k + length p) ≡ same l p
unfolding seen_from same
seen_all [] k [] h = eq-eqb k (k + 0) (omega arith)
seen_all [] k (b ∷ l) h = ne_eqb other (k + 0) (λ e. omega (arith, h, e))
seen_all (a ∷ p) k [] h = ne_eqb k (k + suc (length p)) (λ e. omega (arith, e))
seen_all (a ∷ p) k (b ∷ l) h = by (eqb b a) (seen_all p (suc k) l (omega (arith, h)))
  where
    count : suc k + length p ≡ k + suc (length p)
    count = omega arith

    by : (t : Bool) → eqb (seen_from p (suc k) l) (suc k + length p) ≡ same l p → eqb (cond t (seen_from p (suc k) l) other) (k + suc (length p)) ≡ (t && same l p)
    by true go = ap (eqb (seen_from p (suc k) l)) (sym count) ∙ go
    by false go = ne_eqb other (k + suc (length p)) (λ e. omega (arith, h, e))

pub line_seen : (p : Part) → eqb (seen_of p) (length end_line) ≡ ends_text (line_of p)
line_seen (begun l) = seen_all end_line 0 l (omega arith)
line_seen overlong = refl

-- a line that is longer is another one
seen_long : (p : Bytes) (k : ℕ) (l : Bytes) → length p < length l → seen_from p k l ≡ other
unfolding seen_from
seen_long p k [] h = absurd (omega (arith, h))
seen_long [] k (b ∷ l) h = refl
seen_long (a ∷ p) k (b ∷ l) h = by (eqb b a) (seen_long p (suc k) l (omega (arith, h)))
  where
    by : (t : Bool) → seen_from p (suc k) l ≡ other → cond t (seen_from p (suc k) l) other ≡ other
    by true go = go
    by false go = refl

-- ---- a further byte
seen_low : (p : Bytes) (k : ℕ) (l : Bytes) → k + length p < other → k ≤ seen_from p k l
unfolding seen_from
seen_low p k [] h = omega arith
seen_low [] k (b ∷ l) h = omega (arith, h)
seen_low (a ∷ p) k (b ∷ l) h = by (eqb b a) (seen_low p (suc k) l (omega (arith, h)))
  where
    by : (t : Bool) → suc k ≤ seen_from p (suc k) l → k ≤ cond t (seen_from p (suc k) l) other
    by true go = omega (arith, go)
    by false go = omega (arith, h)

seen_more : (p : Bytes) (k : ℕ) (l : Bytes) (b : ℕ) → k + length p < other
    → seen_from p k (l ++ (b ∷ [])) ≡ cond (ltb (seen_from p k l) (k + length p) && eqb b (get_or p (seen_from p k l - k) 0)) (suc (seen_from p k l)) other
unfolding seen_from
seen_more [] k [] b h = sym (ap (λ (t : Bool). cond (t && eqb b (get_or [] (k - k) 0)) (suc k) other) (le-ltb k (k + 0) (omega arith)))
seen_more (a ∷ p) k [] b h =
    let z : k - k ≡ 0 = omega arith in
    sym (ap (λ (t : Bool). cond (t && eqb b (get_or (a ∷ p) (k - k) 0)) (suc k) other) (lt-ltb k (k + suc (length p)) (omega arith)) ∙ ap (λ (n : ℕ). cond (eqb b (get_or (a ∷ p) n 0)) (suc k) other) z)
seen_more [] k (c ∷ l) b h = sym (ap (λ (t : Bool). cond (t && eqb b (get_or [] (other - k) 0)) (suc other) other) (le-ltb other (k + 0) (omega (arith, h))))
seen_more (a ∷ p) k (c ∷ l) b h = by (eqb c a) (seen_more p (suc k) l b (omega (arith, h))) (seen_low p (suc k) l (omega (arith, h)))
  where
    j : ℕ
    j = seen_from p (suc k) l

    further : ℕ → ℕ
    further i = cond (ltb i (k + suc (length p)) && eqb b (get_or (a ∷ p) (i - k) 0)) (suc i) other

    by : (t : Bool) → seen_from p (suc k) (l ++ (b ∷ [])) ≡ cond (ltb j (suc k + length p) && eqb b (get_or p (j - suc k) 0)) (suc j) other → suc k ≤ j
        → cond t (seen_from p (suc k) (l ++ (b ∷ []))) other ≡ further (cond t j other)
    by true go low =
        let count : suc k + length p ≡ k + suc (length p) = omega arith in
        let at : suc (j - suc k) ≡ j - k = omega (arith, low) in
        go ∙ ap (λ (n : ℕ). cond (ltb j n && eqb b (get_or p (j - suc k) 0)) (suc j) other) count
        ∙ ap (λ (n : ℕ). cond (ltb j (k + suc (length p)) && eqb b (get_or (a ∷ p) n 0)) (suc j) other) at
    by false go low = sym (ap (λ (t : Bool). cond (t && eqb b (get_or (a ∷ p) (other - k) 0)) (suc other) other) (le-ltb other (k + suc (length p)) (omega (arith, h))))

pub part_seen : (p : Part) (b : ℕ) → seen_of (grown p b) ≡ next_seen (seen_of p) b
unfolding grown
part_seen (begun l) b = by (dec_lt (length l) text_bytes)
  where
    j : ℕ
    j = seen_from end_line 0 l

    by : Dec (length l < text_bytes) → seen_of (cond (ltb (length l) text_bytes) (begun (l ++ (b ∷ []))) overlong) ≡ next_seen j b
    by (yes h) =
        let z : j - 0 ≡ j = omega arith in
        ap (λ (t : Bool). seen_of (cond t (begun (l ++ (b ∷ []))) overlong)) (lt-ltb (length l) text_bytes h)
        ∙ seen_more end_line 0 l b (omega arith)
        ∙ ap (λ (n : ℕ). cond (ltb j (length end_line) && eqb b (get_or end_line n 0)) (suc j) other) z
    by (no h) =
        ap (λ (t : Bool). seen_of (cond t (begun (l ++ (b ∷ []))) overlong)) (le-ltb (length l) text_bytes (omega (arith, h)))
        ∙ sym (ap (λ (n : ℕ). next_seen n b) (seen_long end_line 0 l (omega (arith, h))))
part_seen overlong b = refl
