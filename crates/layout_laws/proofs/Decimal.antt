-- Numbers in decimal: digit by digit, how long they are, and that a number that is written is read back.
use Prim.Native.Nat.{ℕ, zero, suc, ◌+◌, ◌*◌, ◌/◌, ◌%◌, ◌^◌, ◌<◌, ◌≤◌, ◌-◌}
use mathlib.Core.Path.{◌≡◌, refl, sym, ap, subst, ◌∙◌}
use mathlib.Core.Bool.{Bool, true, false, cond, not, ◌&&◌, ◌||◌}
use mathlib.Core.List.{[], ◌∷◌, ◌++◌}
use mathlib.Core.Option.{Option, none, some}
use native.Mathlib.Omega.{arith}
use native.Mathlib.Nat.{not-suc-le-zero}
use native.Mathlib.Decide.{dec_lt}
use borrow.Author.Tests.{eq-eqb, ne_eqb, le-leb, lt-ltb, le-ltb}
use lib.Dec.{eqb, leb, ltb}
use lib.ListN.{length, get_or, length-append, get_or-append}
use Rattle.layout.specs.Words.{Bytes, ascii, digits, number}
use Rattle.layout.specs.Forms.{then}
use Rattle.layout.specs.Output.{last_digits, decimal}

-- A bound on the digits that is large enough does not show: one more than n, or so many digits that n is below their power of ten.
fuel : (k m n : ℕ) → n < 10 ^ suc k → n < m → last_digits (suc k) n ≡ last_digits m n
unfolding last_digits
fuel k zero n h g = absurd (not-suc-le-zero g)
fuel zero (suc m) n h g = rw (lt-ltb n 10 (omega arith))
fuel (suc k) (suc m) n h g = by (dec_lt n 10) (λ q. fuel k m (n / 10) (omega arith) (omega arith))
  where
    by : Dec (n < 10) → (10 ≤ n → last_digits (suc k) (n / 10) ≡ last_digits m (n / 10)) → last_digits (suc (suc k)) n ≡ last_digits (suc m) n
    by (yes q) ih = rw (lt-ltb n 10 q)
    by (no q) ih = rw (le-ltb n 10 (omega (arith, q)), ih (omega (arith, q)))

power : (n : ℕ) → n < 10 ^ suc n
power zero = omega arith
power (suc n) = omega (arith, power n)

-- a number of at most k + 1 digits
pub decimal_digits : (k n : ℕ) → n < 10 ^ suc k → decimal n ≡ last_digits (suc k) n
unfolding decimal
decimal_digits k n h = sym (fuel k (suc n) n h (omega arith))

-- the most visits that 40 variables need
most_visits : decimal 2199023255551 ≡ ascii "2199023255551"
unfolding last_digits
most_visits = decimal_digits 12 2199023255551 (omega arith)

pub decimal_one : (n : ℕ) → n < 10 → decimal n ≡ (48 + n) ∷ []
unfolding decimal last_digits
decimal_one n h = rw (lt-ltb n 10 h)

pub decimal_more : (n : ℕ) → 10 ≤ n → decimal n ≡ decimal (n / 10) ++ ((48 + n % 10) ∷ [])
unfolding decimal last_digits
decimal_more (suc n) h = rw (le-ltb (suc n) 10 h, fuel n (suc (suc n / 10)) (suc n / 10) (omega (arith, power n)) (omega arith))
decimal_more zero h = absurd (omega arith)

pub length_one : (n : ℕ) → n < 10 → length (decimal n) ≡ 1
length_one n h = ap length (decimal_one n h)

pub length_more : (n : ℕ) → 10 ≤ n → length (decimal n) ≡ length (decimal (n / 10)) + 1
length_more n h = ap length (decimal_more n h) ∙ length-append (decimal (n / 10)) ((48 + n % 10) ∷ [])

last_length : (k n : ℕ) → length (last_digits k n) ≤ k
unfolding last_digits
last_length zero n = omega arith
last_length (suc k) n = by (ltb n 10) (last_length k (n / 10))
  where
    by : (t : Bool) → length (last_digits k (n / 10)) ≤ k → length (cond t ((48 + n) ∷ []) (last_digits k (n / 10) ++ ((48 + n % 10) ∷ []))) ≤ suc k
    by true h = omega arith
    by false h = omega (arith, h, length-append (last_digits k (n / 10)) ((48 + n % 10) ∷ []))

-- a number below a power of ten has at most as many digits
pub decimal_length : (k n : ℕ) → n < 10 ^ suc k → length (decimal n) ≤ suc k
decimal_length k n h = subst (λ (w : Bytes). length w ≤ suc k) (sym (decimal_digits k n h)) (last_length (suc k) n)

-- ---- what is written is read back
digits_append : (v : ℕ) (x y : Bytes) → digits v (x ++ y) ≡ then (digits v x) (λ u. digits u y)
unfolding digits
digits_append v [] y = refl
digits_append v (b ∷ x) y = by (leb 48 b && leb b 57) (digits_append (v * 10 + (b - 48)) x y)
  where
    by : (t : Bool) → digits (v * 10 + (b - 48)) (x ++ y) ≡ then (digits (v * 10 + (b - 48)) x) (λ u. digits u y)
        → cond t (digits (v * 10 + (b - 48)) (x ++ y)) none ≡ then (cond t (digits (v * 10 + (b - 48)) x) none) (λ u. digits u y)
    by true h = h
    by false h = refl

digit : (v d : ℕ) → d < 10 → digits v ((48 + d) ∷ []) ≡ some (v * 10 + d)
unfolding digits
digit v d h = rw (le-leb 48 (48 + d) (omega arith), le-leb (48 + d) 57 (omega arith)) (ap some e)
  where
    e : v * 10 + (48 + d - 48) ≡ v * 10 + d
    e = omega arith

record Back (w : Bytes) (n : ℕ) : Type 0 where
  value : digits 0 w ≡ some n
  some_digits : 1 ≤ length w
  lead : 1 ≤ n → 48 < get_or w 0 0

back : (k n : ℕ) → n < k → Back (last_digits k n) n
unfolding last_digits
back zero n h = absurd (not-suc-le-zero h)
back (suc k) n h = by (dec_lt n 10) (λ q. back k (n / 10) (omega arith))
  where
    by : Dec (n < 10) → (10 ≤ n → Back (last_digits k (n / 10)) (n / 10)) → Back (last_digits (suc k) n) n
    by (yes q) ih = rw lt-ltb (record { value = digit 0 n q ∙ ap some zero_less; some_digits = omega arith; lead = λ p. omega arith })
      where
        zero_less : 0 * 10 + n ≡ n
        zero_less = omega arith
    by (no q) ih =
        let g : 10 ≤ n = omega (arith, q) in
        let p = ih g in
        rw le-ltb
        (record {
          value = digits_append 0 (last_digits k (n / 10)) ((48 + n % 10) ∷ []) ∙ ap (λ (o : Option ℕ). then o (λ u. digits u ((48 + n % 10) ∷ []))) p.value
              ∙ digit (n / 10) (n % 10) (omega arith) ∙ ap some whole;
          some_digits = omega (arith, p.some_digits, length-append (last_digits k (n / 10)) ((48 + n % 10) ∷ []));
          lead = λ z. subst (λ (b : ℕ). 48 < b) (sym (get_or-append (last_digits k (n / 10)) ((48 + n % 10) ∷ []) 0 0 p.some_digits)) (p.lead (omega arith));
        })
      where
        whole : n / 10 * 10 + n % 10 ≡ n
        whole = omega arith

decimal_back : (n : ℕ) → Back (decimal n) n
unfolding decimal
decimal_back n = back (suc n) n (omega arith)

pub number_decimal : (n : ℕ) → n < 100000 → number (decimal n) ≡ some n
unfolding number
number_decimal n h = by (dec_lt n 1)
  where
    p : Back (decimal n) n
    p = decimal_back n

    s : length (decimal n) ≤ 5
    s = decimal_length 4 n h

    by : Dec (n < 1) → cond (leb 1 (length (decimal n)) && leb (length (decimal n)) 5 && (eqb (length (decimal n)) 1 || not (eqb (get_or (decimal n) 0 0) 48))) (digits 0 (decimal n)) none ≡ some n
    by (yes q) = rw (le-leb 1 (length (decimal n)) p.some_digits, le-leb (length (decimal n)) 5 s, eq-eqb (length (decimal n)) 1 (length_one n (omega arith))) p.value
    by (no q) =
        rw (le-leb 1 (length (decimal n)) p.some_digits, le-leb (length (decimal n)) 5 s, ne_eqb (get_or (decimal n) 0 0) 48 (λ e. omega (arith, p.lead (omega (arith, q)))))
        (or_true (eqb (length (decimal n)) 1))
      where
        or_true : (t : Bool) → cond (t || true) (digits 0 (decimal n)) none ≡ some n
        or_true true = p.value
        or_true false = p.value
