-- Numbers: digits one by one, the tests of a number in the order of the code, and a number with a closing bracket.
use Prim.Native.Nat.{ℕ, suc, ◌+◌, ◌*◌, ◌^◌, ◌<◌, ◌≤◌, zero-le, ◌-◌}
use mathlib.Core.Path.{◌≡◌, refl, sym, ap, subst, ◌∙◌}
use mathlib.Core.Bool.{Bool, true, false, cond, not, ◌&&◌, ◌||◌}
use mathlib.Core.List.{[], ◌∷◌}
use mathlib.Core.Option.{Option, none, some}
use native.Mathlib.Omega.{arith}
use native.Mathlib.Numerals.{add-one}
use native.Mathlib.Nat.{pow-le-pow_right, zero-lt-suc}
use borrow.Author.Tests.{eq-eqb, ne_eqb, le-leb, lt-leb, leb-true, leb-false}
use lib.Dec.{leb, eqb}
use lib.ListN.{length, get_or, take, drop, drop_of_length-le, get_or-eq_default}
use lib.Seq.{drop-cons}
use Rattle.std.specs.Prelude.{Option as Answer, Some, None, Result, Ok, Err}
use Rattle.std.specs.Bool.{then_some}
use Rattle.std.specs.Result.{OkIff, result_ok}
use Rattle.qbf.specs.Ceiling.{highest_ceiling}
use Rattle.theory.proofs.Basics.{and_left, and_right}
use Rattle.layout.specs.Words.{Bytes, is_digit, digits, number, number_within, closed}
use Rattle.layout.specs.Forms.{then}
use Rattle.layout.specs.Endings.{within}
use Rattle.reader.specs.Numbers.{num_of}

-- ---- digits
ten_step : (v i d : ℕ) → v < 10 ^ i → d ≤ 9 → v * 10 + d < 10 ^ (i + 1)
ten_step v i d h k = rw add-one (omega arith)

-- i digits of w are read, with the value v
pub record Valued (w : Bytes) (i v : ℕ) : Type 0 where
  pub high : i ≤ length w
  pub small : v < 10 ^ i
  pub is : digits 0 w ≡ digits v (drop i w)

pub value_none : (w : Bytes) → Valued w 0 0
value_none w = record { high = zero-le; small = omega arith; is = refl }

module _ {w : Bytes} {i v : ℕ} (p : Valued w i v) where
  pub value_small : i ≤ 9 → v < 1000000000
  value_small k = let top : 10 ^ i ≤ 10 ^ 9 = pow-le-pow_right (zero-lt-suc 9) k in omega (arith, p.small)

  pub value_more : i < length w → is_digit (get_or w i 0) ≡ true → Valued w (i + 1) (v * 10 + (get_or w i 0 - 48))
  unfolding digits
  value_more h q =
      record {
        high = omega arith;
        small = ten_step v i (get_or w i 0 - 48) p.small (omega (arith, leb-true (get_or w i 0) 57 (and_right (leb 48 (get_or w i 0)) (leb (get_or w i 0) 57) q)));
        is = p.is ∙ rw (add-one, drop-cons w i 0 h, q);
      }

  bad : i < length w → is_digit (get_or w i 0) ≡ false → digits 0 w ≡ none
  unfolding digits
  bad h q = p.is ∙ rw (drop-cons w i 0 h, q)

  pub value_bad : i < length w → is_digit (get_or w i 0) ≡ false → none ≡ then (digits 0 w) (within highest_ceiling)
  value_bad h q = ap (λ (o : Option ℕ). then o (within highest_ceiling)) (sym (bad h q))

  all_read : length w ≤ i → digits 0 w ≡ some v
  unfolding digits
  all_read h = p.is ∙ rw (drop_of_length-le w h)

  -- what fits 32 bits
  pub value_all : {E : Type 0} (r : Result ℕ E) {o : Answer ℕ} → length w ≤ i → OkIff r (v < 4294967296) v → o ≡ result_ok r → num_of o ≡ then (digits 0 w) (within highest_ceiling)
  value_all {E} r h k e = ap num_of e ∙ by r k ∙ sym (ap (λ (o : Option ℕ). then o (within highest_ceiling)) (all_read h))
    where
      by : (r : Result ℕ E) → OkIff r (v < 4294967296) v → num_of (result_ok r) ≡ within highest_ceiling v
      by (Ok x) (lt, q) = ap some q ∙ sym (rw (le-leb v highest_ceiling (omega (arith, lt))))
      by (Err d) over = let low : highest_ceiling < v = omega (arith, over) in sym (rw (lt-leb v highest_ceiling low))

-- ---- numbers of at most m digits: the tests in the order of the code
module _ (w : Bytes) (m : ℕ) where
  abbrev read : Option ℕ
  read = then (number_within m w) (within highest_ceiling)

-- ---- a number of few digits is no higher than the highest ceiling
digits_below : (w : Bytes) (v n i : ℕ) → v < 10 ^ i → digits v w ≡ some n → n < 10 ^ (i + length w)
unfolding digits
digits_below [] v n i h e = let same : v ≡ n = cc in subst (λ (k : ℕ). n < 10 ^ k) (omega arith) (subst (λ (x : ℕ). x < 10 ^ i) same h)
digits_below (b ∷ w) v n i h e = by (is_digit b) refl e (digits_below w (v * 10 + (b - 48)) n (i + 1))
  where
    Below : Type 0
    Below = v * 10 + (b - 48) < 10 ^ (i + 1) → digits (v * 10 + (b - 48)) w ≡ some n → n < 10 ^ (i + 1 + length w)

    by : (t : Bool) → is_digit b ≡ t → cond t (digits (v * 10 + (b - 48)) w) none ≡ some n → Below → n < 10 ^ (i + suc (length w))
    by true q e ih =
        let nine = leb-true b 57 (and_right (leb 48 b) (leb b 57) q) in
        subst (λ (k : ℕ). n < 10 ^ k) (omega arith) (ih (ten_step v i (b - 48) h (omega (arith, nine))) e)
    by false q e ih = absurd (none_some e)
      where
        none_some : none ≡ some n → ⊥
        none_some z = let x : ◌≡◌ {A = ℕ} 0 1 = cc in omega arith

pub number_fits : (w : Bytes) → then (number_within 5 w) (within highest_ceiling) ≡ number w
unfolding number
number_fits w = by (leb 1 (length w) && leb (length w) 5 && (eqb (length w) 1 || not (eqb (get_or w 0 0) 48))) refl (digits 0 w) refl
  where
    short : (leb 1 (length w) && leb (length w) 5 && (eqb (length w) 1 || not (eqb (get_or w 0 0) 48))) ≡ true → length w ≤ 5
    short e = leb-true (length w) 5 (and_right (leb 1 (length w)) (leb (length w) 5) (and_left (leb 1 (length w) && leb (length w) 5) (eqb (length w) 1 || not (eqb (get_or w 0 0) 48)) e))

    by : (t : Bool) → (leb 1 (length w) && leb (length w) 5 && (eqb (length w) 1 || not (eqb (get_or w 0 0) 48))) ≡ t → (o : Option ℕ) → digits 0 w ≡ o → then (cond t o none) (within highest_ceiling) ≡ cond t o none
    by false q o e = refl
    by true q none e = refl
    by true q (some n) e =
        let small : n < 10 ^ length w = subst (λ (k : ℕ). n < 10 ^ k) (omega arith) (digits_below w 0 n 0 (omega arith) e) in
        let top : 10 ^ length w ≤ 10 ^ 5 = pow-le-pow_right (zero-lt-suc 9) (short q) in
        rw (le-leb n highest_ceiling (omega (arith, small, top)))

-- ---- a number that is no higher than one which the highest ceiling is not below
module _ (o : Option ℕ) {top : ℕ} (below : top ≤ highest_ceiling) (z : Answer ℕ) (read : num_of z ≡ then o (within highest_ceiling)) where
  narrower : then (num_of z) (within top) ≡ then o (within top)
  narrower = ap (λ (p : Option ℕ). then p (within top)) read ∙ twice o
    where
      twice : (p : Option ℕ) → then (then p (within highest_ceiling)) (within top) ≡ then p (within top)
      twice none = refl
      twice (some n) = by (leb n highest_ceiling) refl
        where
          by : (t : Bool) → leb n highest_ceiling ≡ t → then (cond t (some n) none) (within top) ≡ within top n
          by true e = refl
          by false e = sym (rw (lt-leb n top (omega (arith, leb-false n highest_ceiling e, below))))

  pub up_none : z ≡ None → none ≡ then o (within top)
  up_none h = sym (ap (λ (y : Answer ℕ). then (num_of y) (within top)) h) ∙ narrower

  pub up_at : {n : ℕ} → z ≡ Some n → {y : Answer ℕ} → y ≡ then_some (leb n top) n → num_of y ≡ then o (within top)
  up_at {n} h {y} e = ap num_of e ∙ by (leb n top) ∙ sym (ap (λ (x : Answer ℕ). then (num_of x) (within top)) h) ∙ narrower
    where
      by : (t : Bool) → num_of (then_some t n) ≡ cond t (some n) none
      by true = refl
      by false = refl

-- ---- a word with a closing bracket
module _ (w : Bytes) where
  pub closed_none : length w ≡ 0 → closed w ≡ none
  unfolding closed
  closed_none h = rw (get_or-eq_default w 0 short)
    where
      short : length w ≤ length w - 1
      short = omega arith

  pub closed_other : (get_or w (length w - 1) 0 ≡ 41 → ⊥) → closed w ≡ none
  unfolding closed
  closed_other h = rw (ne_eqb (get_or w (length w - 1) 0) 41 h)

  pub closed_is : get_or w (length w - 1) 0 ≡ 41 → closed w ≡ some (take (length w - 1) w)
  unfolding closed
  closed_is h = rw (eq-eqb (get_or w (length w - 1) 0) 41 h)
