-- Membership by words: a number put in, and words written one after the other. Assumes nothing.
use mathlib.Core.Path.{◌≡◌, refl, sym, ap, ap₂, ◌∙◌, subst}
use mathlib.Core.Logic.{◌⊎◌, inl, inr, ⊎_elim}
use mathlib.Core.Bool.{Bool, false, not, ◌&&◌, ◌||◌, or-false}
use mathlib.Core.List.{List}
use Prim.Native.Nat.{ℕ, zero, suc, ◌+◌, ◌*◌, ◌/◌, ◌%◌, ◌^◌, ◌≤◌, ◌<◌}
use native.Mathlib.Nat.{not-suc-le-zero}
use native.Mathlib.Omega.{arith}
use lib.Pow.{pow-lt}
use native.Mathlib.Nat.{mod-eq_of_lt, one-mul, eq-or-lt_of_le}
use lib.Dec.{eqb}
use lib.ListN.{length, get_or, set, length-set}
use lib.Seq.{get_or-set_same, get_or-set_other}
use lib.Bits.{bit_or}
use Rattle.std.proofs.Common.{replicate}
use Rattle.std.proofs.lemmas.List.{get_or-replicate, get_or_past, length-replicate}
use borrow.Author.Tests.{eqb-true, eqb-false, eq-eqb, ne_eqb}
use Rattle.bitset.specs.Rows.{width, member, outside, Kept, Inserted, Cleared}
use Rattle.bitset.specs.Words.{rest_at}
use Rattle.bitset.proofs.Digits.{has, has_or, has_rest, has_one, has_none}
use Rattle.bitset.proofs.Below.{bool_cases}

pub member_has : (t : List ℕ) (f i : ℕ) → member t f i ≡ has (i % width) (get_or t (f + i / width) 0)
unfolding member has
member_has t f i = refl

pub outside_has : (a : List ℕ) (a₀ : ℕ) (b : List ℕ) (b₀ i : ℕ)
    → outside a a₀ b b₀ i ≡ has (i % width) (rest_at a (a₀ + i / width) b (b₀ + i / width))
outside_has a a₀ b b₀ i =
    ap₂ (λ (x y : Bool). x && not y) (member_has a a₀ i) (member_has b b₀ i)
    ∙ sym (has_rest (i % width) (get_or a (a₀ + i / width) 0) (get_or b (b₀ + i / width) 0))

-- a row's number counted from the table's first word
pub member_counted : (t : List ℕ) (f i : ℕ) → member t f i ≡ member t 0 (f * width + i)
member_counted t f i =
    let digit : i % width ≡ (f * width + i) % width = omega arith in
    let word : f + i / width ≡ 0 + (f * width + i) / width = omega arith in
    member_has t f i
    ∙ ap₂ (λ (x y : ℕ). has x (get_or t y 0)) digit word
    ∙ sym (member_has t 0 (f * width + i))

-- where the words are the same, the members are
same_at : (t t' : List ℕ) (f i : ℕ) → get_or t' (f + i / width) 0 ≡ get_or t (f + i / width) 0 → member t' f i ≡ member t f i
same_at t t' f i e = member_has t' f i ∙ ap (has (i % width)) e ∙ sym (member_has t f i)

pub kept_of : (from n : ℕ) (t t' : List ℕ)
    → length t' ≡ length t
    → ((x : ℕ) → x < from → get_or t' x 0 ≡ get_or t x 0)
    → ((x : ℕ) → from + n ≤ x → get_or t' x 0 ≡ get_or t x 0)
    → Kept from n t t'
kept_of from n t t' e below above = record {
  long = e;
  below = λ f i h. same_at t t' f i (below (f + i / width) (omega arith));
  above = λ f i h. same_at t t' f i (above (f + i / width) (omega arith));
}

-- ---- a number put in
same_test : (a b c d : ℕ) → (a ≡ b → c ≡ d) → (c ≡ d → a ≡ b) → eqb a b ≡ eqb c d
same_test a b c d there back =
    ⊎_elim
    (λ e. e ∙ sym (eq-eqb c d (there (eqb-true a b e))))
    (λ e. e ∙ sym (ne_eqb c d (λ q. eqb-false a b e (back q))))
    (bool_cases (eqb a b))

module _ (t : List ℕ) (from i : ℕ) (within : from + i / width < length t) where
  abbrev at : ℕ
  at = from + i / width

  abbrev more : ℕ
  more = bit_or (get_or t at 0) (1 * 2 ^ (i % width))

  put : (f j : ℕ) → (f + j / width ≡ at) ⊎ (eqb (f + j / width) at ≡ false)
      → has (j % width) (get_or (set t at more) (f + j / width) 0)
      ≡ (has (j % width) (get_or t (f + j / width) 0) || eqb (f * width + j) (from * width + i))
  put f j (inl e) =
      ap (λ (x : ℕ). has (j % width) (get_or (set t at more) x 0)) e
      ∙ ap (has (j % width)) (get_or-set_same t at more 0 within)
      ∙ has_or (j % width) (get_or t at 0) (1 * 2 ^ (i % width))
      ∙ ap₂ ◌||◌
      (ap (λ (x : ℕ). has (j % width) (get_or t x 0)) (sym e))
      (has_one (j % width) (i % width)
      ∙ same_test (j % width) (i % width) (f * width + j) (from * width + i) (λ q. omega arith) (λ q. omega arith))
  put f j (inr e) =
      ap (has (j % width)) (get_or-set_other t at (f + j / width) more 0 (eqb-false (f + j / width) at e))
      ∙ sym (ap (λ (x : Bool). has (j % width) (get_or t (f + j / width) 0) || x)
      (ne_eqb (f * width + j) (from * width + i) (λ q. eqb-false (f + j / width) at e (omega arith)))
      ∙ or-false (has (j % width) (get_or t (f + j / width) 0)))

  pub inserted : Inserted from i t (set t at more)
  inserted = record {
    long = length-set t at more;
    members = λ f j.
        member_has (set t at more) f j
        ∙ put f j (⊎_elim (λ e. inl (eqb-true (f + j / width) at e)) inr (bool_cases (eqb (f + j / width) at)))
        ∙ ap (λ (x : Bool). x || eqb (f * width + j) (from * width + i)) (sym (member_has t f j));
  }

-- the bit that the code shifts is the number's power
pub shifted_bit : (k : ℕ) → k < 64 → (1 * 2 ^ k) % 2 ^ 64 ≡ 1 * 2 ^ k
shifted_bit k h = mod-eq_of_lt (subst (λ (x : ℕ). x < 2 ^ 64) (sym (one-mul (2 ^ k))) (pow-lt h))

-- ---- words written one after the other
unfoldable pub written : List ℕ → ℕ → (ℕ → ℕ) → ℕ → List ℕ
written t to f zero = t
written t to f (suc j) = set (written t to f j) (to + j) (f j)

module _ (t : List ℕ) (to : ℕ) (f : ℕ → ℕ) where
  pub written_none : written t to f 0 ≡ t
  unfolding written
  written_none = refl

  pub written_next : (l : List ℕ) (j j' x v : ℕ) → l ≡ written t to f j → x ≡ to + j → v ≡ f j → j' ≡ suc j
      → set l x v ≡ written t to f j'
  unfolding written
  written_next l j j' x v el ex ev ej =
      (λ z. set (el z) (ex z) (ev z)) ∙ ap (written t to f) (sym ej)

  pub written_long : (j : ℕ) → length (written t to f j) ≡ length t
  unfolding written
  written_long zero = refl
  written_long (suc j) = length-set (written t to f j) (to + j) (f j) ∙ written_long j

  pub written_below : (j x : ℕ) → x < to → get_or (written t to f j) x 0 ≡ get_or t x 0
  unfolding written
  written_below zero x h = refl
  written_below (suc j) x h =
      get_or-set_other (written t to f j) (to + j) x (f j) 0 (λ q. omega arith) ∙ written_below j x h

  pub written_above : (j x : ℕ) → to + j ≤ x → get_or (written t to f j) x 0 ≡ get_or t x 0
  unfolding written
  written_above zero x h = refl
  written_above (suc j) x h =
      get_or-set_other (written t to f j) (to + j) x (f j) 0 (λ q. omega arith) ∙ written_above j x (omega arith)

  pub written_at : (j k : ℕ) → k < j → to + j ≤ length t → get_or (written t to f j) (to + k) 0 ≡ f k
  unfolding written
  written_at zero k h w = absurd (not-suc-le-zero h)
  written_at (suc j) k h w =
      ⊎_elim
      (λ e.
      ap (λ (x : ℕ). get_or (set (written t to f j) (to + j) (f j)) (to + x) 0) e
      ∙ get_or-set_same (written t to f j) (to + j) (f j) 0 (omega (arith, written_long j))
      ∙ ap f (sym e))
      (λ p.
      get_or-set_other (written t to f j) (to + j) (to + k) (f j) 0 (λ q. omega arith)
      ∙ written_at j k p (omega arith))
      (eq-or-lt_of_le (omega arith))

  pub written_kept : (n : ℕ) → Kept to n t (written t to f n)
  written_kept n = kept_of to n t (written t to f n) (written_long n) (written_below n) (written_above n)

  -- the members of the row are those of the words written
  pub written_row : (n i : ℕ) → i < n * width → to + n ≤ length t → member (written t to f n) to i ≡ has (i % width) (f (i / width))
  written_row n i h w =
      member_has (written t to f n) to i ∙ ap (has (i % width)) (written_at n (i / width) (omega arith) w)

pub cleared : (row row' : List ℕ) → row' ≡ replicate (length row) 0 → Cleared 0 (length row) row row'
cleared row row' e = record {
  empty = λ i h.
      member_has row' 0 i
      ∙ ap (λ (xs : List ℕ). has (i % width) (get_or xs (0 + i / width) 0)) e
      ∙ ap (has (i % width)) (get_or-replicate (length row) (0 + i / width) 0 0 (omega arith))
      ∙ has_none (i % width);
  kept = kept_of 0 (length row) row row'
      (ap length e ∙ length-replicate {A = ℕ} (length row) 0)
      (λ x h. absurd (omega arith))
      (λ x h. get_or_past row' x 0 (omega (arith, ap length e, length-replicate {A = ℕ} (length row) 0)) ∙ sym (get_or_past row x 0 (omega arith)));
}
