-- Two rows compared word by word: whether a number is in one and not in the other, and which is the least. Assumes nothing.
use mathlib.Core.Path.{◌≡◌, sym, ap, ap₂, ◌∙◌, subst, fun_ext}
use mathlib.Core.Logic.{⊎_elim}
use mathlib.Core.Bool.{Bool, false, not}
use mathlib.Core.List.{List}
use Prim.Native.Nat.{ℕ, ◌+◌, ◌*◌, ◌/◌, ◌%◌, ◌^◌, ◌<◌}
use native.Mathlib.Nat.{zero-add}
use native.Mathlib.Omega.{arith}
use lib.Arith.{digits_mod, digits_div}
use lib.Pow.{pow_pos}
use lib.Dec.{eqb}
use lib.ListN.{get_or}
use lib.Bits.{bit_and, bit_or, and_lt, xor_lt}
use lib.Count.{count_trailing_zeros}
use Rattle.bitset.specs.Rows.{width, outside, some_below, least_below}
use Rattle.bitset.specs.Words.{rest, rest_at}
use Rattle.bitset.proofs.Digits.{has, has_none, same_members, trailing_least}
use Rattle.bitset.proofs.Below.{Least, least, least_is, lt_or_ge}
use Rattle.bitset.proofs.Gathered.{gathered, some_word}
use Rattle.bitset.proofs.Members.{outside_has}

pub rest_lt : (a b : ℕ) → a < 2 ^ 64 → b < 2 ^ 64 → rest a b < 2 ^ 64
rest_lt a b ha hb = xor_lt 64 a (bit_and a b) ha (and_lt 64 a b ha hb)

module _ (a b : List ℕ) where
  -- word k of the numbers that are in the one and not in the other
  abbrev pub rests : ℕ → ℕ
  rests k = rest_at a k b k

  row_outside : (i : ℕ) → outside a 0 b 0 i ≡ has (i % width) (rests (i / width))
  row_outside i = outside_has a 0 b 0 i ∙ ap (λ (k : ℕ). has (i % width) (rests k)) (zero-add (i / width))

  module _ (fa : (k : ℕ) → get_or a k 0 < 2 ^ 64) (fb : (k : ℕ) → get_or b k 0 < 2 ^ 64) where
    rests_lt : (k : ℕ) → rests k < 2 ^ 64
    rests_lt k = rest_lt (get_or a k 0) (get_or b k 0) (fa k) (fb k)

    pub gathers_all : (n w : ℕ) → w ≡ gathered bit_or 0 rests n → not (eqb w 0) ≡ some_below (outside a 0 b 0) (n * width)
    gathers_all n w g =
        ap (λ (x : ℕ). not (eqb x 0)) g
        ∙ some_word rests rests_lt n
        ∙ ap (λ (f : ℕ → Bool). some_below f (n * width)) (fun_ext (λ i. sym (row_outside i)))

    -- ---- the least: no number of the first j words is outside
    abbrev pub Passed : ℕ → Type 0
    Passed j = (i : ℕ) → i < j * width → outside a 0 b 0 i ≡ false

    outside_in : (j i : ℕ) → i / width ≡ j → outside a 0 b 0 i ≡ has (i % width) (rests j)
    outside_in j i e = row_outside i ∙ ap (λ (k : ℕ). has (i % width) (rests k)) e

    pub passed_more : (j w : ℕ) → Passed j → w ≡ rests j → w ≡ 0 → Passed (j + 1)
    passed_more j w p e z i h =
        ⊎_elim
        (p i)
        (λ q. outside_in j i (omega arith) ∙ ap (has (i % width)) (sym e ∙ z) ∙ has_none (i % width))
        (lt_or_ge i (j * width))

    pub passed_all : (n : ℕ) → Passed n → n * width ≡ least_below (outside a 0 b 0) (n * width)
    passed_all n p = sym (least_is (outside a 0 b 0) (n * width) (n * width) (omega arith) p (λ h. absurd (omega arith)))

    module _ (j w : ℕ) (p : Passed j) (e : w ≡ rests j) (some : w ≡ 0 → ⊥) where
      abbrev low : ℕ
      low = least_below (λ i. has i w) 64

      low_is : Least (λ i. has i w) 64 low
      low_is = least (λ i. has i w) 64

      low_lt : low < 64
      low_lt =
          ⊎_elim
          (λ h. h)
          (λ h. absurd (some (same_members 64 w 0 (subst (λ (x : ℕ). x < 2 ^ 64) (sym e) (rests_lt j)) (pow_pos 64)
          (λ i q. low_is.before i (omega arith) ∙ sym (has_none i)))))
          (lt_or_ge low 64)

      found : (i : ℕ) → i < j * width + low → outside a 0 b 0 i ≡ false
      found i h =
          ⊎_elim
          (p i)
          (λ q. outside_in j i (omega (arith, low_lt)) ∙ ap (has (i % width)) (sym e) ∙ low_is.before (i % width) (omega (arith, low_lt)))
          (lt_or_ge i (j * width))

      pub first_is : (n : ℕ) → j < n → j * width + count_trailing_zeros 64 w ≡ least_below (outside a 0 b 0) (n * width)
      first_is n h =
          ap (λ (x : ℕ). j * width + x) (trailing_least 64 w)
          ∙ sym (least_is (outside a 0 b 0) (n * width) (j * width + low) (omega (arith, low_lt)) found (λ q.
          outside_in j (j * width + low) (digits_div j low_lt)
          ∙ ap₂ has (digits_mod j low_lt) (sym e)
          ∙ low_is.at low_lt))
