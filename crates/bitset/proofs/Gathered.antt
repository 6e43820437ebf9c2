-- Words gathered by one operation in one word. Assumes nothing.
use mathlib.Core.Path.{◌≡◌, refl, sym, ap, ap₂, ◌∙◌}
use mathlib.Core.Logic.{⊎_elim}
use mathlib.Core.Bool.{Bool, not, ◌&&◌, ◌||◌, true≢false, false≢true}
use Prim.Native.Nat.{ℕ, zero, suc, ◌+◌, ◌-◌, ◌*◌, ◌/◌, ◌%◌, ◌^◌, ◌<◌}
use native.Mathlib.Nat.{mod-lt, zero-lt-suc}
use native.Mathlib.Numerals.{add-one}
use native.Mathlib.Omega.{arith}
use lib.Arith.{digits_mod, digits_div, digits_lt}
use lib.Pow.{pow_pos, ones_lt}
use lib.Dec.{eqb}
use lib.Bits.{bit_and, bit_or, or_lt, and_lt}
use borrow.Author.Tests.{eq-eqb, ne_eqb}
use Rattle.bitset.specs.Rows.{width, all_below, some_below}
use Rattle.bitset.proofs.Digits.{has, has_or, has_and, has_none, has_ones, same_members}
use Rattle.bitset.proofs.Below.{bool_cases, some_at, some_found, some_none, some_never, all_each, all_at}

unfoldable pub gathered : (ℕ → ℕ → ℕ) → ℕ → (ℕ → ℕ) → ℕ → ℕ
gathered op z f zero = z
gathered op z f (suc n) = op (gathered op z f n) (f n)

pub gathered_none : (op : ℕ → ℕ → ℕ) (z : ℕ) (f : ℕ → ℕ) → z ≡ gathered op z f 0
unfolding gathered
gathered_none op z f = refl

pub gathered_more : (op : ℕ → ℕ → ℕ) (z : ℕ) (f : ℕ → ℕ) (n w x : ℕ) → w ≡ gathered op z f n → x ≡ f n → op w x ≡ gathered op z f (n + 1)
unfolding gathered
gathered_more op z f n w x ew ex = ap₂ op ew ex ∙ ap (gathered op z f) (sym (add-one n))

-- ---- the words of a row: what is gathered says whether some number, or every, is in the row
abbrev pub full : ℕ
full = 2 ^ 64 - 1

module _ (f : ℕ → ℕ) (fits : (k : ℕ) → f k < 2 ^ 64) where
  -- number i is in the row of the words f 0, f 1, ..
  abbrev pub in_row : ℕ → Bool
  in_row i = has (i % width) (f (i / width))

  has_gathered_or : (d n : ℕ) → has d (gathered bit_or 0 f n) ≡ some_below (λ k. has d (f k)) n
  unfolding gathered some_below
  has_gathered_or d zero = has_none d
  has_gathered_or d (suc n) = has_or d (gathered bit_or 0 f n) (f n) ∙ ap (λ (t : Bool). t || has d (f n)) (has_gathered_or d n)

  has_gathered_and : (d n : ℕ) → d < 64 → has d (gathered bit_and full f n) ≡ all_below (λ k. has d (f k)) n
  unfolding gathered all_below
  has_gathered_and d zero h = has_ones 64 d h
  has_gathered_and d (suc n) h = has_and d (gathered bit_and full f n) (f n) ∙ ap (λ (t : Bool). t && has d (f n)) (has_gathered_and d n h)

  gathered_or_lt : (n : ℕ) → gathered bit_or 0 f n < 2 ^ 64
  unfolding gathered
  gathered_or_lt zero = pow_pos 64
  gathered_or_lt (suc n) = or_lt 64 (gathered bit_or 0 f n) (f n) (gathered_or_lt n) (fits n)

  gathered_and_lt : (n : ℕ) → gathered bit_and full f n < 2 ^ 64
  unfolding gathered
  gathered_and_lt zero = ones_lt 64
  gathered_and_lt (suc n) = and_lt 64 (gathered bit_and full f n) (f n) (gathered_and_lt n) (fits n)

  in_word : (k d : ℕ) → d < 64 → in_row (k * width + d) ≡ has d (f k)
  in_word k d h = ap₂ has (digits_mod k h) (ap f (digits_div k h))

  in_row_lem : (n k d : ℕ) → k < n → d < 64 → k * width + d < n * width
  in_row_lem n k d h p = digits_lt h p

  word_below : (n i : ℕ) → i < n * width → i / width < n
  word_below n i h = omega arith

  digit_below : (i : ℕ) → i % width < 64
  digit_below i = mod-lt i (zero-lt-suc 63)

  -- some number is in the row just where a word is not 0
  pub some_word : (n : ℕ) → not (eqb (gathered bit_or 0 f n) 0) ≡ some_below in_row (n * width)
  some_word n =
      ⊎_elim
      (λ e.
      let i = some_found in_row (n * width) e in
      ap not (ne_eqb (gathered bit_or 0 f n) 0 (λ z. false≢true (
      sym (has_none (i.0 % width)) ∙ ap (has (i.0 % width)) (sym z) ∙ has_gathered_or (i.0 % width) n
      ∙ some_at (λ k. has (i.0 % width) (f k)) n (i.0 / width) (word_below n i.0 i.1) i.2)))
      ∙ sym e)
      (λ e.
      ap not (eq-eqb (gathered bit_or 0 f n) 0 (same_members 64 (gathered bit_or 0 f n) 0 (gathered_or_lt n) (pow_pos 64) (λ d h.
      has_gathered_or d n
      ∙ some_none (λ k. has d (f k)) n (λ k p. sym (in_word k d h) ∙ some_never in_row (n * width) e (k * width + d) (in_row_lem n k d p h))
      ∙ sym (has_none d))))
      ∙ sym e)
      (bool_cases (some_below in_row (n * width)))

  -- every number is in the row just where all words have every digit
  pub all_words : (n : ℕ) → eqb (gathered bit_and full f n) full ≡ all_below in_row (n * width)
  all_words n =
      ⊎_elim
      (λ e.
      eq-eqb (gathered bit_and full f n) full (same_members 64 (gathered bit_and full f n) full (gathered_and_lt n) (ones_lt 64) (λ d h.
      has_gathered_and d n h
      ∙ all_each (λ k. has d (f k)) n (λ k p. sym (in_word k d h) ∙ all_at in_row (n * width) e (k * width + d) (in_row_lem n k d p h))
      ∙ sym (has_ones 64 d h)))
      ∙ sym e)
      (λ e.
      ne_eqb (gathered bit_and full f n) full (λ z. true≢false (
      sym (all_each in_row (n * width) (λ i p.
      all_at (λ k. has (i % width) (f k)) n
      (sym (has_gathered_and (i % width) n (digit_below i)) ∙ ap (has (i % width)) z ∙ has_ones 64 (i % width) (digit_below i))
      (i / width) (word_below n i p)))
      ∙ e))
      ∙ sym e)
      (bool_cases (all_below in_row (n * width)))
