-- Words as sets: i is a member of w where the digit i of w is 1. Assumes nothing.
use mathlib.Core.Path.{◌≡◌, refl, sym, ap, ap₂, ◌∙◌, subst}
use mathlib.Core.Bool.{Bool, true, false, not, cond, ◌&&◌, ◌||◌, true≢false, false≢true}
use Prim.Native.Nat.{ℕ, zero, suc, ◌+◌, ◌-◌, ◌*◌, ◌/◌, ◌%◌, ◌^◌, ◌≤◌, ◌<◌, suc-le-suc, min, max}
use native.Mathlib.Nat.{le_of_suc-le-suc, max-le, min-le_left, lt_of_le_of_lt, mod-lt, div-add-mod', zero-lt-suc, le-max_left}
use native.Mathlib.Nat.{le-max_right, le_trans, le-suc, le_of_eq, le_refl, suc-max-suc, div-lt_iff_lt-mul, pow-suc, not-suc-le-zero}
use native.Mathlib.Omega.{arith}
use lib.Arith.{digits_mod, digits_div, lt-one, dbl_pred, bin_ind}
use lib.Pow.{pow_pos}
use lib.Dec.{eqb, eqb-zero-suc, eqb-suc-zero, eqb-suc-suc}
use lib.Bits.{bit_and, bit_or, bit_xor, differ, and_step, or_step, xor_step, shifted_half, shifted_even}
use lib.Count.{count_trailing_zeros, under}
use Rattle.bitset.specs.Rows.{digit, least_below}
use Rattle.bitset.specs.Words.{rest}

two_pos : zero < 2
two_pos = zero-lt-suc 1

max_two : (x y : ℕ) → x < 2 → y < 2 → max x y < 2
max_two x y p q = suc-le-suc (max-le (le_of_suc-le-suc p) (le_of_suc-le-suc q))

or_two : (a b : ℕ) → max (a % 2) (b % 2) < 2
or_two a b = max_two (a % 2) (b % 2) (mod-lt a two_pos) (mod-lt b two_pos)

and_two : (a b : ℕ) → min (a % 2) (b % 2) < 2
and_two a b = lt_of_le_of_lt (min-le_left (a % 2) (b % 2)) (mod-lt a two_pos)

differ_le : (x y : ℕ) → differ x y ≤ max x y
differ_le zero y = le-max_right zero y
differ_le (suc x) zero = le-max_left (suc x) zero
differ_le (suc x) (suc y) = le_trans (differ_le x y) (le_trans (le-suc (max x y)) (le_of_eq (sym (suc-max-suc x y))))

xor_two : (a b : ℕ) → differ (a % 2) (b % 2) < 2
xor_two a b = lt_of_le_of_lt (differ_le (a % 2) (b % 2)) (or_two a b)

-- ---- an operation by digits, of which it is known what it does to the lowest
module _ (op f : ℕ → ℕ → ℕ)
    (step : (a b : ℕ) → op a b ≡ op (a / 2) (b / 2) * 2 + f (a % 2) (b % 2))
    (two : (a b : ℕ) → f (a % 2) (b % 2) < 2) where
  op_half : (a b : ℕ) → op a b / 2 ≡ op (a / 2) (b / 2)
  op_half a b = ap (λ (x : ℕ). x / 2) (step a b) ∙ digits_div (op (a / 2) (b / 2)) (two a b)

  op_odd : (a b : ℕ) → op a b % 2 ≡ f (a % 2) (b % 2)
  op_odd a b = ap (λ (x : ℕ). x % 2) (step a b) ∙ digits_mod (op (a / 2) (b / 2)) (two a b)

  digit_op : (i a b : ℕ) → digit i (op a b) ≡ f (digit i a) (digit i b)
  unfolding digit
  digit_op zero a b = op_odd a b
  digit_op (suc i) a b = ap (digit i) (op_half a b) ∙ digit_op i (a / 2) (b / 2)

  op_assoc : ((x y z : ℕ) → f (f x y) z ≡ f x (f y z)) → ((b c : ℕ) → op (op 0 b) c ≡ op 0 (op b c))
      → (a b c : ℕ) → op (op a b) c ≡ op a (op b c)
  op_assoc same none =
      bin_ind (λ (n : ℕ). (b c : ℕ) → op (op n b) c ≡ op n (op b c)) none
      (λ n ih b c. step (op n b) c
      ∙ ap₂ (λ (x y : ℕ). x * 2 + y)
      (ap (λ (x : ℕ). op x (c / 2)) (op_half n b) ∙ ih (b / 2) (c / 2) ∙ ap (op (n / 2)) (sym (op_half b c)))
      (ap (λ (x : ℕ). f x (c % 2)) (op_odd n b) ∙ same (n % 2) (b % 2) (c % 2) ∙ ap (f (n % 2)) (sym (op_odd b c)))
      ∙ sym (step n (op b c)))

pub digit_or : (i a b : ℕ) → digit i (bit_or a b) ≡ max (digit i a) (digit i b)
digit_or = digit_op bit_or max or_step or_two

pub digit_and : (i a b : ℕ) → digit i (bit_and a b) ≡ min (digit i a) (digit i b)
digit_and = digit_op bit_and min and_step and_two

pub digit_xor : (i a b : ℕ) → digit i (bit_xor a b) ≡ differ (digit i a) (digit i b)
digit_xor = digit_op bit_xor differ xor_step xor_two

pub or_assoc : (a b c : ℕ) → bit_or (bit_or a b) c ≡ bit_or a (bit_or b c)
or_assoc = op_assoc bit_or max or_step or_two (λ x y z. omega arith) (λ b c. refl)

pub and_assoc : (a b c : ℕ) → bit_and (bit_and a b) c ≡ bit_and a (bit_and b c)
and_assoc = op_assoc bit_and min and_step and_two (λ x y z. omega arith) (λ b c. refl)

half_lt : (a k : ℕ) → a < 2 ^ suc k → a / 2 < 2 ^ k
half_lt a k h = (div-lt_iff_lt-mul two_pos).1 (subst (λ (x : ℕ). a < x) (pow-suc 2 k) h)

-- two words with the same members are one
pub same_word : (k a b : ℕ) → a < 2 ^ k → b < 2 ^ k → ((i : ℕ) → i < k → digit i a ≡ digit i b) → a ≡ b
unfolding digit
same_word zero a b ha hb h = lt-one ha ∙ sym (lt-one hb)
same_word (suc k) a b ha hb h =
    sym (div-add-mod' a 2)
    ∙ ap₂ (λ (x y : ℕ). x * 2 + y)
    (same_word k (a / 2) (b / 2) (half_lt a k ha) (half_lt b k hb) (λ i p. h (suc i) (suc-le-suc p)))
    (h zero (zero-lt-suc k))
    ∙ div-add-mod' b 2

digit_lt : (i w : ℕ) → digit i w < 2
unfolding digit
digit_lt zero w = mod-lt w two_pos
digit_lt (suc i) w = digit_lt i (w / 2)

-- ---- membership in a word
unfoldable pub has : ℕ → ℕ → Bool
has i w = eqb (digit i w) 1

-- a digit is 0 or 1: a law of two digits is shown of these
by_digits : (P : ℕ → ℕ → Type 0) → P 0 0 → P 0 1 → P 1 0 → P 1 1 → (x y : ℕ) → x < 2 → y < 2 → P x y
by_digits P a b c d zero zero p q = a
by_digits P a b c d zero (suc zero) p q = b
by_digits P a b c d (suc zero) zero p q = c
by_digits P a b c d (suc zero) (suc zero) p q = d
by_digits P a b c d (suc (suc x)) y p q = absurd (not-suc-le-zero (le_of_suc-le-suc (le_of_suc-le-suc p)))
by_digits P a b c d zero (suc (suc y)) p q = absurd (not-suc-le-zero (le_of_suc-le-suc (le_of_suc-le-suc q)))
by_digits P a b c d (suc zero) (suc (suc y)) p q = absurd (not-suc-le-zero (le_of_suc-le-suc (le_of_suc-le-suc q)))

at_digit : (i a b : ℕ) (P : ℕ → ℕ → Type 0) → P 0 0 → P 0 1 → P 1 0 → P 1 1 → P (digit i a) (digit i b)
at_digit i a b P none second first both = by_digits P none second first both (digit i a) (digit i b) (digit_lt i a) (digit_lt i b)

pub has_or : (i a b : ℕ) → has i (bit_or a b) ≡ (has i a || has i b)
unfolding has
has_or i a b =
    ap (λ (x : ℕ). eqb x 1) (digit_or i a b)
    ∙ at_digit i a b (λ x y. eqb (max x y) 1 ≡ (eqb x 1 || eqb y 1)) refl refl refl refl

pub has_and : (i a b : ℕ) → has i (bit_and a b) ≡ (has i a && has i b)
unfolding has
has_and i a b =
    ap (λ (x : ℕ). eqb x 1) (digit_and i a b)
    ∙ at_digit i a b (λ x y. eqb (min x y) 1 ≡ (eqb x 1 && eqb y 1)) refl refl refl refl

-- in a and not in b
pub has_rest : (i a b : ℕ) → has i (rest a b) ≡ (has i a && not (has i b))
unfolding has
has_rest i a b =
    ap (λ (x : ℕ). eqb x 1) (digit_xor i a (bit_and a b) ∙ ap (differ (digit i a)) (digit_and i a b))
    ∙ at_digit i a b (λ x y. eqb (differ x (min x y)) 1 ≡ (eqb x 1 && not (eqb y 1))) refl refl refl refl

-- in the union with b and not in a
pub has_new : (i a b : ℕ) → has i (bit_xor a (bit_or a b)) ≡ (has i (bit_or a b) && not (has i a))
unfolding has
has_new i a b =
    ap (λ (x : ℕ). eqb x 1) (digit_xor i a (bit_or a b) ∙ ap (differ (digit i a)) (digit_or i a b))
    ∙ at_digit i a b (λ x y. eqb (differ x (max x y)) 1 ≡ (eqb (max x y) 1 && not (eqb x 1))) refl refl refl refl
    ∙ ap (λ (x : ℕ). eqb x 1 && not (eqb (digit i a) 1)) (sym (digit_or i a b))

-- ---- the empty word, the full one, and one with a single member
digit_zero : (i : ℕ) → digit i 0 ≡ 0
unfolding digit
digit_zero zero = refl
digit_zero (suc i) = digit_zero i

pub has_none : (i : ℕ) → has i 0 ≡ false
unfolding has
has_none i = ap (λ (x : ℕ). eqb x 1) (digit_zero i)

ones_half : (k : ℕ) → (2 ^ suc k - 1) / 2 ≡ 2 ^ k - 1
ones_half k = ap (λ (x : ℕ). (x - 1) / 2) (pow-suc 2 k) ∙ ap (λ (x : ℕ). x / 2) (dbl_pred (pow_pos k)) ∙ digits_div (2 ^ k - 1) (le_refl 2)

ones_odd : (k : ℕ) → (2 ^ suc k - 1) % 2 ≡ 1
ones_odd k = ap (λ (x : ℕ). (x - 1) % 2) (pow-suc 2 k) ∙ ap (λ (x : ℕ). x % 2) (dbl_pred (pow_pos k)) ∙ digits_mod (2 ^ k - 1) (le_refl 2)

digit_ones : (k i : ℕ) → i < k → digit i (2 ^ k - 1) ≡ 1
unfolding digit
digit_ones zero i h = absurd (not-suc-le-zero h)
digit_ones (suc k) zero h = ones_odd k
digit_ones (suc k) (suc i) h = ap (digit i) (ones_half k) ∙ digit_ones k i (le_of_suc-le-suc h)

pub has_ones : (k i : ℕ) → i < k → has i (2 ^ k - 1) ≡ true
unfolding has
has_ones k i h = ap (λ (x : ℕ). eqb x 1) (digit_ones k i h)

digit_one : (i k : ℕ) → digit i (1 * 2 ^ k) ≡ cond (eqb i k) 1 0
unfolding digit
digit_one zero zero = refl
digit_one (suc i) zero = digit_zero i ∙ ap (λ (t : Bool). cond t 1 0) (sym (eqb-suc-zero i))
digit_one zero (suc k) = shifted_even 1 k ∙ ap (λ (t : Bool). cond t 1 0) (sym (eqb-zero-suc k))
digit_one (suc i) (suc k) =
    ap (digit i) (shifted_half 1 k) ∙ digit_one i k ∙ ap (λ (t : Bool). cond t 1 0) (sym (eqb-suc-suc i k))

pub has_one : (i k : ℕ) → has i (1 * 2 ^ k) ≡ eqb i k
unfolding has
has_one i k = ap (λ (x : ℕ). eqb x 1) (digit_one i k) ∙ flag (eqb i k)
  where
    flag : (t : Bool) → eqb (cond t 1 0) 1 ≡ t
    flag true = refl
    flag false = refl

-- ---- a word by its members
same_digit : (i a b : ℕ) → has i a ≡ has i b → digit i a ≡ digit i b
unfolding has
same_digit i a b =
    at_digit i a b (λ x y. eqb x 1 ≡ eqb y 1 → x ≡ y) (λ e. refl) (λ e. absurd (false≢true e)) (λ e. absurd (true≢false e)) (λ e. refl)

pub same_members : (k a b : ℕ) → a < 2 ^ k → b < 2 ^ k → ((i : ℕ) → i < k → has i a ≡ has i b) → a ≡ b
same_members k a b ha hb h = same_word k a b ha hb (λ i p. same_digit i a b (h i p))

-- the zeros below a word's lowest digit count up to its least member
pub trailing_least : (k w : ℕ) → count_trailing_zeros k w ≡ least_below (λ i. has i w) k
unfolding count_trailing_zeros least_below has digit
trailing_least zero w = refl
trailing_least (suc k) w =
    at_digit 0 w 0 (λ x y. under x (count_trailing_zeros k (w / 2)) ≡ cond (eqb x 1) zero (suc (count_trailing_zeros k (w / 2)))) refl refl refl refl
    ∙ ap (λ (t : ℕ). cond (eqb (w % 2) 1) zero (suc t)) (trailing_least k (w / 2))
