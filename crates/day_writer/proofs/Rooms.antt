-- Every line of a day is short, whatever numbers stand in it.
use Prim.Native.Nat.{ℕ, ◌+◌, ◌≤◌, ◌<◌, ◌^◌}
use native.Mathlib.Omega.{arith}
use mathlib.Core.Path.{◌≡◌}
use mathlib.Core.Bool.{Bool, true, false, cond}
use mathlib.Core.List.{List}
use lib.ListN.{length}
use Rattle.layout.specs.Output.{decimal, refusal_text}
use Rattle.layout_laws.proofs.Decimal.{decimal_length}
use Rattle.writer.proofs.Lengths.{refusal_length}
use Rattle.days.specs.Accounts.{books, overspent, allowance}
use Rattle.day_text.specs.Output.{at_text, share_text, left_at}
use Rattle.day_writer.specs.Room.{share_bytes}
use Rattle.day_writer.proofs.Lengths.{at_length, share_length}

-- a number of 64 bits has at most 20 digits
digits_20 : (n : ℕ) → n < 2 ^ 64 → length (decimal n) ≤ 20
digits_20 n h = decimal_length 19 n (omega (arith, h))

pub at_room : (k : ℕ) → k < 2 ^ 64 → length (at_text k) ≤ 26
at_room k h = omega (arith, at_length k, digits_20 k h)

pub refusal_room : (n line : ℕ) → n < 2 ^ 64 → line < 2 ^ 64 → length (refusal_text n line) ≤ 52
refusal_room n line h k = omega (arith, refusal_length n line, digits_20 n h, digits_20 line k)

-- what is left is no more than the total and its floor
left_fits : (T : ℕ) (us : List ℕ) (i : ℕ) → T < 2 ^ 32 → left_at T us i < 2 ^ 64
left_fits T us i h = by (overspent T us)
  where
    by : (t : Bool) → cond t 0 (allowance T us i) < 2 ^ 64
    by true = omega arith
    by false = omega (arith, h)

pub share_room : (T : ℕ) (us : List ℕ) (i u a : ℕ) → T < 2 ^ 32 → i < books → u < 2 ^ 64 → a ≡ left_at T us i → length (share_text (i + 1) u a) ≤ share_bytes
share_room T us i u a h k f e = omega (arith, share_length (i + 1) u a, digits_20 (i + 1) (omega (arith, k)), digits_20 u f, digits_20 a (omega (arith, e, left_fits T us i h)))

-- the total, in its words
pub total_room : (T : ℕ) → T < 2 ^ 32 → length (decimal T) ≤ 20
total_room T h = digits_20 T (omega (arith, h))
