-- Every answer that is no card is short, whatever numbers of 64 bits stand in it; and what stands at the start of the lent table.
use Prim.Native.Nat.{ℕ, zero, suc, ◌+◌, ◌*◌, ◌≤◌, ◌<◌, ◌^◌}
use native.Mathlib.Omega.{arith}
use native.Mathlib.Nat.{suc-mul}
use mathlib.Core.Path.{◌≡◌, refl, ap, subst, ◌∙◌}
use lib.ListN.{length, take, length-take}
use Rattle.qbf.specs.Formula.{highest, most_free}
use Rattle.layout.specs.Words.{Bytes}
use Rattle.layout.specs.Output.{decimal, refusal_text, overflow_text, query_text}
use Rattle.layout.specs.Program.{table_bytes}
use Rattle.booktext.specs.Books.{text_room}
use Rattle.layout_laws.proofs.Decimal.{decimal_length}
use Rattle.writer.specs.Wrote.{Wrote}
use Rattle.writer.proofs.Lengths.{refusal_length, overflow_length, query_length}
use Rattle.book_writer.specs.declared.Written.{Written}
use Rattle.book_writer.proofs.Rooms.{highest_longest}
use Rattle.answer_text.specs.Room.{answer_bytes}
use Rattle.answer_text.specs.Books.{Prints}

-- a number of 64 bits has at most 20 digits
pub digits_20 : (n : ℕ) → n < 2 ^ 64 → length (decimal n) ≤ 20
digits_20 n h = decimal_length 19 n (omega (arith, h))

pub refusal_room : (n line : ℕ) → n < 2 ^ 64 → line < 2 ^ 64 → length (refusal_text n line) ≤ 52
refusal_room n line h k = omega (arith, refusal_length n line, digits_20 n h, digits_20 line k)

pub overflow_room : (n line visits : ℕ) → n < 2 ^ 64 → line < 2 ^ 64 → visits < 2 ^ 64 → length (overflow_text n line visits) ≤ 82
overflow_room n line visits h k v = omega (arith, overflow_length n line visits, digits_20 n h, digits_20 line k, digits_20 visits v)

pub query_room : (w : Bytes) (visits : ℕ) → length w ≤ 9 → visits < 2 ^ 64 → length (query_text w visits) ≤ 42
query_room w visits h v = omega (arith, h, query_length w visits, digits_20 visits v)

-- the same text by another name
pub wrote_as : {d₀ d t u : Bytes} {at r : ℕ} → t ≡ u → Wrote d₀ at t d r → Wrote d₀ at u d r
wrote_as {d₀} {d} {t} {u} {at} {r} e w = subst (λ (v : Bytes). Wrote d₀ at v d r) e w

-- ---- the answer that was written from the start of the table on
pub within : {d₀ d t : Bytes} {r : ℕ} → Wrote d₀ 0 t d r → r ≤ length d
within {d₀} {d} {t} {r} w = omega (arith, w.next, ap length w.is, length-take r d)

pub prints : (t d₀ : Bytes) {d : Bytes} {n : ℕ} {r : Written} → answer_bytes ≤ length d₀ → Wrote d₀ 0 t d n → (r.refusal ≡ 0) × (r.length ≡ n) → Prints t d₀ r d
prints t d₀ {d} {n} {r} h w (z, e) =
    record { short = λ q. absurd (omega (arith, h, q)); printed = λ q. (z, omega (arith, within w, e), ap (λ (k : ℕ). take k d) e ∙ w.is) }

-- ---- the longest answers, under the highest limits
-- a card: f free variables, n lines, numbers of four digits
product : (n f : ℕ) → n * (f * 10 + 7) ≡ 10 * (n * f) + 7 * n
product zero f = omega arith
product (suc n) f = omega (arith, product n f, suc-mul n f, suc-mul n (f * 10 + 7))

at_least : (n f : ℕ) → n ≤ n * suc f
at_least zero f = omega arith
at_least (suc n) f = omega (arith, at_least n f, suc-mul n (suc f))

pub longest_card : (n f size : ℕ) → n * f ≤ size → size ≤ table_bytes → (f ≡ 0 → n ≤ 1) → n * (f * 10 + 7) + 50 ≤ answer_bytes
longest_card n zero size room small one = omega (arith, product n zero, room, small, one refl)
longest_card n (suc f) size room small one = omega (arith, product n (suc f), room, small, at_least n f)

-- a closest reading: no more flags than there may be
pub longest_reading : (f : ℕ) → f ≤ most_free → f * 10 + 110 ≤ answer_bytes
longest_reading f h = omega (arith, h)

-- the text of a book
pub longest_book : text_room highest ≤ answer_bytes
longest_book = omega (arith, highest_longest)
