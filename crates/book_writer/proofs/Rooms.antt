-- How long a text may be, by limits of its own, and under the highest of them.
use Prim.Native.Nat.{ℕ, ◌+◌, ◌*◌, ◌≤◌, min}
use mathlib.Core.Path.{◌≡◌, refl, ap, ap₂, ◌∙◌}
use mathlib.Core.Bool.{true}
use mathlib.Core.List.{List}
use native.Mathlib.Omega.{arith}
use native.Mathlib.Nat.{mul-le-mul_right, mul-le-mul_left}
use lib.IntN.{ℤ}
use lib.ListN.{length, get_or, take}
use Rattle.qbf.specs.Formula.{Limits, highest, capped}
use Rattle.qbf.specs.Calls.{State as Read, well_formed}
use Rattle.theory.proofs.WellFormed.{formula_facts, numbers_capped, clauses_capped}
use Rattle.state.specs.Reading.{own, formula_under, state_under}
use Rattle.state_parts.specs.Parts.{limits_of, state_at, read_at, valid_at}
use Rattle.state_parts.proofs.Accepted.{valid_read, valid_state}
use Rattle.layout.specs.Words.{Bytes}
use Rattle.layout.specs.Output.{decimal, last_digits}
use Rattle.booktext.specs.Books.{book_text, text_room}
use Rattle.booktext_laws.proofs.Room.{digits_most}
use Rattle.book_writer.specs.Writes.{WritesAt}
use Rattle.book_writer.proofs.Books.{formula_ok, room_written}

-- lower limits ask for no larger table
pub room_most : (L M : Limits) → L.numbers ≤ M.numbers → L.clauses ≤ M.clauses → L.literals ≡ M.literals → text_room L ≤ text_room M
unfolding text_room
room_most L M h k e =
    omega (
      arith,
      mul-le-mul_right (10 + l) h,
      mul-le-mul_left M.numbers wide,
      mul-le-mul_right (7 + L.literals * (6 + l)) k,
      mul-le-mul_left M.clauses rule,
    )
  where
    l : ℕ
    l = length (decimal L.numbers)

    m : ℕ
    m = length (decimal M.numbers)

    wide : 10 + l ≤ 10 + m
    wide = omega (arith, digits_most h)

    rule : 7 + L.literals * (6 + l) ≤ 7 + M.literals * (6 + m)
    rule = omega (arith, mul-le-mul_left L.literals wide_literal, ap (λ (n : ℕ). n * (6 + m)) e)
      where
        wide_literal : 6 + l ≤ 6 + m
        wide_literal = omega (arith, digits_most h)

-- under the highest limits
pub highest_longest : text_room highest ≡ 682023
unfolding text_room decimal last_digits
highest_longest = refl

pub capped_most : (n m : ℕ) → text_room (capped n m) ≤ text_room highest
capped_most n m = room_most (capped n m) highest (omega arith) (omega arith) refl

-- limits that are not above the highest stay as they are
pub capped_own : {n m : ℕ} → n ≤ highest.numbers → m ≤ highest.clauses → capped n m ≡ own n m
capped_own {n} {m} h k = ap₂ own (low n highest.numbers h) (low m highest.clauses k)
  where
    low : (a b : ℕ) → a ≤ b → min a b ≡ a
    low a b q = omega (arith, q)

-- ---- a state in two tables
module _ (cells : List ℕ) (literals : List ℤ) (v : valid_at cells literals ≡ true) where
  abbrev y : Read
  y = state_under (limits_of cells) (state_at cells literals)

  formed : well_formed y ≡ true
  formed = (valid_state cells literals v).facts.formed

  -- the table that its limits ask for
  pub own_room : text_room (capped (get_or cells 0 0) (get_or cells 1 0)) ≡ text_room (limits_of cells)
  own_room =
      let f = formula_facts y.formula (formula_ok y formed) in
      ap text_room (capped_own (numbers_capped y.formula f) (clauses_capped y.formula f))

  -- "as large as the longest text of the session's limits needs": it is never too short
  pub whole_written : {size refusal count : ℕ} {table : Bytes} → text_room (capped (get_or cells 0 0) (get_or cells 1 0)) ≤ size → WritesAt cells literals size refusal count table
      → (count ≤ length table) × (take count table ≡ book_text (formula_under (limits_of cells) (state_at cells literals)))
  whole_written h w = room_written (read_at cells literals) y (valid_read cells literals v) formed w (omega (arith, h, own_room))

-- ---- the same in code
module _ (n m : ℕ) {a b d : ℕ} (p : a ≡ min n highest.numbers) (q : b ≡ min m highest.clauses) (r : d ≡ length (decimal a)) where
  pub longest_is : 17 + a * (10 + d) + b * (7 + highest.literals * (6 + d)) + 6 ≡ text_room (capped n m)
  unfolding text_room
  longest_is = last_first (a * (10 + d)) (b * (7 + highest.literals * (6 + d))) ∙ (λ i. 23 + p i * (10 + digits i) + q i * (7 + highest.literals * (6 + digits i)))
    where
      last_first : (k l : ℕ) → 17 + k + l + 6 ≡ 23 + k + l
      last_first k l = omega arith

      digits : d ≡ length (decimal (min n highest.numbers))
      digits = r ∙ ap (λ (k : ℕ). length (decimal k)) p

  pub longest_few : 17 + a * (10 + d) + b * (7 + highest.literals * (6 + d)) + 6 ≤ text_room highest
  longest_few = omega (arith, longest_is, capped_most n m)
