-- The book's text as the answer of a line.
use Prim.Native.Nat.{ℕ, zero, suc, ◌-◌, ◌≤◌, ◌<◌, min}
use native.Mathlib.Omega.{arith}
use native.Mathlib.Decide.{dec_lt}
use mathlib.Core.Path.{◌≡◌, refl, sym, ap, subst, ◌∙◌}
use mathlib.Core.Bool.{Bool, true, false}
use mathlib.Core.List.{List, ◌++◌}
use mathlib.Core.Option.{Option, none, some}
use lib.IntN.{ℤ}
use lib.ListN.{get_or, take, replicate, length, length-append}
use lib.Seq.{take_at, take-append-le}
use Rattle.qbf.specs.Formula.{highest, capped}
use Rattle.qbf.specs.Calls.{State as Read, well_formed}
use Rattle.theory.proofs.AcceptedRule.{some_none}
use Rattle.theory.proofs.WellFormed.{state_facts, numbers_capped, clauses_capped}
use Rattle.layout.specs.Words.{Bytes}
use Rattle.layout.specs.Output.{refusal_text}
use Rattle.booktext.specs.Books.{Written, written, write_refused, written_to, write_call, book_text, text_room}
use Rattle.booktext_laws.proofs.Room.{text_room_lem}
use Rattle.sessions.specs.Session.{written_answer}
use Rattle.state.specs.Reading.{state_under, well_formed_read}
use Rattle.state_parts.specs.Parts.{limits_of, state_at, read_at, valid_at}
use Rattle.state_parts.proofs.Accepted.{valid_read, valid_state}
use Rattle.serving.specs.Serves.{number}
use Rattle.writer.specs.Wrote.{Wrote}
use Rattle.book_writer.specs.Writes.{Answer, answered, told, written_of, WritesAt}
use Rattle.book_writer.proofs.Answers.{fits, malformed_is, formed_is}
use Rattle.book_writer.proofs.Books.{formula_ok, count_within}
use Rattle.book_writer.proofs.Rooms.{room_most, own_room}
use Rattle.answer_text.proofs.Room.{within}
use Rattle.text_answers.specs.Text.{write_answer, TextAnswered}

-- ---- what was answered
module _ (n : ℕ) where
  refused_is : (w : Written) (refusal : ℕ) {count : ℕ} {table : Bytes} → (refusal ≡ 0 → ⊥) → answered refusal count table ≡ told w → written_answer n w ≡ refusal_text refusal n
  refused_is w zero h e = absurd (h refl)
  refused_is (written k tb) (suc m) h e = absurd (some_none (ap (λ (a : Answer). a.refusal) e))
  refused_is (write_refused k tb) (suc m) h e = ap (λ (j : ℕ). refusal_text j n) (sym (ap (λ (a : Answer). number a.refusal) e))

  shown_is : (w : Written) {count : ℕ} {table : Bytes} → answered 0 count table ≡ told w → take count table ≡ written_answer n w
  shown_is (written k tb) e = ap (λ (a : Answer). take a.length a.table) e
  shown_is (write_refused k tb) e = absurd (some_none (sym (ap (λ (a : Answer). a.refusal) e)))

  -- a table of so many bytes
  sized_answer : (size : ℕ) (o : Option Read) → written_answer n (written_of size o) ≡ write_answer o n (some size)
  sized_answer size none = refl
  sized_answer size (some y) = refl

  -- a malformed state is 22 in any table
  any_table : (size room : ℕ) (o : Option Read) → well_formed_read o ≡ false → written_answer n (written_of size o) ≡ written_answer n (written_of room o)
  any_table size room o e = ap (written_answer n) (malformed_is o size e) ∙ sym (ap (written_answer n) (malformed_is o room e))

-- ---- a table that holds every text under the highest limits
-- the text, where there is room for it
shown_text : (n size : ℕ) (t : Bytes) → length t ≤ size → written_answer n (written_to size t) ≡ t
shown_text n size t h = ap (written_answer n) (fits size t h) ∙ take_at t (replicate (size - length t) 0) (length t) refl

module _ (cells : List ℕ) (literals : List ℤ) (n size : ℕ) where
  abbrev o : Option Read
  o = read_at cells literals

  -- whatever is asked for, no more than such a table is needed
  module _ (m : ℕ) (room : text_room highest ≤ m) (more : m ≤ size) where
    valid_cut : valid_at cells literals ≡ true → written_answer n (written_of m o) ≡ written_answer n (written_of size o)
    valid_cut v =
        ap (written_answer n) (formed_is o m y i f) ∙ shown_text n m t (omega (arith, short, room))
        ∙ sym (ap (written_answer n) (formed_is o size y i f) ∙ shown_text n size t (omega (arith, short, room, more)))
      where
        y : Read
        y = state_under (limits_of cells) (state_at cells literals)

        i : o ≡ some y
        i = valid_read cells literals v

        f : well_formed y ≡ true
        f = (valid_state cells literals v).facts.formed

        t : Bytes
        t = book_text y.formula

        low : (y.formula.limits.numbers ≤ highest.numbers) × (y.formula.limits.clauses ≤ highest.clauses)
        low = (numbers_capped y.formula (state_facts y f).formula_ok, clauses_capped y.formula (state_facts y f).formula_ok)

        short : length t ≤ text_room highest
        short = omega (arith, text_room_lem y.formula (formula_ok y f), room_most y.formula.limits highest low.0 low.1 refl)

    pub cut_answer : written_answer n (written_of m o) ≡ written_answer n (written_of size o)
    unfolding valid_at
    cut_answer = by (valid_at cells literals) refl
      where
        by : (q : Bool) → valid_at cells literals ≡ q → written_answer n (written_of m o) ≡ written_answer n (written_of size o)
        by true v = valid_cut v
        by false v = any_table n m size o v

  -- the part of a table of k bytes that is lent, of which as many as are asked for
  pub part_answer : {m : ℕ} (k : ℕ) → text_room highest ≤ k → m ≡ min size k → written_answer n (written_of m o) ≡ write_answer o n (some size)
  part_answer {m} k room e = by (dec_lt k size) ∙ sized_answer n size o
    where
      by : Dec (k < size) → written_answer n (written_of m o) ≡ written_answer n (written_of size o)
      by (yes q) = cut_answer m (omega (arith, e, room, q)) (omega (arith, e, q))
      by (no q) = let w : m ≡ size = omega (arith, e, q) in ap (λ (z : ℕ). written_answer n (written_of z o)) w

  module _ (refusal : ℕ) where
    pub text_refused : {count m k : ℕ} {part d₀ d : Bytes} {r : ℕ} → text_room highest ≤ k → m ≡ min size k → WritesAt cells literals m refusal count part → (refusal ≡ 0 → ⊥) → Wrote d₀ 0 (refusal_text refusal n) d r
        → TextAnswered cells literals (some size) n r d
    text_refused {count} {m} {k} room e w h v =
        record { within = within v; text = v.is ∙ sym (refused_is n (written_of m o) refusal h w.said) ∙ part_answer k room e }

    pub text_shown : {count m k : ℕ} {part : Bytes} → refusal ≡ 0 → text_room highest ≤ k → m ≡ min size k → (after : Bytes) → WritesAt cells literals m refusal count part
        → TextAnswered cells literals (some size) n count (part ++ after)
    text_shown {count} {m} {k} {part} z room e after w =
        record {
          within = omega (arith, count_within none_refused, length-append part after);
          text = take-append-le count part after (count_within none_refused) ∙ shown_is n (written_of m o) none_refused.said ∙ part_answer k room e;
        }
      where
        none_refused : WritesAt cells literals m 0 count part
        none_refused = subst (λ (k : ℕ). WritesAt cells literals m k count part) z w

-- ---- a table that holds every text under the state's own limits
module _ (cells : List ℕ) (literals : List ℤ) (n : ℕ) {size : ℕ} (e : size ≡ text_room (capped (get_or cells 0 0) (get_or cells 1 0))) where
  abbrev read : Option Read
  read = read_at cells literals

  valid_answer : valid_at cells literals ≡ true → write_answer read n (some size) ≡ write_answer read n none
  valid_answer v = ap (λ (z : Option Read). write_answer z n (some size)) i ∙ ap (λ (k : ℕ). written_answer n (write_call k y)) (e ∙ own_room cells literals v) ∙ sym (ap (λ (z : Option Read). write_answer z n none) i)
    where
      y : Read
      y = state_under (limits_of cells) (state_at cells literals)

      i : read ≡ some y
      i = valid_read cells literals v

  malformed_answer : (z : Option Read) → well_formed_read z ≡ false → write_answer z n (some size) ≡ write_answer z n none
  malformed_answer none f = refl
  malformed_answer (some y) f = any_table n size (text_room y.formula.limits) (some y) f

  whole_answer : write_answer read n (some size) ≡ write_answer read n none
  unfolding valid_at
  whole_answer = by (valid_at cells literals) refl
    where
      by : (q : Bool) → valid_at cells literals ≡ q → write_answer read n (some size) ≡ write_answer read n none
      by true v = valid_answer v
      by false v = malformed_answer read v

  pub whole_text : {r : ℕ} {d : Bytes} → TextAnswered cells literals (some size) n r d → TextAnswered cells literals none n r d
  whole_text t = record { within = t.within; text = t.text ∙ whole_answer }
