-- What is printed for a text, from the contracts of opening and of writing.
use Prim.Native.Nat.{ℕ, ◌≤◌}
use native.Mathlib.Omega.{arith}
use mathlib.Core.Path.{◌≡◌, refl, sym, ap, subst, ◌∙◌}
use mathlib.Core.Bool.{true}
use mathlib.Core.List.{List}
use mathlib.Core.Option.{Option, none, some}
use lib.IntN.{ℤ}
use lib.ListN.{length, length-take, get_or}
use Rattle.std.specs.Prelude.{Ok, Err}
use Rattle.qbf.specs.Formula.{Limits, highest, Formula}
use Rattle.qbf.specs.Calls.{formula_is_ok, limits_are_ok, State as Read}
use Rattle.qbf.specs.Runs.{fresh}
use Rattle.theory.proofs.WellFormed.{formula_facts}
use Rattle.layout_laws.proofs.Opened.{fresh_formed}
use Rattle.state.specs.Reading.{formula_under, well_formed_read}
use Rattle.state_parts.proofs.Accepted.{valid_read}
use Rattle.layout.specs.Words.{Bytes}
use Rattle.layout.specs.Output.{refusal_text}
use Rattle.layout.specs.Opening.{Opened, refused, opened}
use Rattle.booktext.specs.Books.{book_text, text_room}
use Rattle.state_parts.specs.Parts.{limits_of, state_at, read_at, valid_at}
use Rattle.refusal.specs.Refusal.{number_of}
use Rattle.opening.specs.declared.text.RefusedAt.{RefusedAt}
use Rattle.opening.specs.Opened.{AnsweredAt, OpenedAt}
use Rattle.writer.specs.Wrote.{Wrote}
use Rattle.book_writer.specs.Writes.{WritesAt}
use Rattle.book_writer.proofs.Rooms.{capped_most, whole_written}
use Rattle.qdimacs_form.specs.Opening.{open_qdimacs}
use Rattle.qdimacs_printer.specs.Printing.{opened_text, qdimacs_program, Printed, BookPrinted}
use Rattle.lent_texts.proofs.Opened.{if_whole}
use Rattle.qdimacs_opening.proofs.Formed.{opened_formula}

-- ---- what was written
pub wrote_printed : {t d₀ d : Bytes} {r : ℕ} → Wrote d₀ 0 t d r → Printed t r d
wrote_printed {t} {d₀} {d} {r} w = record { within = omega (arith, w.next, ap length w.is, length-take r d); is = w.is }

-- ---- a book fits the table, whatever its limits
module _ (cells : List ℕ) (literals : List ℤ) (b : Formula) (e : read_at cells literals ≡ some (fresh b)) (ok : formula_is_ok b ≡ true) where
  is_valid : valid_at cells literals ≡ true
  unfolding valid_at
  is_valid = ap well_formed_read e ∙ fresh_formed b (formula_facts b ok)

  formula_or : Option Read → Formula
  formula_or none = b
  formula_or (some y) = y.formula

  formula_is : formula_under (limits_of cells) (state_at cells literals) ≡ b
  unfolding formula_or
  formula_is = ap formula_or (sym (valid_read cells literals is_valid) ∙ e)

  pub book_printed : {size refusal count : ℕ} {table : Bytes} → text_room highest ≤ size → WritesAt cells literals size refusal count table → Printed (book_text b) count table
  book_printed long w =
      let p = whole_written cells literals is_valid (omega (arith, capped_most (get_or cells 0 0) (get_or cells 1 0), long)) w in
      record { within = p.0; is = p.1 ∙ ap book_text formula_is }

-- ---- a text
refusal_printed : (o : Opened) (q : RefusedAt) (cells : List ℕ) (literals : List ℤ) → AnsweredAt o (Err q) cells literals → {k : ℕ} → k ≡ number_of q.refusal → {d : Bytes} {r : ℕ} → Printed (refusal_text k q.line) r d → Printed (opened_text o) r d
refusal_printed (refused n k) q cells literals h is {d} {r} p = subst (λ (t : Bytes). Printed t r d) (λ i. refusal_text ((is ∙ h.0) i) (h.1 i)) p
refusal_printed (opened b) q cells literals h is p = absurd h

module _ (L : Limits) (s : Bytes) {d : Bytes} {r : ℕ} {cells : List ℕ} {literals : List ℤ} {cells' : List ℕ} {literals' : List ℤ} where
  pub refused_printed : (q : RefusedAt) → OpenedAt L (open_qdimacs L s) cells literals (Err q) cells' literals' → {k : ℕ} → k ≡ number_of q.refusal → Printed (refusal_text k q.line) r d → BookPrinted L cells literals s r d
  unfolding qdimacs_program
  refused_printed q told is p =
      if_whole told (λ h. refusal_printed (open_qdimacs L s) q cells' literals' h is p) (λ h. refusal_printed (refused 22 0) q cells' literals' h is p)

  pub opened_printed : limits_are_ok L ≡ true → OpenedAt L (open_qdimacs L s) cells literals (Ok tt) cells' literals' → ((b : Formula) → read_at cells' literals' ≡ some (fresh b) → formula_is_ok b ≡ true → Printed (book_text b) r d) → BookPrinted L cells literals s r d
  unfolding qdimacs_program
  opened_printed fine told p = if_whole told (by (open_qdimacs L s) refl) (λ h. absurd h)
    where
      by : (o : Opened) → open_qdimacs L s ≡ o → AnsweredAt o (Ok tt) cells' literals' → Printed (opened_text o) r d
      by (refused n k) i h = absurd h
      by (opened b) i h = p b h (opened_formula L fine s b i)
