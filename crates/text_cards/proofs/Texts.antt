-- What a text's opening and its card give together: what is printed, and what is handed on for its pages.
use Prim.Native.Nat.{ℕ, ◌<◌, ◌≤◌}
use mathlib.Core.Path.{◌≡◌, refl, ◌∙◌}
use mathlib.Core.Bool.{true}
use mathlib.Core.List.{List}
use mathlib.Core.Option.{some}
use lib.IntN.{ℤ}
use native.Mathlib.Omega.{arith}
use lib.ListN.{length}
use Rattle.std.specs.Prelude.{Result, Ok, Err}
use Rattle.qbf.specs.Formula.{Limits, Formula}
use Rattle.qbf.specs.Learning.{empty_store}
use Rattle.qbf.specs.Card.{zero_table}
use Rattle.qbf.specs.Ceiling.{highest_ceiling}
use Rattle.qbf.specs.Calls.{formula_is_ok, learning_card, limits_are_ok}
use Rattle.qbf.specs.Runs.{fresh}
use Rattle.layout.specs.Words.{Bytes}
use Rattle.layout.specs.Output.{refusal_text}
use Rattle.layout.specs.Program.{table_bytes, answer_printed, opened_printed}
use Rattle.layout.specs.Opening.{Opened, refused, opened}
use Rattle.editions.specs.Opening.{both, open_editions}
use Rattle.editions.specs.Program.{card_program}
use Rattle.editions_laws.proofs.Formed.{opened_formula}
use Rattle.state_parts.specs.Parts.{read_at}
use Rattle.refusal.specs.Refusal.{number_of}
use Rattle.opening.specs.declared.text.RefusedAt.{RefusedAt}
use Rattle.opening.specs.Opened.{AnsweredAt, OpenedAt}
use Rattle.cover.specs.declared.CardLines.{CardLines}
use Rattle.writer.specs.Wrote.{Wrote}
use Rattle.book_writer.specs.declared.Written.{Written}
use Rattle.answer_text.specs.Room.{answer_bytes, TooShort}
use Rattle.answer_text.specs.Books.{Prints}
use Rattle.answer_text.proofs.Room.{wrote_as, prints}
use Rattle.lent_texts.proofs.Opened.{if_whole}
use Rattle.text_cards.specs.Printed.{WritesCard, PrintsCard}
use Rattle.text_cards.specs.Making.{CardMade, MakesCard}

-- ---- what is printed
module _ {d₀ d : Bytes} {r : ℕ} where
  -- a refused text
  refused_printed : (o : Opened) (q : RefusedAt) (cells : List ℕ) (literals : List ℤ) → AnsweredAt o (Err q) cells literals → {n : ℕ} → n ≡ number_of q.refusal → Wrote d₀ 0 (refusal_text n q.line) d r → Wrote d₀ 0 (opened_printed table_bytes o) d r
  refused_printed (refused m k) q cells literals h is w = wrote_as (λ i. refusal_text ((is ∙ h.0) i) (h.1 i)) w
  refused_printed (opened b) q cells literals h is w = absurd h

  module _ (L : Limits) (s : Bytes) {cells : List ℕ} {literals : List ℤ} {cells' : List ℕ} {literals' : List ℤ} where
    pub text_refused : (q : RefusedAt) → OpenedAt L (open_editions both L s) cells literals (Err q) cells' literals' → {n : ℕ} → n ≡ number_of q.refusal → Wrote d₀ 0 (refusal_text n q.line) d r → WritesCard L cells literals s d₀ d r
    unfolding card_program
    text_refused q told is w =
        if_whole told (λ h. refused_printed (open_editions both L s) q cells' literals' h is w) (λ h. refused_printed (refused 22 0) q cells' literals' h is w)

    -- a text that opens
    pub text_printed : limits_are_ok L ≡ true → OpenedAt L (open_editions both L s) cells literals (Ok tt) cells' literals'
        → ((b : Formula) → read_at cells' literals' ≡ some (fresh b) → formula_is_ok b ≡ true → Wrote d₀ 0 (answer_printed b.prefix (learning_card true b empty_store highest_ceiling table_bytes).out) d r)
        → WritesCard L cells literals s d₀ d r
    unfolding card_program
    text_printed fine told w = if_whole told (by (open_editions both L s) refl) (λ h. absurd h)
      where
        by : (o : Opened) → open_editions both L s ≡ o → AnsweredAt o (Ok tt) cells' literals' → Wrote d₀ 0 (opened_printed table_bytes o) d r
        by (refused m k) i h = absurd h
        by (opened b) i h = w b h (opened_formula both L fine s b i)

-- .. in a table of any length
module _ (L : Limits) (cells : List ℕ) (literals : List ℤ) (s d₀ : Bytes) {r : Written} {d : Bytes} where
  too_short : (t : Bytes) → length d₀ < answer_bytes → TooShort r.refusal r.length d₀ d → Prints t d₀ r d
  too_short t h w = record { short = λ q. w; printed = λ q. absurd (omega (arith, h, q)) }

  pub card_short : length d₀ < answer_bytes → TooShort r.refusal r.length d₀ d → PrintsCard L cells literals s d₀ r d
  card_short h w = record { whole = λ q. too_short (card_program L table_bytes s) h w; short = λ q. too_short (refusal_text 22 0) h w }

  pub card_prints : {n : ℕ} → answer_bytes ≤ length d₀ → WritesCard L cells literals s d₀ d n → (r.refusal ≡ 0) × (r.length ≡ n) → PrintsCard L cells literals s d₀ r d
  card_prints h w e = record { whole = λ q. prints (card_program L table_bytes s) d₀ h (w.whole q) e; short = λ q. prints (refusal_text 22 0) d₀ h (w.short q) e }

-- ---- what is handed on
-- a refused text has its number and line, and a table of zeros
refusal_made : (size : ℕ) (o : Opened) (q : RefusedAt) (cells : List ℕ) (literals : List ℤ) (t : Bytes) → AnsweredAt o (Err q) cells literals → t ≡ zero_table size → CardMade size o (Err q) t
refusal_made size (refused n line) q cells literals t w z = (w.0, w.1, z)
refusal_made size (opened b) q cells literals t w z = absurd w

module _ (L : Limits) (s : Bytes) (size : ℕ) {cells : List ℕ} {literals : List ℤ} {cells' : List ℕ} {literals' : List ℤ} where
  pub refused_made : (q : RefusedAt) (t : Bytes) → OpenedAt L (open_editions both L s) cells literals (Err q) cells' literals' → t ≡ zero_table size → MakesCard L cells literals s size (Err q) t
  refused_made q t told z =
      if_whole told (λ h. refusal_made size (open_editions both L s) q cells' literals' t h z) (λ h. refusal_made size (refused 22 0) q cells' literals' t h z)

  pub text_made : limits_are_ok L ≡ true → (r : Result CardLines RefusedAt) (t : Bytes) → OpenedAt L (open_editions both L s) cells literals (Ok tt) cells' literals'
      → ((b : Formula) → read_at cells' literals' ≡ some (fresh b) → formula_is_ok b ≡ true → CardMade size (opened b) r t) → MakesCard L cells literals s size r t
  text_made fine r t told made = if_whole told (by (open_editions both L s) refl) (λ h. absurd h)
    where
      by : (o : Opened) → open_editions both L s ≡ o → AnsweredAt o (Ok tt) cells' literals' → CardMade size o r t
      by (refused n k) i v = absurd v
      by (opened b) i v = made b v (opened_formula both L fine s b i)
