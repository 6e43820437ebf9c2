-- The names of the state that a card leaves are those of the state that it was made on; and its turn.
use Prim.Native.Nat.{ℕ}
use mathlib.Core.List.{◌++◌}
use mathlib.Core.Option.{some}
use lib.ListN.{length}
use Rattle.layout.specs.Words.{Bytes}
use Rattle.state_parts.specs.Parts.{read_at}
use Rattle.replies.specs.declared.Listed.{Listed}
use Rattle.writer.specs.Wrote.{Wrote}
use Rattle.answer_text.specs.declared.shown.Shown.{Shown}
use Rattle.answer_text.specs.Shown.{card_in, CardToldBy}
use Rattle.card_answers.specs.declared.Filled.{Filled}
use Rattle.card_answers.specs.declared.names.Names.{Names}
use Rattle.card_answers.specs.Lines.{line_answer, NamesRead, card_for, ListedOn}
use Rattle.card_answers.proofs.Kept.{card_kept, names_before}
use Rattle.card_answers.proofs.LastCard.{card_left}
use Rattle.line_turns.specs.Line.{TurnedAt}
use Rattle.line_turns.specs.Cards.{CardServed}
use Rattle.line_turns.proofs.Turns.{turned}

module _ (n : Names) (f : Filled) (l : Listed) (h : CardServed n f l) where
  pub names_left : NamesRead (read_at h.cells h.literals) n
  names_left = names_before (card_for f) (card_kept f.sought.yes f.sought.ceiling (length f.table.now)) (read_at h.cells h.literals) _ h.served.next n h.names

  abbrev pub listed_on : ListedOn n f l
  listed_on = record { read = read_at h.cells h.literals; names = names_left; said = h.served.answered }

  pub card_turned : (line : ℕ) (made : Shown) {d₀ d : Bytes} {r : ℕ} → CardToldBy n.free l.lines (length f.table.now) made → Wrote d₀ 0 (line_answer (read_at h.cells h.literals) line (some (card_for f))) d r
      → (s : Shown) (t after : Bytes) → TurnedAt h.cells h.literals (some (card_for f)) line s t (record { shown = made; length = r }) h.cells' h.literals' (f.table.now ++ after) d
  card_turned line made told w s t after =
      turned h.cells h.literals (some (card_for f)) line h.cells' h.literals' s made w
      (λ u e. record { text = e; next = h.served.next; kept = h.served.kept })
      t (f.table.now ++ after)
      (card_left f.sought.ceiling f.sought.yes (read_at h.cells h.literals) (length f.table.now) l.lines l.visits f.table.now h.served.answered n.free (λ y i g. (names_left y i g).frees) made told after (card_in s t))
