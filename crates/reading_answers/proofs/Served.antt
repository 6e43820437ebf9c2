-- The names of the state that a closest reading leaves are those of the state that it was made on; and its turn.
use Prim.Native.Nat.{ℕ}
use mathlib.Core.List.{◌++◌}
use mathlib.Core.Option.{some}
use lib.ListN.{length, take}
use Rattle.qbf.specs.Calls.{Call, closest}
use Rattle.layout.specs.Words.{Bytes}
use Rattle.state_parts.specs.Parts.{read_at}
use Rattle.writer.specs.Wrote.{Wrote}
use Rattle.answer_text.specs.declared.shown.Shown.{Shown}
use Rattle.answer_text.specs.Shown.{card_in, CardToldBy}
use Rattle.card_answers.specs.declared.names.Names.{Names}
use Rattle.card_answers.proofs.Kept.{closest_kept, names_before}
use Rattle.card_answers.specs.Lines.{line_answer, NamesRead}
use Rattle.line_turns.specs.Line.{TurnedAt}
use Rattle.line_turns.proofs.Turns.{turned}
use Rattle.reading_answers.specs.declared.turn.Found.{Found}
use Rattle.reading_answers.specs.Nearest.{card_found, NearestOn}
use Rattle.reading_answers.specs.Served.{NearestServed}
use Rattle.reading_answers.proofs.LastCard.{closest_left}

module _ (n : Names) (f : Found) (h : NearestServed n f) where
  abbrev pub call : Call
  call = closest h.ceiling (length f.table.now) h.on h.off

  pub names_left : NamesRead (read_at h.cells h.literals) n
  names_left = names_before call (closest_kept h.ceiling (length f.table.now) h.on h.off) (read_at h.cells h.literals) _ h.served.next n h.names

  abbrev pub nearest_on : NearestOn n f.nearest f.reading.now
  nearest_on =
      record { read = read_at h.cells h.literals; names = names_left; ceiling = h.ceiling; on = h.on; off = h.off; table = f.table.now; said = h.served.answered }

  pub nearest_turned : (line : ℕ) (made : Shown) {d₀ d : Bytes} {r : ℕ} → CardToldBy n.free (card_found f.nearest.told f.nearest.lines) (length f.table.now) made → Wrote d₀ 0 (line_answer (read_at h.cells h.literals) line (some call)) d r
      → (s : Shown) (t after : Bytes) → TurnedAt h.cells h.literals (some call) line s t (record { shown = made; length = r }) h.cells' h.literals' (f.table.now ++ after) d
  nearest_turned line made told w s t after =
      turned h.cells h.literals (some call) line h.cells' h.literals' s made w
      (λ u e. record { text = e; next = h.served.next; kept = h.served.kept })
      t (f.table.now ++ after)
      (closest_left h.ceiling (length f.table.now) h.on h.off (read_at h.cells h.literals) f.nearest.told f.nearest.lines f.nearest.visits f.table.now (take n.free f.reading.now) h.served.answered n.free (λ y i g. (names_left y i g).frees) made told after (card_in s t))
