-- What becomes of the card answered last after a closest reading, from what its call told in numbers, however the state was read.
use Prim.Native.Nat.{ℕ, suc}
use mathlib.Core.Path.{◌≡◌, refl, sym, ap, ◌∙◌}
use mathlib.Core.Logic.{◌⊎◌, inl, inr}
use mathlib.Core.Bool.{true}
use mathlib.Core.List.{List, [], ◌++◌}
use mathlib.Core.Option.{Option, none, some}
use lib.ListN.{length}
use Rattle.std.specs.Prelude.{Result, Ok, Err}
use Rattle.refusal.specs.declared.Refusal.{Refusal}
use Rattle.qbf.specs.Formula.{Literal}
use Rattle.qbf.specs.Truth.{free_variables}
use Rattle.qbf.specs.Calls.{closest, card_refused, found, Answer, State as Read, well_formed}
use Rattle.theory.proofs.AcceptedRule.{some_none}
use Rattle.layout.specs.Words.{Bytes}
use Rattle.sessions.specs.Session.{Card, card_of as shown_of, card_after}
use Rattle.serving.specs.Serves.{Said, said_of, out_of}
use Rattle.replies.specs.Replies.{card_said}
use Rattle.closest_call.specs.Nearest.{nearest_said}
use Rattle.answer_text.specs.declared.shown.Shown.{Shown}
use Rattle.answer_text.specs.Shown.{card_in, CardToldBy}
use Rattle.card_answers.specs.Lines.{prefix_read}
use Rattle.card_answers.proofs.CardTexts.{Refused, said_by}
use Rattle.card_answers.proofs.LastCard.{none_left, some_left}
use Rattle.reading_answers.specs.Nearest.{card_found}
use Rattle.reading_answers.proofs.NearestTexts.{FoundBy, closest_cases}

-- what it says of the card that it was found on
found_refusal : (q : Result ℕ Refusal) (n k : ℕ) (tb bytes : Bytes) → (card_said (card_found q n) 0 []).refusal ≡ (nearest_said q n k tb bytes).refusal
found_refusal (Ok d) n k tb bytes = refl
found_refusal (Err m) n k tb bytes = refl

found_lines : (q : Result ℕ Refusal) (n k : ℕ) (tb bytes : Bytes) → (nearest_said q n k tb bytes).refusal ≡ none → (card_said (card_found q n) 0 []).lines ≡ (nearest_said q n k tb bytes).lines
found_lines (Ok d) n k tb bytes e = refl
found_lines (Err m) n k tb bytes e = absurd (some_none e)

found_table : (q : Result ℕ Refusal) (n k : ℕ) (tb bytes : Bytes) → tb ≡ (nearest_said q n k tb bytes).table
found_table (Ok d) n k tb bytes = refl
found_table (Err m) n k tb bytes = refl

module _ (top size : ℕ) (on off : List Literal) (o : Option Read) (q : Result ℕ Refusal) (n k : ℕ) (tb bytes : Bytes) (answered : nearest_said q n k tb bytes ≡ said_of (out_of o (closest top size on off))) (f : ℕ) (frees : (y : Read) → o ≡ some y → well_formed y ≡ true → f ≡ free_variables y.formula.prefix) (r : Shown) (made : CardToldBy f (card_found q n) (length tb) r) (after : Bytes) where
  abbrev asked : Answer
  asked = out_of o (closest top size on off)

  pub closest_left : (z : Option Card) → card_in r (tb ++ after) ≡ card_after (prefix_read o) (closest top size on off) asked.reply z
  closest_left z = by (closest_cases top size on off o)
    where
      by : Refused asked.reply ⊎ FoundBy o asked.reply → card_in r (tb ++ after) ≡ shown_of (prefix_read o) asked.reply
      by (inl (m, tb', e)) =
          let s = answered ∙ said_by asked (card_refused (suc m) tb') e in
          none_left o f (card_found q n) tb r made after m (found_refusal q n k tb bytes ∙ ap (λ (s : Said). s.refusal) s) ∙ sym (ap (shown_of (prefix_read o)) e)
      by (inr (y, i, g, ls, t, z', h, e)) =
          let s = answered ∙ said_by asked (found ls t z') e in
          let fine = ap (λ (s : Said). s.refusal) s in
          some_left o f (card_found q n) tb r made after y i (frees y i g) (length ls) t (found_refusal q n k tb bytes ∙ fine) (found_lines q n k tb bytes fine ∙ ap (λ (s : Said). s.lines) s) (found_table q n k tb bytes ∙ ap (λ (s : Said). s.table) s)
          ∙ sym (ap (shown_of (prefix_read o)) e)
