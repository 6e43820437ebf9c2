-- The card of a state with an empty store, from what its call told in numbers, however the state was read: what is printed of it, and what is handed on for its pages.
use Prim.Native.Nat.{ℕ, suc}
use mathlib.Core.Path.{◌≡◌, refl, sym, ap, subst, ◌∙◌}
use mathlib.Core.Logic.{◌⊎◌, inl, inr}
use mathlib.Core.Bool.{Bool, true}
use mathlib.Core.List.{List}
use mathlib.Core.Option.{Option, some}
use Rattle.qbf.specs.Formula.{Formula}
use Rattle.qbf.specs.Truth.{free_variables}
use Rattle.qbf.specs.Learning.{empty_store}
use Rattle.qbf.specs.Card.{table_of}
use Rattle.qbf.specs.Ceiling.{highest_ceiling}
use Rattle.qbf.specs.Calls.{card, Reply, lines, card_refused, Answer, learning_card, formula_is_ok, guarded, State as Read, well_formed}
use Rattle.qbf.specs.Runs.{fresh}
use Rattle.theory.proofs.AcceptedRule.{some_none}
use Rattle.theory.proofs.WellFormed.{formula_facts}
use Rattle.layout.specs.Output.{refusal_text}
use Rattle.layout.specs.Program.{card_printed, answer_printed}
use Rattle.layout.specs.Session.{answer_text}
use Rattle.layout.specs.Opening.{opened}
use Rattle.layout_laws.proofs.Opened.{fresh_formed}
use Rattle.serving.specs.Serves.{Said, said_reply, said_of, number, out_of}
use Rattle.replies.specs.Replies.{card_said}
use Rattle.std.specs.Prelude.{Result, Ok, Err}
use Rattle.refusal.specs.declared.Refusal.{Refusal}
use Rattle.refusal.specs.Refusal.{number_of}
use Rattle.opening.specs.declared.text.RefusedAt.{RefusedAt}
use Rattle.cover.specs.declared.CardLines.{CardLines}
use Rattle.card_answers.specs.declared.names.Names.{Names}
use Rattle.card_answers.specs.declared.Filled.{Filled}
use Rattle.card_answers.specs.Lines.{prefix_read, line_answer, NamesRead, card_for, ShownOn}
use Rattle.card_answers.proofs.FreeLines.{card_lines}
use Rattle.card_answers.proofs.CardTexts.{Listed, Refused, formed_cases, said_by, text_by, shown_said}
use Rattle.text_cards.specs.Making.{ReplyMade, CardMade}

-- what the lines' table owes to the writer
abbrev pub shown_on : (o : Option Read) (n : Names) → NamesRead o n → (f : Filled) (p : Result ℕ Refusal) (m k : ℕ) → card_said p k f.table.now ≡ said_of (out_of o (card_for f)) → p ≡ Ok m → ShownOn n f m k
shown_on o n names f p m k s is = record { read = o; names = names; said = shown_said (said_of (out_of o (card_for f))) f.table.now m p k s is }

-- ---- a card on an empty store
-- a formula that opens is well-formed with its empty store
pub opened_formed : (b : Formula) → formula_is_ok b ≡ true → well_formed (fresh b) ≡ true
opened_formed b ok = fresh_formed b (formula_facts b ok)

module _ (o : Option Read) (size : ℕ) (p : Result ℕ Refusal) (k : ℕ) (tb : List ℕ) (s : card_said p k tb ≡ said_of (out_of o (card highest_ceiling size))) (b : Formula) (e : o ≡ some (fresh b)) (ok : formula_is_ok b ≡ true) where
  abbrev a : Answer
  a = (learning_card true b empty_store highest_ceiling size).out

  abbrev shown : Reply
  shown = lines (card_lines (fresh b) true) (table_of (free_variables b.prefix) size (card_lines (fresh b) true))

  out_is : out_of o (card highest_ceiling size) ≡ a
  out_is = ap (λ (q : Option Read). out_of q (card highest_ceiling size)) e ∙ ap (λ (g : Bool). (guarded g (fresh b) (card highest_ceiling size)).out) (opened_formed b ok)

  said_is : (v : Result ℕ Refusal) → p ≡ v → (reply : Reply) → a.reply ≡ reply → card_said v k tb ≡ said_reply reply a.visits
  said_is v q reply z = sym (ap (λ (w : Result ℕ Refusal). card_said w k tb) q) ∙ s ∙ ap said_of out_is ∙ said_by a reply z

  -- ---- what is printed
  printed_by_lem : (reply : Reply) → a.reply ≡ reply → answer_printed b.prefix a ≡ card_printed b.prefix reply a.visits
  printed_by_lem reply z = ap (λ (w : Reply). card_printed b.prefix w a.visits) z

  pub refused_printed : (m : Refusal) → p ≡ Err m → (n : ℕ) → n ≡ number_of m → refusal_text n 0 ≡ answer_printed b.prefix a
  refused_printed m is n told = ap (λ (j : ℕ). refusal_text j 0) told ∙ by (formed_cases highest_ceiling true size (fresh b))
    where
      by : Refused a.reply ⊎ Listed highest_ceiling true size (fresh b) a.reply → refusal_text (number_of m) 0 ≡ answer_printed b.prefix a
      by (inl (j, tb', z)) = ap (λ (w : Said). refusal_text (number w.refusal) 0) (said_is (Err m) is (card_refused (suc j) tb') z) ∙ sym (printed_by_lem (card_refused (suc j) tb') z)
      by (inr (z, fits)) = absurd (some_none (ap (λ (w : Said). w.refusal) (said_is (Err m) is shown z)))

  -- the line does not matter
  pub shown_printed : (n : ℕ) → p ≡ Ok n → (line : ℕ) → line_answer o line (some (card highest_ceiling size)) ≡ answer_printed b.prefix a
  shown_printed n is line = by (formed_cases highest_ceiling true size (fresh b))
    where
      by : Refused a.reply ⊎ Listed highest_ceiling true size (fresh b) a.reply → line_answer o line (some (card highest_ceiling size)) ≡ answer_printed b.prefix a
      by (inl (m, tb', z)) = absurd (some_none (sym (ap (λ (w : Said). w.refusal) (said_is (Ok n) is (card_refused (suc m) tb') z))))
      by (inr (z, fits)) =
          ap (λ (q : Option Read). answer_text (prefix_read q) (card highest_ceiling size) line (out_of q (card highest_ceiling size))) e
          ∙ ap (λ (g : Bool). answer_text b.prefix (card highest_ceiling size) line (guarded g (fresh b) (card highest_ceiling size)).out) (opened_formed b ok)
          ∙ text_by b.prefix (card highest_ceiling size) line a shown z
          ∙ sym (printed_by_lem shown z)

  -- ---- what is handed on
  -- the flags that the names tell
  pub frees_are : (names : Names) → NamesRead o names → names.free ≡ free_variables b.prefix
  frees_are names h = (h (fresh b) e (opened_formed b ok)).frees

  -- lines stand in the table
  pub lines_made : (n : ℕ) → p ≡ Ok n → (f : ℕ) → f ≡ free_variables b.prefix → CardMade size (opened b) (Ok (record { count = n; free = f })) tb
  lines_made n q f free = by (formed_cases highest_ceiling true size (fresh b))
    where
      r : Result CardLines RefusedAt
      r = Ok (record { count = n; free = f })

      by : Refused a.reply ⊎ Listed highest_ceiling true size (fresh b) a.reply → ReplyMade b.prefix a.reply r tb
      by (inl (m, tb', z)) = absurd (some_none (sym (ap (λ (v : Said). v.refusal) (said_is (Ok n) q (card_refused (suc m) tb') z))))
      by (inr (z, fits)) =
          let w = said_is (Ok n) q shown z in
          subst (λ (v : Reply). ReplyMade b.prefix v r tb) (sym z) (ap (λ (v : Said). v.lines) w, free, ap (λ (v : Said). v.table) w)

  -- or the card is refused
  pub refusal_made : (k : Refusal) → p ≡ Err k → CardMade size (opened b) (Err (record { refusal = k; line = 0 })) tb
  refusal_made k q = by (formed_cases highest_ceiling true size (fresh b))
    where
      r : Result CardLines RefusedAt
      r = Err (record { refusal = k; line = 0 })

      by : Refused a.reply ⊎ Listed highest_ceiling true size (fresh b) a.reply → ReplyMade b.prefix a.reply r tb
      by (inl (m, tb', z)) =
          let w = said_is (Err k) q (card_refused (suc m) tb') z in
          subst (λ (v : Reply). ReplyMade b.prefix v r tb) (sym z) (ap (λ (v : Said). number v.refusal) w, refl, ap (λ (v : Said). v.table) w)
      by (inr (z, fits)) = absurd (some_none (ap (λ (v : Said). v.refusal) (said_is (Err k) q shown z)))
