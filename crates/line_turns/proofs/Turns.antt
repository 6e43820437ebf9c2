-- The answer that stands at the start of the lent table, as a turn; and what a rule leaves of the card answered last.
use Prim.Native.Nat.{ℕ, zero, suc}
use native.Mathlib.Omega.{arith}
use mathlib.Core.Path.{◌≡◌, refl, ap, ◌∙◌}
use mathlib.Core.Bool.{Bool, false, cond}
use mathlib.Core.List.{List}
use mathlib.Core.Option.{Option, some}
use lib.Dec.{eqb}
use lib.IntN.{ℤ}
use lib.ListN.{take}
use borrow.Author.Tests.{ne_eqb}
use Rattle.std.specs.Prelude.{Result}
use Rattle.refusal.specs.declared.Refusal.{Refusal}
use Rattle.qbf.specs.Calls.{Call, rule, one, withdraw, forget, Reply, done, refused, swap, keep, unsettled, lines, card_refused, found}
use Rattle.layout.specs.Words.{Bytes}
use Rattle.layout.specs.Output.{accepted_text, withdrawn_text, forgotten_text}
use Rattle.sessions.specs.Session.{card_after_rule}
use Rattle.state_parts.specs.Parts.{read_at}
use Rattle.serving.specs.Serves.{Said, said_reply, number, out_of}
use Rattle.rule_calls.specs.ServesAt.{ServesAt, change_said}
use Rattle.writer.specs.Wrote.{Wrote}
use Rattle.answer_text.specs.declared.shown.Shown.{Shown}
use Rattle.answer_text.specs.Shown.{card_in, no_card}
use Rattle.answer_text.specs.Texts.{change_text}
use Rattle.answer_text.proofs.Room.{within}
use Rattle.line_turns.specs.declared.change.Change.{Change}
use Rattle.line_turns.specs.declared.change.Change.TheVariants as change
use Rattle.line_turns.specs.Line.{CallServedAt, line_card, TurnedAt, TurnedBesideAt}
use Rattle.line_turns.specs.Changes.{changes, done_word, card_left}
use Rattle.line_turns.proofs.Answered.{Changing, rule_changing, one_changing, withdraw_changing, forget_changing, change_served}

module _ (cells : List ℕ) (literals : List ℤ) where
  pub turned : {d₀ d t : Bytes} {r : ℕ} (c : Option Call) (n : ℕ) (cells' : List ℕ) (literals' : List ℤ) (s₀ s : Shown) → Wrote d₀ 0 t d r → ((u : Bytes) → u ≡ t → CallServedAt cells literals c n u cells' literals')
      → (t₀ t₁ : Bytes) → card_in s t₁ ≡ line_card (read_at cells literals) c (card_in s₀ t₀) → TurnedAt cells literals c n s₀ t₀ (record { shown = s; length = r }) cells' literals' t₁ d
  turned {d₀} {d} {t} {r} c n cells' literals' s₀ s w served t₀ t₁ shown = record { within = within w; served = served (take r d) w.is; shown = shown }

-- ---- a rule
-- a refusal has a number
some_number : (n : ℕ) → eqb (suc n) 0 ≡ false
some_number n = ne_eqb (suc n) 0 (λ e. omega (arith, e))

rule_left : (s : Shown) (t : Bytes) (r : Reply) (k : ℕ) → Changing r → card_in (cond (eqb (number (said_reply r k).refusal) 0) no_card s) t ≡ card_after_rule r (card_in s t)
rule_left s t done k h = refl
rule_left s t (refused zero) k h = absurd h
rule_left s t (refused (suc n)) k h = ap (λ (b : Bool). card_in (cond b no_card s) t) (some_number n)
rule_left s t swap k h = absurd h
rule_left s t keep k h = absurd h
rule_left s t unsettled k h = absurd h
rule_left s t (lines ls tb) k h = absurd h
rule_left s t (card_refused n tb) k h = absurd h
rule_left s t (found ls tb r) k h = absurd h

module _ (cells : List ℕ) (literals : List ℤ) where
  -- from the contract of the call and the number of its refusal
  rule_leaves : (c : Call) (ch : Result Unit Refusal) (cells' : List ℕ) (literals' : List ℤ) (s : Shown) (n : ℕ) → Changing (out_of (read_at cells literals) c).reply → ServesAt cells literals c (change_said ch) cells' literals'
      → n ≡ number (change_said ch).refusal → (r : Shown) → r ≡ cond (eqb n 0) no_card s → (t : Bytes) → card_in r t ≡ card_after_rule (out_of (read_at cells literals) c).reply (card_in s t)
  rule_leaves c ch cells' literals' s n h w e r is t =
      ap (λ (z : Shown). card_in z t) (is ∙ ap (λ (k : ℕ). cond (eqb k 0) no_card s) (e ∙ ap (λ (q : Said). number q.refusal) w.answered))
      ∙ rule_left s t (out_of (read_at cells literals) c).reply (out_of (read_at cells literals) c).visits h

  pub change_turned : (f : Change) (n : ℕ) (ch : Result Unit Refusal) (cells' : List ℕ) (literals' : List ℤ) (s left : Shown) {d₀ d : Bytes} {k r : ℕ}
      → ServesAt cells literals (changes f) (change_said ch) cells' literals' → k ≡ number (change_said ch).refusal → left ≡ card_left f s k → Wrote d₀ 0 (change_text (done_word f) k n) d r
      → TurnedBesideAt cells literals (some (changes f)) n s (record { shown = left; length = r }) cells' literals' d
  change_turned (change.Rule ls) n ch cells' literals' s left {k = k} served e is w = λ t.
      turned cells literals (some (rule ls.now)) n cells' literals' s left w
      (λ u i. change_served cells literals (rule ls.now) n ch cells' literals' u (λ m l j. refl) (rule_changing ls.now) served (i ∙ ap (λ (j : ℕ). change_text accepted_text j n) e))
      t t (rule_leaves (rule ls.now) ch cells' literals' s k (rule_changing ls.now (read_at cells literals)) served e left is t)
  change_turned (change.One ls) n ch cells' literals' s left {k = k} served e is w = λ t.
      turned cells literals (some (one ls.now)) n cells' literals' s left w
      (λ u i. change_served cells literals (one ls.now) n ch cells' literals' u (λ m l j. refl) (one_changing ls.now) served (i ∙ ap (λ (j : ℕ). change_text accepted_text j n) e))
      t t (rule_leaves (one ls.now) ch cells' literals' s k (one_changing ls.now (read_at cells literals)) served e left is t)
  change_turned change.Withdraw n ch cells' literals' s left {k = k} served e is w = λ t.
      turned cells literals (some withdraw) n cells' literals' s left w
      (λ u i. change_served cells literals withdraw n ch cells' literals' u (λ m l j. refl) withdraw_changing served (i ∙ ap (λ (j : ℕ). change_text withdrawn_text j n) e))
      t t (rule_leaves withdraw ch cells' literals' s k (withdraw_changing (read_at cells literals)) served e left is t)
  change_turned change.Forget n ch cells' literals' s left {k = k} served e is w = λ t.
      turned cells literals (some forget) n cells' literals' s left w
      (λ u i. change_served cells literals forget n ch cells' literals' u (λ m l j. refl) forget_changing served (i ∙ ap (λ (j : ℕ). change_text forgotten_text j n) e))
      t t (ap (λ (z : Shown). card_in z t) is)
