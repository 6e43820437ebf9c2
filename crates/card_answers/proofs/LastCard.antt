-- What becomes of the card answered last after a card or keep card, from what its call told in numbers, however the state was read.
use Prim.Native.Nat.{ℕ, suc}
use mathlib.Core.Path.{◌≡◌, refl, sym, ap, ◌∙◌}
use mathlib.Core.Logic.{◌⊎◌, inl, inr}
use mathlib.Core.Bool.{Bool, true, false, cond}
use mathlib.Core.List.{[], ◌++◌}
use mathlib.Core.Option.{Option, none, some}
use lib.ListN.{length, take}
use lib.Dec.{eqb}
use lib.Seq.{take_all, take-append-le}
use borrow.Author.Tests.{ne_eqb}
use native.Mathlib.Omega.{arith}
use Rattle.std.specs.Prelude.{Result}
use Rattle.refusal.specs.declared.Refusal.{Refusal}
use Rattle.qbf.specs.Truth.{free_variables}
use Rattle.qbf.specs.Card.{table_of}
use Rattle.qbf.specs.Calls.{card_of, Reply, lines, card_refused, Answer, State as Read, well_formed}
use Rattle.layout.specs.Words.{Bytes}
use Rattle.sessions.specs.Session.{Card, card_of as shown_of, card_after}
use Rattle.serving.specs.Serves.{Said, said, said_reply, said_of, number, out_of}
use Rattle.replies.specs.Replies.{card_said}
use Rattle.replies.proofs.Told.{card_said_lem}
use Rattle.answer_text.specs.declared.shown.Shown.{Shown}
use Rattle.answer_text.specs.Shown.{card_in, CardToldBy}
use Rattle.card_answers.specs.Lines.{prefix_read}
use Rattle.card_answers.proofs.FreeLines.{card_lines}
use Rattle.card_answers.proofs.CardTexts.{ListedBy, Refused, card_cases, said_by}

-- a refusal has a number
some_number : (n : ℕ) → eqb (suc n) 0 ≡ false
some_number n = ne_eqb (suc n) 0 (λ e. omega (arith, e))

-- ---- from what an answer tells in numbers
module _ (o : Option Read) (f : ℕ) (p : Result ℕ Refusal) (tb : Bytes) (r : Shown) (told : CardToldBy f p (length tb) r) (after : Bytes) where
  front : take r.size (tb ++ after) ≡ tb
  front = take-append-le r.size tb after (omega (arith, told.size)) ∙ take_all r.size tb (omega (arith, told.size))

  abbrev held : Option Card
  held = some (record { table = take r.size (tb ++ after); lines = r.lines; free = r.free })

  -- a refused call leaves none
  pub none_left : (m : ℕ) → (card_said p 0 []).refusal ≡ some (suc m) → card_in r (tb ++ after) ≡ none
  none_left m e = ap (λ (n : ℕ). cond (eqb n 0) held none) (told.refusal ∙ ap number e) ∙ ap (λ (b : Bool). cond b held none) (some_number m)

  -- an answered one its table and its lines
  pub some_left : (y : Read) → o ≡ some y → f ≡ free_variables y.formula.prefix → (n : ℕ) (t : Bytes) → (card_said p 0 []).refusal ≡ none → (card_said p 0 []).lines ≡ n → tb ≡ t
      → card_in r (tb ++ after) ≡ some (record { table = t; lines = n; free = free_variables (prefix_read o) })
  some_left y i is n t e m w = λ j. cond (eqb (refusal j) 0) (some (record { table = table j; lines = count j; free = free j })) none
    where
      refusal : r.refusal ≡ 0
      refusal = told.refusal ∙ ap number e

      table : take r.size (tb ++ after) ≡ t
      table = front ∙ w

      count : r.lines ≡ n
      count = told.lines ∙ m

      free : r.free ≡ free_variables (prefix_read o)
      free = told.free ∙ is ∙ ap (λ (z : Option Read). free_variables (prefix_read z)) (sym i)

-- ---- a card
module _ (top : ℕ) (v : Bool) (o : Option Read) (size : ℕ) (p : Result ℕ Refusal) (k : ℕ) (tb : Bytes) (answered : card_said p k tb ≡ said_of (out_of o (card_of v top size))) (f : ℕ) (frees : (y : Read) → o ≡ some y → well_formed y ≡ true → f ≡ free_variables y.formula.prefix) (r : Shown) (told : CardToldBy f p (length tb) r) (after : Bytes) where
  abbrev a : Answer
  a = out_of o (card_of v top size)

  said_is : (reply : Reply) → a.reply ≡ reply → said (card_said p 0 []).refusal 0 (card_said p 0 []).lines k tb ≡ said_reply reply a.visits
  said_is reply z = sym (card_said_lem p k tb) ∙ answered ∙ said_by a reply z

  -- the card that the table shows is the answer's
  pub card_left : (z : Option Card) → card_in r (tb ++ after) ≡ card_after (prefix_read o) (card_of v top size) a.reply z
  card_left z = by (card_cases top v size o) ∙ sym (after_card v)
    where
      after_card : (q : Bool) → card_after (prefix_read o) (card_of q top size) a.reply z ≡ shown_of (prefix_read o) a.reply
      after_card true = refl
      after_card false = refl

      by : Refused a.reply ⊎ ListedBy top v size o a.reply → card_in r (tb ++ after) ≡ shown_of (prefix_read o) a.reply
      by (inl (m, tb', e)) = none_left o f p tb r told after m (ap (λ (s : Said). s.refusal) (said_is (card_refused (suc m) tb') e)) ∙ sym (ap (shown_of (prefix_read o)) e)
      by (inr (y, i, g, l)) =
          let ls = card_lines y v in
          let t = table_of (free_variables y.formula.prefix) size (card_lines y v) in
          let q = said_is (lines ls t) l.0 in
          some_left o f p tb r told after y i (frees y i g) (length ls) t (ap (λ (s : Said). s.refusal) q) (ap (λ (s : Said). s.lines) q) (ap (λ (s : Said). s.table) q)
          ∙ sym (ap (shown_of (prefix_read o)) l.0)
