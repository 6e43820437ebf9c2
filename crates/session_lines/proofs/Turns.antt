-- What was served, as the request that was read; and a page as the answer of a line.
use Prim.Native.Nat.{ℕ, ◌≤◌, ◌<◌, min}
use mathlib.Core.Path.{◌≡◌, refl, sym, ap, subst, ◌∙◌}
use mathlib.Core.Bool.{Bool, true, false, cond}
use mathlib.Core.List.{List}
use mathlib.Core.Option.{Option, none, some}
use lib.IntN.{ℤ}
use native.Mathlib.Omega.{arith}
use native.Mathlib.Decide.{dec_lt}
use borrow.Author.Tests.{ne_eqb}
use lib.Dec.{eqb}
use lib.ListN.{length, take}
use lib.Seq.{take_all}
use Rattle.qbf.specs.Calls.{Call}
use Rattle.layout.specs.Words.{Bytes, joined}
use Rattle.layout.specs.Forms.{then}
use Rattle.layout.specs.Output.{refusal_text}
use Rattle.layout.specs.Page.{Page, no_page, page_of, zero_page, printed, page_refusal}
use Rattle.sessions.specs.Session.{Request, write, page, call_request, request_of, page_answer}
use Rattle.writer.specs.Wrote.{Wrote}
use Rattle.line_turns.specs.declared.Turn.{Turn}
use Rattle.answer_text.specs.declared.shown.Shown.{Shown}
use Rattle.answer_text.specs.Shown.{card_in}
use Rattle.answer_text.specs.Room.{answer_bytes, TooShort}
use Rattle.line_turns.specs.Line.{TurnedAt, WriteTurnedAt}
use Rattle.call_lines.specs.declared.Shared.{Shared}
use Rattle.call_lines.specs.Sharing.{SharedAt}
use Rattle.answer_text.proofs.Room.{within}
use Rattle.session_lines.specs.declared.Spoken.{Spoken}
use Rattle.session_lines.specs.Line.{page_rows, PageTurnedAt, RequestTurnedAt, spoken_turn, ServesLineAt}
use Rattle.session_lines.specs.Sharing.{RequestSharedAt}

-- ---- a page
-- of a card that stands in a table
module _ (table : Bytes) (lines free n k : ℕ) where
  pub rows_refused : (r : ℕ) → r ≡ page_refusal table lines free k → (r ≡ 0 → ⊥) → refusal_text r n ≡ page_rows table lines free n k
  rows_refused r e h = by (no_page table lines free k) e
    where
      by : (t : Bool) → r ≡ cond t 36 0 → refusal_text r n ≡ cond t (refusal_text 36 n) (joined (page_of table lines free k))
      by true q = ap (λ (m : ℕ). refusal_text m n) q
      by false q = absurd (h q)

  pub rows_shown : (r : ℕ) → r ≡ page_refusal table lines free k → r ≡ 0 → (p : Page) → p ≡ printed table lines free k → joined p ≡ page_rows table lines free n k
  rows_shown r e z p is = ap joined is ∙ by (no_page table lines free k) (sym e ∙ z)
    where
      by : (t : Bool) → ◌≡◌ {A = ℕ} (cond t 36 0) 0 → joined (cond t zero_page (page_of table lines free k)) ≡ cond t (refusal_text 36 n) (joined (page_of table lines free k))
      by true q = absurd (omega (arith, q))
      by false q = refl

take_min : (i : ℕ) (t : Bytes) → take (min i (length t)) t ≡ take i t
take_min i t = by (dec_lt (length t) i)
  where
    by : Dec (length t < i) → take (min i (length t)) t ≡ take i t
    by (yes h) = take_all (min i (length t)) t (omega (arith, h)) ∙ sym (take_all i t (omega (arith, h)))
    by (no h) = ap (λ (j : ℕ). take j t) (let e : min i (length t) ≡ i = omega (arith, h) in e)

module _ (s : Shown) (t : Bytes) (n k : ℕ) where
  -- no card was answered last
  pub page_none : (s.refusal ≡ 0 → ⊥) → refusal_text 36 n ≡ page_answer (card_in s t) n k
  page_none h = sym (ap (λ (b : Bool). page_answer (cond b (some (record { table = take s.size t; lines = s.lines; free = s.free })) none) n k) (ne_eqb s.refusal 0 h))

  -- the first bytes of the table are the card's
  pub page_some : s.refusal ≡ 0 → (m : ℕ) → m ≡ min s.size (length t) → page_rows (take m t) s.lines s.free n k ≡ page_answer (card_in s t) n k
  page_some z m e =
      ap (λ (u : Bytes). page_rows u s.lines s.free n k) (ap (λ (j : ℕ). take j t) e ∙ take_min s.size t)
      ∙ sym (ap (λ (r : ℕ). page_answer (cond (eqb r 0) (some (record { table = take s.size t; lines = s.lines; free = s.free })) none) n k) z)

pub page_turned : {d₀ d : Bytes} {r : ℕ} (k n : ℕ) (s : Shown) (t : Bytes) → Wrote d₀ 0 (page_answer (card_in s t) n k) d r → PageTurnedAt k n s t (record { shown = s; length = r }) d
page_turned k n s t w = record { within = within w; text = w.is; shown = refl }

-- ---- by what the line asks for, in a session
module _ {cells : List ℕ} {literals : List ℤ} {n : ℕ} {s₀ : Shown} {t₀ : Bytes} {r : Turn} {d : Bytes} (q : Option Request) where
  pub asked_write : (size : Option ℕ) → q ≡ some (write size) → WriteTurnedAt cells literals size n s₀ r d → RequestTurnedAt cells literals q n s₀ t₀ r cells literals t₀ d
  asked_write size e w =
      subst (λ (o : Option Request). RequestTurnedAt cells literals o n s₀ t₀ r cells literals t₀ d) (sym e)
      (record { within = w.text.within; served = (w.text.text, refl, refl, ap (λ (s : Shown). card_in s t₀) w.shown) })

  pub asked_page : (k : ℕ) → q ≡ some (page k) → PageTurnedAt k n s₀ t₀ r d → RequestTurnedAt cells literals q n s₀ t₀ r cells literals t₀ d
  asked_page k e w =
      subst (λ (o : Option Request). RequestTurnedAt cells literals o n s₀ t₀ r cells literals t₀ d) (sym e)
      (record { within = w.within; served = (w.text, refl, refl, ap (λ (s : Shown). card_in s t₀) w.shown) })

  pub asked_call : {cells' : List ℕ} {literals' : List ℤ} {t : Bytes} (c : Option Call) → q ≡ then c call_request → TurnedAt cells literals c n s₀ t₀ r cells' literals' t d → RequestTurnedAt cells literals q n s₀ t₀ r cells' literals' t d
  asked_call {cells'} {literals'} {t} c e u = subst (λ (o : Option Request). RequestTurnedAt cells literals o n s₀ t₀ r cells' literals' t d) (sym e) (by c u)
    where
      by : (c : Option Call) → TurnedAt cells literals c n s₀ t₀ r cells' literals' t d → RequestTurnedAt cells literals (then c call_request) n s₀ t₀ r cells' literals' t d
      by none u = record { within = u.within; served = (u.served, u.shown) }
      by (some c) u = record { within = u.within; served = (u.served, u.shown) }

-- ---- .. and at a place
abbrev pub unsearched : Turn → Shared
unsearched r = record { turn = r; visits = 0 }

module _ (m : ℕ) {cells : List ℕ} {literals : List ℤ} {n : ℕ} {s₀ : Shown} {t₀ : Bytes} {d : Bytes} (q : Option Request) where
  pub shared_write : {r : Turn} {z : Shared} (size : Option ℕ) → q ≡ some (write size) → z ≡ unsearched r → WriteTurnedAt cells literals size n s₀ r d → RequestSharedAt m cells literals q n s₀ t₀ z cells literals t₀ d
  shared_write {r} {z} size e i w =
      subst (λ (o : Option Request). RequestSharedAt m cells literals o n s₀ t₀ z cells literals t₀ d) (sym e)
      (subst (λ (v : Shared). RequestSharedAt m cells literals (some (write size)) n s₀ t₀ v cells literals t₀ d) (sym i)
      (record { within = w.text.within; served = (w.text.text, refl, refl, ap (λ (s : Shown). card_in s t₀) w.shown, refl) }))

  pub shared_page : {r : Turn} {z : Shared} (k : ℕ) → q ≡ some (page k) → z ≡ unsearched r → PageTurnedAt k n s₀ t₀ r d → RequestSharedAt m cells literals q n s₀ t₀ z cells literals t₀ d
  shared_page {r} {z} k e i w =
      subst (λ (o : Option Request). RequestSharedAt m cells literals o n s₀ t₀ z cells literals t₀ d) (sym e)
      (subst (λ (v : Shared). RequestSharedAt m cells literals (some (page k)) n s₀ t₀ v cells literals t₀ d) (sym i)
      (record { within = w.within; served = (w.text, refl, refl, ap (λ (s : Shown). card_in s t₀) w.shown, refl) }))

  pub shared_call : {z : Shared} {cells' : List ℕ} {literals' : List ℤ} {t : Bytes} (c : Option Call) → q ≡ then c call_request → SharedAt m cells literals c n s₀ t₀ z cells' literals' t d → RequestSharedAt m cells literals q n s₀ t₀ z cells' literals' t d
  shared_call {z} {cells'} {literals'} {t} c e u = subst (λ (o : Option Request). RequestSharedAt m cells literals o n s₀ t₀ z cells' literals' t d) (sym e) (by c u)
    where
      by : (c : Option Call) → SharedAt m cells literals c n s₀ t₀ z cells' literals' t d → RequestSharedAt m cells literals (then c call_request) n s₀ t₀ z cells' literals' t d
      by none u = record { within = u.within; served = (u.served, u.shown, u.visits) }
      by (some c) u = record { within = u.within; served = (u.served, u.shown, u.visits) }

-- what makes no visits, as a turn
pub turn_of_unsearched : {r : Turn} {z : Shared} → z ≡ unsearched r → r ≡ z.turn
turn_of_unsearched e = sym (ap (λ (v : Shared). v.turn) e)

-- ---- the whole line
module _ {cells : List ℕ} {literals : List ℤ} {l : Bytes} {n : ℕ} {s₀ : Shown} {r : Spoken} {d : Bytes} (t₀ d₀ : Bytes) where
  pub not_served : length d₀ < answer_bytes → TooShort r.refusal r.length d₀ d → r.shown ≡ s₀ → ServesLineAt cells literals l n s₀ t₀ d₀ r cells literals t₀ d
  not_served h e j = record { short = λ q. (e, j, refl, refl, refl); served = λ q. absurd (omega (arith, h, q)) }

  line_served : {cells' : List ℕ} {literals' : List ℤ} {t : Bytes} → answer_bytes ≤ length d₀ → r.refusal ≡ 0 → RequestTurnedAt cells literals (request_of l) n s₀ t₀ (spoken_turn r) cells' literals' t d
      → ServesLineAt cells literals l n s₀ t₀ d₀ r cells' literals' t d
  line_served h e u = record { short = λ q. absurd (omega (arith, h, q)); served = λ q. (e, u) }

  pub line_answered : {u : Turn} {cells' : List ℕ} {literals' : List ℤ} {t : Bytes} → answer_bytes ≤ length d₀ → (r.refusal ≡ 0) × (spoken_turn r ≡ u) → RequestTurnedAt cells literals (request_of l) n s₀ t₀ u cells' literals' t d
      → ServesLineAt cells literals l n s₀ t₀ d₀ r cells' literals' t d
  line_answered {u} {cells'} {literals'} {t} h e w = line_served h e.0 (subst (λ (v : Turn). RequestTurnedAt cells literals (request_of l) n s₀ t₀ v cells' literals' t d) (sym e.1) w)
