-- What a request at a place owes, by what it asks for: a session's answer under the share is the day's.
use Prim.Native.Nat.{ℕ, ◌+◌, ◌-◌}
use native.Mathlib.Omega.{arith}
use mathlib.Core.Path.{◌≡◌, refl, sym, ap, ◌∙◌}
use mathlib.Core.Bool.{Bool, true, false, cond}
use mathlib.Core.List.{List}
use mathlib.Core.Option.{Option, none, some}
use lib.IntN.{ℤ}
use lib.ListN.{get_or, set}
use lib.Seq.{set-get_or}
use Rattle.qbf.specs.Formula.{Prefix}
use Rattle.qbf.specs.Calls.{Call, rule, query, card, forget, withdraw, keep_card, one, closest, ceiling_of, Answer, answer, refusal, State as Read, step}
use Rattle.layout.specs.Words.{Bytes}
use Rattle.layout.specs.Output.{refusal_text}
use Rattle.sessions.specs.Session.{Request, call, write, page, Card, card_after, turn_of}
use Rattle.booktext.specs.Books.{write_call}
use Rattle.days.specs.Accounts.{overspent, charged}
use Rattle.days.specs.Day.{DayStepped, book_at, day_step, limited, outside, share_at, shared_reply, under_share}
use Rattle.day_text.specs.Program.{Served, shown_at, answer_at}
use Rattle.shares.specs.Shares.{share_of, allows_of, settled}
use Rattle.state_parts.specs.Parts.{read_at}
use Rattle.serving_days.specs.Serves.{state_in}
use Rattle.serving_days.proofs.Places.{out_in, next_in}
use Rattle.card_answers.specs.Lines.{prefix_read}
use Rattle.text_answers.specs.Text.{write_answer}
use Rattle.call_lines.specs.Sharing.{out_shared}
use Rattle.session_lines.specs.Sharing.{RequestSharedServedAt}
use Rattle.days_laws.proofs.Limited.{visits_limited}
use Rattle.layout.specs.Session.{answer_text}
use Rattle.day_lines.specs.declared.asked.Kind.{Kind}
use Rattle.day_lines.specs.declared.asked.Kind.TheVariants as kind
use Rattle.day_lines.specs.Asked.{kind_call}
use Rattle.day_lines.specs.Book.{changed_at}
use Rattle.day_lines.proofs.Shares.{step_shared, step_refused, settled_within}

-- ---- what does not read is a malformed book
prefix_in : (o : Option Read) → prefix_read o ≡ (state_in o).formula.prefix
prefix_in none = refl
prefix_in (some y) = refl

write_in : (o : Option Read) (z : Option Card) (n : ℕ) (size : Option ℕ) → write_answer o n size ≡ (turn_of (state_in o) z n (some (write size))).text
unfolding write_call
write_in none z n none = refl
write_in none z n (some size) = refl
write_in (some y) z n size = refl

out_shared_in : (m : ℕ) (o : Option Read) (c : Call) → out_shared m o c ≡ answer (shared_reply (ceiling_of c) m (step (state_in o) (limited m c)).out.reply) (step (state_in o) (limited m c)).out.visits
out_shared_in m o c = ap (λ (a : Answer). answer (shared_reply (ceiling_of c) m a.reply) a.visits) (out_in o (limited m c))

-- ---- accounts
-- no visits are no charge
settled_none : (T : ℕ) (us : List ℕ) (k : ℕ) → settled T us k 0 ≡ us
settled_none T us k = by (allows_of (share_of T us k true) 0)
  where
    by : (o : Bool) → cond o (charged us (k - 1) 0) us ≡ us
    by true = let e : get_or us (k - 1) 0 + 0 ≡ get_or us (k - 1) 0 = omega arith in ap (set us (k - 1)) e ∙ set-get_or us (k - 1) 0
    by false = refl

module _ (z : Served) (k n m : ℕ) (cells : List ℕ) (literals : List ℤ) where
  abbrev o : Option Read
  o = read_at cells literals

  -- nothing changes at the place
  same_at : get_or z.day.places (k - 1) none ≡ some (state_in o) → changed_at z k 0 cells literals (shown_at z k) ≡ z
  same_at here =
      let us : settled z.day.total z.day.used k 0 ≡ z.day.used = settled_none z.day.total z.day.used k in
      let ps : set z.day.places (k - 1) (some (state_in o)) ≡ z.day.places = ap (set z.day.places (k - 1)) (sym here) ∙ set-get_or z.day.places (k - 1) none in
      let cs : set z.shown (k - 1) (shown_at z k) ≡ z.shown = set-get_or z.shown (k - 1) none in
      λ i. record { day = record { total = z.day.total; used = us i; places = ps i }; shown = cs i }

  -- the answer t, the tables of the book then, and its card and visits
  module _ (t : Bytes) (cells' : List ℕ) (literals' : List ℤ) (z' : Option Card) (v : ℕ) where
    abbrev Owed : Request → Type 0
    Owed q = (t ≡ (answer_at (state_in o) z n k q).text) × (changed_at z k v cells' literals' z' ≡ (answer_at (state_in o) z n k q).left)

    module _ (here : get_or z.day.places (k - 1) none ≡ some (state_in o)) where
      left_same : cells' ≡ cells → literals' ≡ literals → z' ≡ shown_at z k → v ≡ 0 → changed_at z k v cells' literals' z' ≡ z
      left_same a b c e = rw (a, b, c, e) (same_at here)

      pub owed_write : (size : Option ℕ) → RequestSharedServedAt m cells literals (shown_at z k) (some (write size)) n t cells' literals' z' v → Owed (write size)
      owed_write size (e, a, b, c, w) = (e ∙ write_in o (shown_at z k) n size, left_same a b c w)

      pub owed_page : (p : ℕ) → RequestSharedServedAt m cells literals (shown_at z k) (some (page p)) n t cells' literals' z' v → Owed (page p)
      owed_page p (e, a, b, c, w) = (e, left_same a b c w)

    -- a call, where the accounts stand: its share is m
    module _ (c : Call) (inside : outside k ≡ false) (stands : overspent z.day.total z.day.used ≡ false) (share : m ≡ share_at z.day k) (here : book_at z.day k ≡ some (state_in o)) where
      abbrev own : DayStepped
      own = under_share z.day (k - 1) m (state_in o) c

      abbrev made : Answer
      made = (step (state_in o) (limited m c)).out

      stepped : day_step z.day (record { place = k; call = c }) ≡ own
      stepped = step_shared z.day k (state_in o) here c stands m share

      owed_out : out_shared m o c ≡ own.out
      owed_out = out_shared_in m o c

      pub owed_call : RequestSharedServedAt m cells literals (shown_at z k) (some (call c)) n t cells' literals' z' v → Owed (call c)
      owed_call (s, e, w) = (text, left)
        where
          text : t ≡ (answer_at (state_in o) z n k (call c)).text
          text =
              s.text
              ∙ ap (λ (D : Prefix). answer_text D c n (out_shared m o c)) (prefix_in o)
              ∙ ap (answer_text (state_in o).formula.prefix c n) (owed_out ∙ ap (λ (r : DayStepped). r.out) (sym stepped))

          visits : v ≡ made.visits
          visits = w ∙ ap (λ (a : Answer). a.visits) owed_out

          us : settled z.day.total z.day.used k v ≡ charged z.day.used (k - 1) made.visits
          us = ap (settled z.day.total z.day.used k) visits ∙ settled_within z.day k inside stands m made.visits share (visits_limited (state_in o) m c)

          ps : set z.day.places (k - 1) (some (state_in (read_at cells' literals'))) ≡ set z.day.places (k - 1) (some (step (state_in o) (limited m c)).state)
          ps = ap (λ (y : Read). set z.day.places (k - 1) (some y)) (ap state_in s.next ∙ next_in o (limited m c))

          cs : z' ≡ card_after (state_in o).formula.prefix c own.out.reply (shown_at z k)
          cs =
              e
              ∙ ap (λ (D : Prefix). card_after D c (out_shared m o c).reply (shown_at z k)) (prefix_in o)
              ∙ ap (λ (a : Answer). card_after (state_in o).formula.prefix c a.reply (shown_at z k)) owed_out

          left : changed_at z k v cells' literals' z' ≡ (answer_at (state_in o) z n k (call c)).left
          left =
              (λ i. record { day = record { total = z.day.total; used = us i; places = ps i }; shown = set z.shown (k - 1) (cs i) })
              ∙ ap (λ (r : DayStepped). record { day = r.day; shown = set z.shown (k - 1) (card_after (state_in o).formula.prefix c r.out.reply (shown_at z k)) }) (sym stepped)

-- ---- where the accounts do not stand, a call is 22
refused_22 : (D : Prefix) (c : Call) (n : ℕ) → answer_text D c n (answer (refusal 22 c) 0) ≡ refusal_text 22 n
unfolding answer_text
refused_22 D (rule ls) n = refl
refused_22 D (query m on off) n = refl
refused_22 D (card m size) n = refl
refused_22 D forget n = refl
refused_22 D withdraw n = refl
refused_22 D (keep_card m size) n = refl
refused_22 D (one ls) n = refl
refused_22 D (closest m size on off) n = refl

-- and a card that is refused is no card
abbrev card_22 : Kind → Option Card → Option Card
card_22 kind.Reads z = z
card_22 kind.Lists z = none
card_22 kind.Calls z = z

after_22 : (D : Prefix) (c : Call) (z : Option Card) → card_after D c (refusal 22 c) z ≡ card_22 (kind_call c) z
after_22 D (rule ls) z = refl
after_22 D (query m on off) z = refl
after_22 D (card m size) z = refl
after_22 D forget z = refl
after_22 D withdraw z = refl
after_22 D (keep_card m size) z = refl
after_22 D (one ls) z = refl
after_22 D (closest m size on off) z = refl

module _ (z : Served) (k n : ℕ) (x : Read) (here : book_at z.day k ≡ some x) (over : overspent z.day.total z.day.used ≡ true) (c : Call) where
  refused_step : day_step z.day (record { place = k; call = c }) ≡ record { day = z.day; out = answer (refusal 22 c) 0 }
  refused_step = step_refused z.day k x here c over

  pub over_text : refusal_text 22 n ≡ (answer_at x z n k (call c)).text
  over_text = sym (ap (λ (r : DayStepped). answer_text x.formula.prefix c n r.out) refused_step ∙ refused_22 x.formula.prefix c n)

  over_left : (answer_at x z n k (call c)).left ≡ record { day = z.day; shown = set z.shown (k - 1) (card_22 (kind_call c) (shown_at z k)) }
  over_left =
      ap (λ (r : DayStepped). record { day = r.day; shown = set z.shown (k - 1) (card_after x.formula.prefix c r.out.reply (shown_at z k)) }) refused_step
      ∙ ap (λ (q : Option Card). record { day = z.day; shown = set z.shown (k - 1) q }) (after_22 x.formula.prefix c (shown_at z k))

  pub over_lists : kind_call c ≡ kind.Lists → record { day = z.day; shown = set z.shown (k - 1) none } ≡ (answer_at x z n k (call c)).left
  over_lists e = sym (over_left ∙ ap (λ (q : Kind). record { day = z.day; shown = set z.shown (k - 1) (card_22 q (shown_at z k)) }) e)

  pub over_calls : kind_call c ≡ kind.Calls → z ≡ (answer_at x z n k (call c)).left
  over_calls e = sym (over_left ∙ ap (λ (q : Kind). record { day = z.day; shown = set z.shown (k - 1) (card_22 q (shown_at z k)) }) e ∙ ap (λ (l : List (Option Card)). record { day = z.day; shown = l }) (set-get_or z.shown (k - 1) none))
