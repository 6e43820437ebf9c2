-- "Apart from that limit a book answers as if alone": at a place whose share is no less than a call's own ceiling, the text of its answer is a session's.
use Prim.Native.Nat.{ℕ, ◌-◌, ◌≤◌}
use mathlib.Core.Path.{◌≡◌, refl, ap, ◌∙◌}
use mathlib.Core.Bool.{Bool, false, cond}
use mathlib.Core.Option.{Option, none, some}
use Rattle.qbf.specs.Formula.{Prefix}
use lib.Dec.{eqb}
use Rattle.qbf.specs.Formula.{any}
use Rattle.qbf.specs.Demands.{refusal_of}
use Rattle.theory.proofs.Basics.{any_false→}
use Rattle.theory.proofs.Refusals.{refusals, refused_known}
use Rattle.qbf.specs.Calls.{rule, query, card, keep_card, forget, withdraw, one, closest, done, refused, swap, keep, unsettled, lines, card_refused, found, Call, ceiling_of, Reply, Answer, answer, State, step}
use Rattle.layout.specs.Output.{overflow_text}
use Rattle.layout.specs.Session.{answer_text}
use Rattle.sessions.specs.Session.{card_after, call, write, page, turn_of}
use Rattle.days.specs.Day.{DayStepped, book_at, share_at, limited, day_step}
use Rattle.days.specs.Promises.{Sound}
use native.Mathlib.Omega.{arith}
use lib.ListN.{length}
use lib.Seq.{get_or-set_same}
use Rattle.days.specs.Accounts.{books}
use Rattle.days_laws.proofs.Days.{inside, below_eight, here_step, here_book}
use Rattle.days_laws.proofs.Limited.{limited_same, reply_own}
use Rattle.day_text.specs.Program.{Served, shown_at, answer_at}

module _ (z : Served) (s : Sound z.day) (k : ℕ) (x : State) (e : book_at z.day k ≡ some x) (n : ℕ) where
  module _ (c : Call) (fits : (i : ℕ) → ceiling_of c ≡ some i → i ≤ share_at z.day k) where
    abbrev m : ℕ
    m = share_at z.day k

    -- the answer is the book's own
    pub same_out : (day_step z.day (record { place = k; call = c })).out ≡ (step x c).out
    same_out =
        ap (λ (r : DayStepped). r.out) (here_step k z.day s (record { place = k; call = c }) refl x e)
        ∙ ap (λ (r : Reply). answer r (step x (limited m c)).out.visits) (reply_own (ceiling_of c) m fits (step x (limited m c)).out.reply)
        ∙ ap (λ (a : Call). (step x a).out) (limited_same m c fits)

    -- and so is the state that it leaves
    pub same_state : book_at (day_step z.day (record { place = k; call = c })).day k ≡ some (step x c).state
    same_state = here_book k z.day s (record { place = k; call = c }) refl x e ∙ ap (λ (a : Call). some (step x a).state) (limited_same m c fits)

    -- its text is the session's, on that state and with the card that this place has shown
    pub call_alone : (answer_at x z n k (call c)).text ≡ (turn_of x (shown_at z k) n (some (call c))).text
    call_alone = ap (answer_text x.formula.prefix c n) same_out

    -- and the card that is shown there is then the session's
    pub same_shown : length z.shown ≡ books → shown_at (answer_at x z n k (call c)).left k ≡ (turn_of x (shown_at z k) n (some (call c))).shown
    same_shown eight =
        get_or-set_same z.shown (k - 1) _ none (omega (arith, eight, below_eight k (inside z.day k x e)))
        ∙ ap (λ (a : Answer). card_after x.formula.prefix c a.reply (shown_at z k)) same_out

  -- the book's text and its pages are the session's in any case
  pub write_alone : (size : Option ℕ) → (answer_at x z n k (write size)).text ≡ (turn_of x (shown_at z k) n (some (write size))).text
  write_alone size = refl

  pub page_alone : (p : ℕ) → (answer_at x z n k (page p)).text ≡ (turn_of x (shown_at z k) n (some (page p))).text
  page_alone p = refl
