-- The wish as theorems, over every list of calls at places.
use Prim.Native.Nat.{ℕ, ◌-◌, ◌≤◌}
use native.Mathlib.Omega.{arith}
use mathlib.Core.Path.{◌≡◌, refl, ap, ◌∙◌}
use mathlib.Core.Bool.{true, false}
use mathlib.Core.List.{List}
use mathlib.Core.Option.{Option, none, some}
use lib.ListN.{get_or}
use Rattle.qbf.specs.Formula.{Formula}
use Rattle.qbf.specs.Card.{Mem}
use Rattle.qbf.specs.Calls.{Call, Reply, State, answer, ceiling_of, formula_is_ok, refusal, step}
use Rattle.qbf.specs.Runs.{after, fresh, learning_run, plain_run}
use Rattle.qbf.specs.Demands.{AllAgree, refusal_of}
use Rattle.theory.proofs.Runs.{fresh_reached}
use Rattle.theory.proofs.Demands.{demand_3}
use Rattle.days.specs.Accounts.{overspent, owed, owing, used}
use Rattle.days.specs.Day.{Day, DayStepped, Placed, book_at, day_after, day_step, fresh_in, limited, loaded, outside, share_at}
use Rattle.days.specs.Promises.{AllAlone, AllShared, DayLeaves, Elsewhere, Sound, answers_at, calls_at, limited_at}
use Rattle.days_laws.proofs.Accounts.{allowance_others, not_overspent}
use Rattle.days_laws.proofs.Limited.{limited_same, reply_own}
use Rattle.days_laws.proofs.Days.{after_sound, after_total, answers_alone, answers_shared, at_none, below_eight, book_alone, elsewhere_book, elsewhere_used, here_book, here_step, inside, other_book, other_used}
use Rattle.days_laws.proofs.Refused.{day_refusals, day_refuses}
use Rattle.days_laws.proofs.Loading.{loaded_book, loaded_sound}

-- ---- refusals, on any day
pub day_refused : (d : Day) (p : Placed) (n : ℕ) → refusal_of (day_step d p).out.reply ≡ some n → DayLeaves n d p (day_step d p)
day_refused d p n e = (day_refuses d p n e).leaves

pub day_refusal_known : (d : Day) (p : Placed) (n : ℕ) → refusal_of (day_step d p).out.reply ≡ some n → Mem n (day_refusals p.call)
day_refusal_known d p n e = (day_refuses d p n e).known

-- "a place without a book, or outside 1 to 8, is 38, before all else"
pub no_book_38 : (d : Day) (p : Placed) → book_at d p.place ≡ none → day_step d p ≡ record { day = d; out = answer (refusal 38 p.call) 0 }
no_book_38 = at_none

-- ---- a sound day: as loaded, or after any calls
module _ (d : Day) (s : Sound d) where
  pub stays_sound : (ps : List Placed) → Sound (day_after d ps)
  stays_sound = after_sound d s

  -- what a call may use, said otherwise: what is not used, less what is owed to the others
  pub share_others : (i : ℕ) → outside i ≡ false → share_at d i ≡ d.total - used d.used - (owing d.total d.used - owed d.total (get_or d.used (i - 1) 0))
  share_others i h = allowance_others d.total d.used (i - 1) (omega (arith, s.accounts, below_eight i h)) s.stands

  -- a call leaves the other places, with their books and accounts, as they are
  pub others_untouched : (p : Placed) (j : ℕ) → (j ≡ p.place → ⊥) → book_at (day_step d p).day j ≡ book_at d j
  others_untouched = other_book d s

  pub others_used : (p : Placed) (j : ℕ) → outside j ≡ false → (j ≡ p.place → ⊥) → get_or (day_step d p).day.used (j - 1) 0 ≡ get_or d.used (j - 1) 0
  others_used = other_used d s

  -- "A book that has used less than its floor can always use the rest, whichever calls the others make"
  module _ (i : ℕ) (x : State) (e : book_at d i ≡ some x) (ps : List Placed) (away : Elsewhere i ps) where
    pub floor_kept : owed d.total (get_or d.used (i - 1) 0) ≤ share_at (day_after d ps) i
    floor_kept =
        let u = elsewhere_used d s i (inside d i x e) ps away in
        let t = after_total d s ps in
        let o : owed (day_after d ps).total (get_or (day_after d ps).used (i - 1) 0) ≡ owed d.total (get_or d.used (i - 1) 0) =
        ap (λ (T : ℕ). owed T (get_or (day_after d ps).used (i - 1) 0)) t ∙ ap (owed d.total) u in
        omega (arith, o)

    -- and a call with a ceiling within that rest answers exactly as if alone, and leaves the book as if alone
    module _ (c : Call) (within : (k : ℕ) → ceiling_of c ≡ some k → k ≤ owed d.total (get_or d.used (i - 1) 0)) where
      abbrev m : ℕ
      m = share_at (day_after d ps) i

      abbrev at : Placed
      at = record { place = i; call = c }

      fits : (k : ℕ) → ceiling_of c ≡ some k → k ≤ m
      fits k q = omega (arith, within k q, floor_kept)

      stands : book_at (day_after d ps) i ≡ some x
      stands = elsewhere_book d s i ps away ∙ e

      pub rest_usable : (day_step (day_after d ps) at).out ≡ (step x c).out
      rest_usable =
          ap (λ (r : DayStepped). r.out) (here_step i (day_after d ps) (after_sound d s ps) at refl x stands)
          ∙ ap (λ (r : Reply). answer r (step x (limited m c)).out.visits) (reply_own (ceiling_of c) m fits (step x (limited m c)).out.reply)
          ∙ ap (λ (a : Call). (step x a).out) (limited_same m c fits)

      pub rest_leaves : book_at (day_step (day_after d ps) at).day i ≡ some (step x c).state
      rest_leaves = here_book i (day_after d ps) (after_sound d s ps) at refl x stands ∙ ap (λ (a : Call). some (step x a).state) (limited_same m c fits)

-- ---- a day as loaded, after any calls
module _ (T : ℕ) (bs : List (Option Formula)) (ps : List Placed) where
  abbrev day : Day
  day = day_after (loaded T bs) ps

  same_total : day.total ≡ T
  same_total = after_total (loaded T bs) (loaded_sound T bs) ps

  pub day_sound : Sound day
  day_sound = after_sound (loaded T bs) (loaded_sound T bs) ps

  -- "The sum used never exceeds T; refused calls' visits count."
  pub sum_within : used day.used ≤ T
  sum_within = omega (arith, day_sound.stands, same_total)

  -- so that no call of the list is refused with the day's 22
  pub never_overspent : overspent day.total day.used ≡ false
  never_overspent = (not_overspent day.total day.used).1 day_sound.stands

  -- ---- one of its books, at the place i
  module _ (i : ℕ) (h : outside i ≡ false) (b : Formula) (text : get_or bs (i - 1) none ≡ some b) where
    starts : book_at (loaded T bs) i ≡ some (fresh b)
    starts = loaded_book T bs i h ∙ ap fresh_in text

    -- its own calls, with the limits that they had: a list of calls of the book alone
    abbrev own : List Call
    own = limited_at i (loaded T bs) ps

    -- "Apart from that limit a book answers as if alone": the same state, and the same answers but for 37 in place of 34
    pub state_alone : book_at day i ≡ some (after (fresh b) own)
    state_alone = book_alone i (loaded T bs) (loaded_sound T bs) (fresh b) starts ps

    pub replies_alone : AllAlone (answers_at i (loaded T bs) ps) (learning_run (fresh b) own)
    replies_alone = answers_alone i (loaded T bs) (loaded_sound T bs) (fresh b) starts ps

    module _ (ok : formula_is_ok b ≡ true) where
      -- "and the promise over lists holds for each book's own calls": of that list
      pub demand_3_alone : AllAgree own (learning_run (fresh b) own) (plain_run b own)
      demand_3_alone = demand_3 b ok own

      -- and of the day's answers to the calls as they were given: each is the plain run's, or 34 at its own ceiling, or 37 below it
      pub demand_3_each : AllShared (calls_at i ps) (answers_at i (loaded T bs) ps) (plain_run b (calls_at i ps))
      demand_3_each = answers_shared i (loaded T bs) (loaded_sound T bs) (fresh b) (fresh_reached b ok) starts b refl ps
