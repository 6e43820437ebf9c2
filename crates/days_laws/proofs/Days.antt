-- Lists of calls at places: the accounts stand, other places stay, and each book answers as if alone under the limits that it had.
use Prim.Native.Nat.{ℕ, zero, suc, ◌+◌, ◌-◌, ◌≤◌, ◌<◌}
use native.Mathlib.Omega.{arith}
use mathlib.Core.Path.{◌≡◌, refl, sym, ap, ◌∙◌, subst}
use mathlib.Core.Bool.{Bool, true, false, cond}
use mathlib.Core.List.{List, [], ◌∷◌}
use mathlib.Core.Option.{Option, none, some}
use lib.ListN.{get_or, length-set, set}
use lib.Seq.{get_or-set_other, get_or-set_same}
use lib.Dec.{eqb, ltb}
use borrow.Author.Tests.{eqb-false, eqb-true, ltb-false}
use Rattle.qbf.specs.Formula.{Formula}
use Rattle.qbf.specs.Calls.{Answer, Call, State, answer, ceiling_of, next_formula, refusal, step}
use Rattle.qbf.specs.Runs.{after, learning_run, plain_call, plain_run}
use Rattle.qbf.specs.Demands.{Agrees}
use Rattle.theory.proofs.Basics.{or_false_left, or_false_right}
use Rattle.theory.proofs.Runs.{Reached, step_ok}
use Rattle.days.specs.Accounts.{books}
use Rattle.days.specs.Day.{Day, DayStepped, Placed, accounted, at_book, book_at, day_after, day_step, ledgered, limited, outside, share_at, under_share}
use Rattle.days.specs.Promises.{AllAlone, AllShared, AsAlone, Elsewhere, Shared, Sound, answers_at, calls_at, limited_at}
use Rattle.days_laws.proofs.Accounts.{charged_stands, not_overspent}
use Rattle.days_laws.proofs.Limited.{limited_formula, reply_alone, reply_shared, visits_limited}

-- ---- places
no_book : {x : State} → ◌≡◌ {A = Option State} none (some x) → ⊥
no_book e = subst code e tt
  where
    code : Option State → Type 0
    code none = Unit {0}
    code (some y) = ⊥

-- a place with a book is 1 to 8
pub inside : (d : Day) (i : ℕ) (x : State) → book_at d i ≡ some x → outside i ≡ false
inside d i x e = by (outside i) refl e
  where
    by : (o : Bool) → outside i ≡ o → cond o none (get_or d.places (i - 1) none) ≡ some x → outside i ≡ false
    by true q r = absurd (no_book r)
    by false q r = q

module _ (i : ℕ) (h : outside i ≡ false) where
  pub from_one : 1 ≤ i
  from_one = positive i (eqb-false i 0 (or_false_left (eqb i 0) (ltb books i) h))
    where
      positive : (n : ℕ) → (n ≡ 0 → ⊥) → 1 ≤ n
      positive zero z = absurd (z refl)
      positive (suc n) z = omega arith

  pub to_eight : i ≤ 8
  to_eight = ltb-false books i (or_false_right (eqb i 0) (ltb books i) h)

  pub below_eight : i - 1 < 8
  below_eight = omega (arith, from_one, to_eight)

-- the call at a place with a book goes to the book
pub at_book_lem : (d : Day) (p : Placed) (x : State) → Sound d → book_at d p.place ≡ some x → day_step d p ≡ under_share d (p.place - 1) (share_at d p.place) x p.call
at_book_lem d p x s e =
    ap (λ (o : Option State). at_book o d p.place p.call) e
    ∙ ap (λ (o : Bool). accounted o d p.place x p.call) ((not_overspent d.total d.used).1 s.stands)

-- a place without a book
pub at_none : (d : Day) (p : Placed) → book_at d p.place ≡ none → day_step d p ≡ record { day = d; out = answer (refusal 38 p.call) 0 }
at_none d p e = ap (λ (o : Option State). at_book o d p.place p.call) e

-- ---- the accounts
module _ (d : Day) (s : Sound d) (i : ℕ) (h : outside i ≡ false) (x : State) (a : Answer) where
  ledger_sound : a.visits ≤ share_at d i → Sound (ledgered d (i - 1) x a)
  ledger_sound le =
      record {
        stands = charged_stands d.total d.used (i - 1) a.visits (omega (arith, s.accounts, below_eight i h)) s.stands le;
        accounts = length-set d.used (i - 1) (get_or d.used (i - 1) 0 + a.visits) ∙ s.accounts;
        eight = length-set d.places (i - 1) (some x) ∙ s.eight;
      }

  -- the book's place, and another
  ledger_here : book_at (ledgered d (i - 1) x a) i ≡ some x
  ledger_here = ap (λ (o : Bool). cond o none (get_or (set d.places (i - 1) (some x)) (i - 1) none)) h ∙ get_or-set_same d.places (i - 1) (some x) none (omega (arith, s.eight, below_eight i h))

  ledger_other : (j : ℕ) → (j ≡ i → ⊥) → book_at (ledgered d (i - 1) x a) j ≡ book_at d j
  ledger_other j ne = by (outside j) refl
    where
      by : (o : Bool) → outside j ≡ o → cond o none (get_or (set d.places (i - 1) (some x)) (j - 1) none) ≡ cond o none (get_or d.places (j - 1) none)
      by true q = refl
      by false q = get_or-set_other d.places (i - 1) (j - 1) (some x) none (λ e. ne (omega (arith, e, from_one i h, from_one j q)))

  ledger_used : (j : ℕ) → outside j ≡ false → (j ≡ i → ⊥) → get_or (ledgered d (i - 1) x a).used (j - 1) 0 ≡ get_or d.used (j - 1) 0
  ledger_used j q ne = get_or-set_other d.used (i - 1) (j - 1) (get_or d.used (i - 1) 0 + a.visits) 0 (λ e. ne (omega (arith, e, from_one i h, from_one j q)))

-- ---- one call
module _ (d : Day) (s : Sound d) (p : Placed) where
  -- what holds of the day as it is, and with the place's book and account changed, holds of the day after the call
  day_by : (P : Day → Type 0) → P d → ((x : State) → outside p.place ≡ false → (y : State) (a : Answer) → a.visits ≤ share_at d p.place → P (ledgered d (p.place - 1) y a)) → P (day_step d p).day
  day_by P same changed = by (book_at d p.place) refl
    where
      by : (o : Option State) → book_at d p.place ≡ o → P (day_step d p).day
      by none e = subst (λ (r : DayStepped). P r.day) (sym (at_none d p e)) same
      by (some x) e =
          subst (λ (r : DayStepped). P r.day) (sym (at_book_lem d p x s e))
          (changed x (inside d p.place x e) (step x (limited (share_at d p.place) p.call)).state (step x (limited (share_at d p.place) p.call)).out (visits_limited x (share_at d p.place) p.call))

  pub step_sound : Sound (day_step d p).day
  step_sound = day_by Sound s (λ x h y a le. ledger_sound d s p.place h y a le)

  pub same_total : (day_step d p).day.total ≡ d.total
  same_total = day_by (λ e. e.total ≡ d.total) refl (λ x h y a le. refl)

  -- other places are untouched
  pub other_book : (j : ℕ) → (j ≡ p.place → ⊥) → book_at (day_step d p).day j ≡ book_at d j
  other_book j ne = day_by (λ e. book_at e j ≡ book_at d j) refl (λ x h y a le. ledger_other d s p.place h y a j ne)

  pub other_used : (j : ℕ) → outside j ≡ false → (j ≡ p.place → ⊥) → get_or (day_step d p).day.used (j - 1) 0 ≡ get_or d.used (j - 1) 0
  other_used j q ne = day_by (λ e. get_or e.used (j - 1) 0 ≡ get_or d.used (j - 1) 0) refl (λ x h y a le. ledger_used d s p.place h y a j q ne)

-- ---- lists of calls
pub after_sound : (d : Day) → Sound d → (ps : List Placed) → Sound (day_after d ps)
after_sound d s [] = s
after_sound d s (p ∷ ps) = after_sound (day_step d p).day (step_sound d s p) ps

pub after_total : (d : Day) → Sound d → (ps : List Placed) → (day_after d ps).total ≡ d.total
after_total d s [] = refl
after_total d s (p ∷ ps) = after_total (day_step d p).day (step_sound d s p) ps ∙ same_total d s p

pub elsewhere_book : (d : Day) → Sound d → (i : ℕ) (ps : List Placed) → Elsewhere i ps → book_at (day_after d ps) i ≡ book_at d i
elsewhere_book d s i [] e = refl
elsewhere_book d s i (p ∷ ps) e = elsewhere_book (day_step d p).day (step_sound d s p) i ps e.1 ∙ other_book d s p i e.0

pub elsewhere_used : (d : Day) → Sound d → (i : ℕ) → outside i ≡ false → (ps : List Placed) → Elsewhere i ps → get_or (day_after d ps).used (i - 1) 0 ≡ get_or d.used (i - 1) 0
elsewhere_used d s i q [] e = refl
elsewhere_used d s i q (p ∷ ps) e = elsewhere_used (day_step d p).day (step_sound d s p) i q ps e.1 ∙ other_used d s p i q e.0

-- ---- one book of a day
module _ (i : ℕ) where
  -- the call at i, with its limit
  abbrev own : Day → Placed → Call
  own d p = limited (share_at d i) p.call

  -- at this place
  pub here_step : (d : Day) → Sound d → (p : Placed) → p.place ≡ i → (x : State) → book_at d i ≡ some x → day_step d p ≡ under_share d (i - 1) (share_at d i) x p.call
  here_step d s p at x e = at_book_lem d p x s (ap (book_at d) at ∙ e) ∙ ap (λ (j : ℕ). under_share d (j - 1) (share_at d j) x p.call) at

  pub here_book : (d : Day) → Sound d → (p : Placed) → p.place ≡ i → (x : State) → book_at d i ≡ some x → book_at (day_step d p).day i ≡ some (step x (own d p)).state
  here_book d s p at x e =
      ap (λ (r : DayStepped). book_at r.day i) (here_step d s p at x e)
      ∙ ledger_here d s i (inside d i x e) (step x (own d p)).state (step x (own d p)).out

  away_book : (d : Day) → Sound d → (p : Placed) → eqb p.place i ≡ false → (x : State) → book_at d i ≡ some x → book_at (day_step d p).day i ≡ some x
  away_book d s p ne x e = other_book d s p i (λ q. eqb-false p.place i ne (sym q)) ∙ e

  -- the place's state after the list is that of the book alone after its own calls, with the limits that they had
  pub book_alone : (d : Day) → Sound d → (x : State) → book_at d i ≡ some x → (ps : List Placed) → book_at (day_after d ps) i ≡ some (after x (limited_at i d ps))
  book_alone d s x e [] = e
  book_alone d s x e (p ∷ ps) = by (eqb p.place i) refl (λ y q. book_alone (day_step d p).day (step_sound d s p) y q ps)
    where
      more : List Call
      more = limited_at i (day_step d p).day ps

      by : (o : Bool) → eqb p.place i ≡ o → ((y : State) → book_at (day_step d p).day i ≡ some y → book_at (day_after (day_step d p).day ps) i ≡ some (after y more))
          → book_at (day_after (day_step d p).day ps) i ≡ some (after x (cond o (own d p ∷ more) more))
      by true q ih = ih (step x (own d p)).state (here_book d s p (eqb-true p.place i q) x e)
      by false q ih = ih x (away_book d s p q x e)

  -- and so are its answers, but for 37
  pub answers_alone : (d : Day) → Sound d → (x : State) → book_at d i ≡ some x → (ps : List Placed) → AllAlone (answers_at i d ps) (learning_run x (limited_at i d ps))
  answers_alone d s x e [] = tt
  answers_alone d s x e (p ∷ ps) = by (eqb p.place i) refl (λ y q. answers_alone (day_step d p).day (step_sound d s p) y q ps)
    where
      more : List Call
      more = limited_at i (day_step d p).day ps

      rest : List Answer
      rest = answers_at i (day_step d p).day ps

      by : (o : Bool) → eqb p.place i ≡ o → ((y : State) → book_at (day_step d p).day i ≡ some y → AllAlone rest (learning_run y more))
          → AllAlone (cond o ((day_step d p).out ∷ rest) rest) (learning_run x (cond o (own d p ∷ more) more))
      by true q ih = (
        subst (λ (r : DayStepped). AsAlone r.out (step x (own d p)).out) (sym (here_step d s p (eqb-true p.place i q) x e)) (reply_alone (ceiling_of p.call) (share_at d i) (step x (own d p)).out),
        ih (step x (own d p)).state (here_book d s p (eqb-true p.place i q) x e),
      )
      by false q ih = ih x (away_book d s p q x e)

  -- "the promise over lists holds for each book's own calls": the plain run's calls are those given
  pub answers_shared : (d : Day) → Sound d → (x : State) → Reached x → book_at d i ≡ some x → (b : Formula) → x.formula ≡ b → (ps : List Placed)
      → AllShared (calls_at i ps) (answers_at i d ps) (plain_run b (calls_at i ps))
  answers_shared d s x h e b f [] = tt
  answers_shared d s x h e b f (p ∷ ps) = by (eqb p.place i) refl (λ y k q a g. answers_shared (day_step d p).day (step_sound d s p) y k q a g ps)
    where
      c : Call
      c = p.call

      m : ℕ
      m = share_at d i

      rest : List Answer
      rest = answers_at i (day_step d p).day ps

      agrees : Agrees (limited m c) (step x (limited m c)).out (plain_call b (limited m c))
      agrees = subst (λ (a : Formula). Agrees (limited m c) (step x (limited m c)).out (plain_call a (limited m c))) f (step_ok x h (limited m c)).agree

      by : (o : Bool) → eqb p.place i ≡ o
          → ((y : State) → Reached y → book_at (day_step d p).day i ≡ some y → (a : Formula) → y.formula ≡ a → AllShared (calls_at i ps) rest (plain_run a (calls_at i ps)))
          → AllShared (cond o (c ∷ calls_at i ps) (calls_at i ps)) (cond o ((day_step d p).out ∷ rest) rest) (plain_run b (cond o (c ∷ calls_at i ps) (calls_at i ps)))
      by true q ih = (
        subst (λ (r : DayStepped). Shared c r.out (plain_call b c)) (sym (here_step d s p (eqb-true p.place i q) x e)) (reply_shared m b c (step x (limited m c)).out agrees),
        ih (step x (limited m c)).state (step_ok x h (limited m c)).next (here_book d s p (eqb-true p.place i q) x e) (next_formula b c)
            ((step_ok x h (limited m c)).same_formula ∙ limited_formula m x.formula c ∙ ap (λ (a : Formula). next_formula a c) f),
      )
      by false q ih = ih x h (away_book d s p q x e) b f
