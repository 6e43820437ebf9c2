-- What a day promises over every list of calls at places: the statements of the theorems in days_laws, proofs/Demands.antt.
use Rattle.std.specs.Prelude.{ℕ, ◌<◌, ◌≡◌, ◌⊎◌, cond, List, [], ◌∷◌, length, eqb}
use Rattle.std.proofs.Math.Option.{Option, none, some}
use Rattle.qbf.specs.Formula.{Formula}
use Rattle.qbf.specs.Calls.{Call, ceiling_of, Answer, refusal, State}
use Rattle.qbf.specs.Demands.{Agree, AfterSearch, refusal_of}
use Rattle.days.specs.Accounts.{books, Stands}
use Rattle.days.specs.Day.{Day, DayStepped, Placed, book_at, share_at, limited, stopped_as, day_step}

-- eight places with accounts that stand: a day as it is loaded, and after any calls
pub record Sound (d : Day) : Type 0 where
  pub stands : Stands d.total d.used
  pub accounts : length d.used ≡ books
  pub eight : length d.places ≡ books

-- ---- "each book's own calls": the calls of a list at the place i
-- as given
abbrev pub calls_at : ℕ → List Placed → List Call
calls_at i [] = []
calls_at i (p ∷ ps) = cond (eqb p.place i) (p.call ∷ calls_at i ps) (calls_at i ps)

-- with the limits that they had
abbrev pub limited_at : ℕ → Day → List Placed → List Call
limited_at i d [] = []
limited_at i d (p ∷ ps) = cond (eqb p.place i) (limited (share_at d i) p.call ∷ limited_at i (day_step d p).day ps) (limited_at i (day_step d p).day ps)

-- and their answers in the day's run
abbrev pub answers_at : ℕ → Day → List Placed → List Answer
answers_at i d [] = []
answers_at i d (p ∷ ps) = cond (eqb p.place i) ((day_step d p).out ∷ answers_at i (day_step d p).day ps) (answers_at i (day_step d p).day ps)

-- "Apart from that limit a book answers as if alone": l is the day's answer, a that of the book alone to the call with the limit that it had
pub record AsAlone (l a : Answer) : Type 0 where
  pub visits : l.visits ≡ a.visits
  pub reply : (l.reply ≡ a.reply) ⊎ ((refusal_of a.reply ≡ some 34) × (l.reply ≡ stopped_as 37 a.reply))

abbrev pub AllAlone : List Answer → List Answer → Type 0
AllAlone [] [] = Unit {0}
AllAlone [] (a ∷ os) = ⊥
AllAlone (l ∷ ls) [] = ⊥
AllAlone (l ∷ ls) (a ∷ os) = AsAlone l a × AllAlone ls os

-- ---- "and the promise over lists holds for each book's own calls": c is the call as given, l the day's answer, p the plain run's
-- "A walk stopped by the shared total returns 37 where its own ceiling is higher, otherwise 34 .. with the visits made"
pub record SharedStop (c : Call) (l p : Answer) : Type 0 where
  pub own : ℕ
  pub ceiling : ceiling_of c ≡ some own
  pub reply : ((l.reply ≡ refusal 34 c) × (l.visits ≡ own)) ⊎ ((l.reply ≡ refusal 37 c) × (l.visits < own))
  pub needed : l.visits < p.visits

abbrev pub Shared : Call → Answer → Answer → Type 0
Shared c l p = Agree l p ⊎ SharedStop c l p

abbrev pub AllShared : List Call → List Answer → List Answer → Type 0
AllShared [] [] [] = Unit {0}
AllShared [] [] (p ∷ ps) = ⊥
AllShared [] (l ∷ ls) ps = ⊥
AllShared (c ∷ cs) [] ps = ⊥
AllShared (c ∷ cs) (l ∷ ls) [] = ⊥
AllShared (c ∷ cs) (l ∷ ls) (p ∷ ps) = Shared c l p × AllShared cs ls ps

-- no call of a list is at the place i
abbrev pub Elsewhere : ℕ → List Placed → Type 0
Elsewhere i [] = Unit {0}
Elsewhere i (p ∷ ps) = (i ≡ p.place → ⊥) × Elsewhere i ps

-- ---- refusals
abbrev pub formula_in : Option State → Option Formula
formula_in none = none
formula_in (some x) = some x.formula

-- what a refused call at a place leaves: no book's declarations and rules change; "both leave what 34 leaves, with the visits made", the
-- smaller of its ceiling and its share; and every other refusal but 21 and 35 leaves the day as it was, with no visit
pub record DayLeaves (n : ℕ) (d : Day) (p : Placed) (r : DayStepped) : Type 0 where
  pub formulas : (j : ℕ) → formula_in (book_at r.day j) ≡ formula_in (book_at d j)
  pub day : (AfterSearch n → ⊥) → (n ≡ 37 → ⊥) → r.day ≡ d
  pub visits : (AfterSearch n → ⊥) → (n ≡ 37 → ⊥) → r.out.visits ≡ 0
  pub stopped : (n ≡ 34) ⊎ (n ≡ 37) → ceiling_of (limited (share_at d p.place) p.call) ≡ some r.out.visits
