-- The wish over every list of calls at places that were served.
use Prim.Native.Nat.{ℕ, ◌-◌, ◌≤◌}
use mathlib.Core.Bool.{Bool, true, false, cond}
use mathlib.Core.Path.{◌≡◌, refl, sym, ap, ◌∙◌, subst}
use mathlib.Core.List.{List, [], ◌∷◌, map}
use mathlib.Core.Option.{Option, some, none}
use lib.Dec.{eqb}
use lib.ListN.{get_or}
use Rattle.qbf.specs.Formula.{Formula}
use Rattle.qbf.specs.Calls.{Answer, Call, State as Read, formula_is_ok}
use Rattle.qbf.specs.Runs.{after, fresh, learning_run, plain_run}
use Rattle.serving.specs.Serves.{Said, said_of}
use Rattle.days.specs.Accounts.{overspent, owed, used}
use Rattle.days.specs.Day.{Day, Placed, book_at, day_after, day_run, day_step, loaded, outside, share_at}
use Rattle.days.specs.Promises.{AllAlone, AllShared, Elsewhere, Sound, answers_at, calls_at, limited_at}
use Rattle.days_laws.proofs.Demands.{day_sound, demand_3_each, floor_kept, never_overspent, replies_alone, state_alone, sum_within}
use Rattle.serving_days.specs.Serves.{Held, ServedDay, day_of}

-- what was answered to the calls at one place
abbrev pub said_at_place : ℕ → List Placed → List Said → List Said
said_at_place i [] qs = []
said_at_place i (p ∷ ps) [] = []
said_at_place i (p ∷ ps) (a ∷ qs) = cond (eqb p.place i) (a ∷ said_at_place i ps qs) (said_at_place i ps qs)

module _ {S : Type 0} (read : S → Option Read) where
  -- the answers are those of the definitions' day, and so is the day that is left: every theorem about days is one about the code's
  pub served_run : (h : Held S) (ps : List Placed) (qs : List Said) (h' : Held S) → ServedDay read h ps qs h' → qs ≡ map said_of (day_run (day_of read h) ps)
  served_run h [] [] h' s = refl
  served_run h [] (a ∷ qs) h' s = absurd s
  served_run h (p ∷ ps) [] h' s = absurd s
  served_run h (p ∷ ps) (a ∷ qs) h' (k, v, s) =
      ap (λ (b : Said). b ∷ qs) v.answered
      ∙ ap (λ (t : List Said). said_of ((day_step (day_of read h) p).out) ∷ t) (served_run k ps qs h' s ∙ ap (λ (d : Day). map said_of (day_run d ps)) v.next)

  pub served_after : (h : Held S) (ps : List Placed) (qs : List Said) (h' : Held S) → ServedDay read h ps qs h' → day_of read h' ≡ day_after (day_of read h) ps
  served_after h [] [] h' s = ap (day_of read) s
  served_after h [] (a ∷ qs) h' s = absurd s
  served_after h (p ∷ ps) [] h' s = absurd s
  served_after h (p ∷ ps) (a ∷ qs) h' (k, v, s) = served_after k ps qs h' s ∙ ap (λ (d : Day). day_after d ps) v.next

  -- the answers at one place
  pub served_answers : (i : ℕ) (h : Held S) (ps : List Placed) (qs : List Said) (h' : Held S) → ServedDay read h ps qs h' → said_at_place i ps qs ≡ map said_of (answers_at i (day_of read h) ps)
  served_answers i h [] [] h' s = refl
  served_answers i h [] (a ∷ qs) h' s = absurd s
  served_answers i h (p ∷ ps) [] h' s = absurd s
  served_answers i h (p ∷ ps) (a ∷ qs) h' (k, v, s) = by (eqb p.place i) (served_answers i k ps qs h' s ∙ ap (λ (x : Day). map said_of (answers_at i x ps)) v.next)
    where
      later : List Answer
      later = answers_at i (day_step (day_of read h) p).day ps

      by : (o : Bool) → said_at_place i ps qs ≡ map said_of later → cond o (a ∷ said_at_place i ps qs) (said_at_place i ps qs) ≡ map said_of (cond o ((day_step (day_of read h) p).out ∷ later) later)
      by true rest = ap (λ (b : Said). b ∷ said_at_place i ps qs) v.answered ∙ ap (λ (l : List Said). said_of (day_step (day_of read h) p).out ∷ l) rest
      by false rest = rest

  -- "The sum used never exceeds T; refused calls' visits count."
  pub sum_served : (T : ℕ) (bs : List (Option Formula)) (h : Held S) → day_of read h ≡ loaded T bs → (ps : List Placed) (qs : List Said) (h' : Held S) → ServedDay read h ps qs h' → used h'.used ≤ T
  sum_served T bs h e ps qs h' s =
      let d : day_of read h' ≡ day_after (loaded T bs) ps = served_after h ps qs h' s ∙ ap (λ (x : Day). day_after x ps) e in
      subst (λ (x : Day). used x.used ≤ T) (sym d) (sum_within T bs ps)

  -- ---- a day as it was loaded, after any calls that were served
  module _ (T : ℕ) (bs : List (Option Formula)) (h : Held S) (e : day_of read h ≡ loaded T bs) (ps : List Placed) (qs : List Said) (h' : Held S) (s : ServedDay read h ps qs h') where
    day_left : day_of read h' ≡ day_after (loaded T bs) ps
    day_left = served_after h ps qs h' s ∙ ap (λ (x : Day). day_after x ps) e

    sound_left : Sound (day_of read h')
    sound_left = subst Sound (sym day_left) (day_sound T bs ps)

    -- so that no call of the list is refused with the day's 22
    pub never_overspent_served : overspent h'.total h'.used ≡ false
    never_overspent_served = ap (λ (x : Day). overspent x.total x.used) day_left ∙ never_overspent T bs ps

    -- "A book that has used less than its floor can always use the rest, whichever calls the others make"
    pub floor_served : (i : ℕ) (x : Read) → book_at (day_of read h') i ≡ some x → (others : List Placed) → Elsewhere i others → (more : List Said) (k : Held S) → ServedDay read h' others more k
        → owed h'.total (get_or h'.used (i - 1) 0) ≤ share_at (day_of read k) i
    floor_served i x b others away more k v =
        subst (λ (d : Day). owed h'.total (get_or h'.used (i - 1) 0) ≤ share_at d i) (sym (served_after h' others more k v)) (floor_kept (day_of read h') sound_left i x b others away)

    module _ (i : ℕ) (inside : outside i ≡ false) (b : Formula) (text : get_or bs (i - 1) none ≡ some b) where
      -- the book's own calls, with the limits that they had
      abbrev own : List Call
      own = limited_at i (loaded T bs) ps

      -- "Apart from that limit a book answers as if alone": its state is that of the book by itself after these calls
      pub state_served : book_at (day_of read h') i ≡ some (after (fresh b) own)
      state_served = ap (λ (x : Day). book_at x i) day_left ∙ state_alone T bs ps i inside b text

      -- its answers are the definitions', which are those of the book by itself but for 37 in place of 34
      pub answers_served : said_at_place i ps qs ≡ map said_of (answers_at i (loaded T bs) ps)
      answers_served = served_answers i h ps qs h' s ∙ ap (λ (x : Day). map said_of (answers_at i x ps)) e

      pub alone_served : AllAlone (answers_at i (loaded T bs) ps) (learning_run (fresh b) own)
      alone_served = replies_alone T bs ps i inside b text

      -- "and the promise over lists holds for each book's own calls"
      pub shared_served : formula_is_ok b ≡ true → AllShared (calls_at i ps) (answers_at i (loaded T bs) ps) (plain_run b (calls_at i ps))
      shared_served ok = demand_3_each T bs ps i inside b text ok
