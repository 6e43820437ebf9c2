-- With n places left a search, learning or plain, makes fewer than 2 ^ (n + 1) visits, on any state.
use Prim.Native.Nat.{ℕ, suc, ◌+◌, ◌^◌, ◌<◌}
use native.Mathlib.Omega.{arith}
use mathlib.Core.Path.{◌≡◌, refl}
use mathlib.Core.Bool.{Bool, true, false}
use mathlib.Core.List.{List, [], ◌∷◌}
use mathlib.Core.Option.{Option, none, some}
use lib.ListN.{length}
use lib.Dec.{eqb, leb}
use Rattle.qbf.specs.Formula.{Clause, Limits, Node, Prefix, Quantifier, ◌▹◌, all, any, dead, exists, forall, free, satisfied}
use Rattle.qbf.specs.Truth.{Outcome, decided, mixed}
use Rattle.qbf.specs.Plain.{PlainResult, plain_after_off, plain_branch, plain_search, plain_settle, plain_visit, stops}
use Rattle.qbf.specs.Open.{Reading, enter, open_search}
use Rattle.qbf.specs.Learning.{Constraint, LearningResult, Next, Store, after_off, below, goes_up, leaf, learning_search, onward, proceed, raise, settle, up, up_or_onward, visit}
use Rattle.theory.proofs.Visits.{on_visits}

module _ (L : Limits) (D : Prefix) (R : List Clause) where
  -- what is done after an off side of n visits adds one, and the on side's visits if that is visited
  abbrev pub Counts : ℕ → Next → Type 0
  Counts n (up r) = r.visits ≡ suc n
  Counts n (onward k) = (q : LearningResult) → (k q).visits ≡ suc (n + q.visits)

  pub counts : (κ : Quantifier) (s : Node) (o : Outcome Constraint) (st : Store) (n : ℕ) → Counts n (after_off L D R κ s o st n)
  counts κ s (mixed ls) st n = λ q. refl
  counts κ s (decided b A) st n = by (goes_up D κ (suc (length s)) b A)
    where
      by : (x : Bool) → Counts n (up_or_onward L D R x κ s b A st n)
      by true = refl
      by false = λ q. on_visits L D R κ s b A q.outcome q.store (suc (n + q.visits))

  went_bound : (m n : ℕ) (o : Next) → Counts m o → (g : Store → LearningResult) (st : Store) → m < 2 ^ n → (g st).visits < 2 ^ n → (proceed o g st).visits < 2 ^ suc n
  went_bound m n (up r) c g st h k = omega (arith, c, h)
  went_bound m n (onward f) c g st h k = omega (arith, c (g st), h, k)

  visit_bound : (eligible : ℕ → ℕ → Bool) (next : Node → Store → LearningResult) (n : ℕ) (s : Node) (st : Store) → (next s st).visits < 2 ^ suc n → (visit D R eligible next s st).visits < 2 ^ suc n
  visit_bound eligible next n s st h = by (leaf D R eligible s st)
    where
      by : (o : Option (Outcome Constraint)) → (settle o next s st).visits < 2 ^ suc n
      by none = h
      by (some o) = omega (arith, h)

  below_bound : (ks : List Quantifier) (s : Node) (st : Store) → (below L D R ks s st).visits < 2 ^ suc (length ks)
  below_bound [] s st = omega arith
  below_bound (κ ∷ ks) s st =
      went_bound (f (s ▹ false) st).visits (suc (length ks)) (after_off L D R κ s (f (s ▹ false) st).outcome (f (s ▹ false) st).store (f (s ▹ false) st).visits)
      (counts κ s (f (s ▹ false) st).outcome (f (s ▹ false) st).store (f (s ▹ false) st).visits) (f (s ▹ true)) (f (s ▹ false) st).store
      (visit_bound eqb (below L D R ks) (length ks) (s ▹ false) st (below_bound ks (s ▹ false) st))
      (visit_bound eqb (below L D R ks) (length ks) (s ▹ true) (f (s ▹ false) st).store (below_bound ks (s ▹ true) (f (s ▹ false) st).store))
    where
      f : Node → Store → LearningResult
      f t st' = raise D (visit D R eqb (below L D R ks) t st')

  pub search_bound : (ks : List Quantifier) (s : Node) (st : Store) → (learning_search L D R ks s st).visits < 2 ^ suc (length ks)
  search_bound ks s st = visit_bound leb (below L D R ks) (length ks) s st (below_bound ks s st)

-- ---- the plain search
module _ (D : Prefix) (R : List Clause) where
  plain_visit_bound : (next : Node → PlainResult) (n : ℕ) (s : Node) → (next s).visits < 2 ^ suc n → (plain_visit D R next s).visits < 2 ^ suc n
  plain_visit_bound next n s h = by (any (dead D s) R) (all (satisfied D s) R)
    where
      by : (x y : Bool) → (plain_settle x y next s).visits < 2 ^ suc n
      by true y = omega (arith, h)
      by false true = omega (arith, h)
      by false false = h

  pub plain_bound : (ks : List Quantifier) (s : Node) → (plain_search D R ks s).visits < 2 ^ suc (length ks)
  plain_bound [] s = plain_visit_bound (λ t. record { outcome = decided false tt; visits = 1 }) 0 s (omega arith)
  plain_bound (κ ∷ ks) s =
      plain_visit_bound (plain_branch κ f) (suc (length ks)) s
      (by (stops κ (f (s ▹ false)).outcome) (f (s ▹ false)).outcome (f (s ▹ false)).visits (plain_bound ks (s ▹ false)) (plain_bound ks (s ▹ true)))
    where
      f : Node → PlainResult
      f = plain_search D R ks

      by : (x : Bool) (o : Outcome (Unit {0})) (m : ℕ) → m < 2 ^ suc (length ks) → (f (s ▹ true)).visits < 2 ^ suc (length ks) → (plain_after_off x κ f s o m).visits < 2 ^ suc (suc (length ks))
      by true o m h k = omega (arith, h)
      by false o m h k = omega (arith, h, k)

  -- a reading with open flags
  pub open_bound : (os : Reading) (ks : List Quantifier) (s : Node) → (open_search D R os ks s).visits < 2 ^ suc (length ks)
  open_bound [] ks s = plain_bound ks s
  open_bound (o ∷ os) [] s = plain_bound [] s
  open_bound (o ∷ os) (exists ∷ ks) s = plain_bound (exists ∷ ks) s
  open_bound (o ∷ os) (forall ∷ ks) s = plain_bound (forall ∷ ks) s
  open_bound (o ∷ os) (free ∷ ks) s = plain_visit_bound (enter o f) (suc (length ks)) s (by o (open_bound os ks (s ▹ false)) (open_bound os ks (s ▹ true)))
    where
      f : Node → PlainResult
      f = open_search D R os ks

      turn : (x : Bool) (a : Outcome (Unit {0})) (m : ℕ) → m < 2 ^ suc (length ks) → (f (s ▹ true)).visits < 2 ^ suc (length ks) → (plain_after_off x free f s a m).visits < 2 ^ suc (suc (length ks))
      turn true a m h k = omega (arith, h)
      turn false a m h k = omega (arith, h, k)

      by : (o : Option Bool) → (f (s ▹ false)).visits < 2 ^ suc (length ks) → (f (s ▹ true)).visits < 2 ^ suc (length ks) → (enter o f s).visits < 2 ^ suc (suc (length ks))
      by none h k = turn (stops free (f (s ▹ false)).outcome) (f (s ▹ false)).outcome (f (s ▹ false)).visits h k
      by (some false) h k = omega (arith, h)
      by (some true) h k = omega (arith, k)
