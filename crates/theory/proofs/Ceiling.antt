-- The search under a ceiling is the full search where that fits, and else stops, with a store that has what every store on the way has.
use Prim.Native.Nat.{ℕ, zero, suc, ◌-◌, ◌≤◌, ◌<◌, suc-le-suc, zero-le}
use native.Mathlib.Nat.{le_refl}
use native.Mathlib.Omega.{arith}
use mathlib.Core.Path.{◌≡◌, refl, sym, ap, subst}
use mathlib.Core.Logic.{◌⊎◌, inl, inr}
use mathlib.Core.Bool.{Bool, true, false}
use mathlib.Core.List.{List, [], ◌∷◌}
use mathlib.Core.Option.{Option, none, some}
use lib.Dec.{eqb, leb}
use Rattle.qbf.specs.Formula.{Clause, Limits, Node, Prefix, Quantifier, ◌▹◌}
use Rattle.qbf.specs.Truth.{Outcome, outline}
use Rattle.qbf.specs.Learning.{Constraint, LearningResult, Next, Store, after_off, below, branch, leaf, learning_search, onward, proceed, raise, settle, up, visit}
use Rattle.qbf.specs.Ceiling.{Attempt, and_then, below_within, branch_within, finished, proceed_within, search_within, settle_within, stopped, visit_within}
use Rattle.qbf.specs.Calls.{Reply, attempt_answer}
use Rattle.theory.proofs.Bound.{Counts, counts}

-- a search of at most n visits, against the full one; a store at which it stops has S
abbrev pub Within : (Store → Type 0) → ℕ → LearningResult → Attempt → Type 0
Within S n r (finished q) = (q ≡ r) × (r.visits ≤ n)
Within S n r (stopped st) = (n < r.visits) × S st

-- nothing is asked of the store
abbrev pub Any : Store → Type 0
Any st = Unit {0}

module _ (L : Limits) (D : Prefix) (R : List Clause) where
  proceed_more : (m : ℕ) (o : Next) → Counts L D R m o → (g : Store → LearningResult) (st : Store) → suc m ≤ (proceed o g st).visits
  proceed_more m (up r) c g st = omega (arith, c)
  proceed_more m (onward k) c g st = omega (arith, c (g st))

  -- what a visit goes on to makes a visit at least, as the visit counts one
  pub below_one : (ks : List Quantifier) (s : Node) (st : Store) → 1 ≤ (below L D R ks s st).visits
  below_one [] s st = le_refl 1
  below_one (κ ∷ ks) s st =
      omega (arith, proceed_more r.visits (after_off L D R κ s r.outcome r.store r.visits) (counts L D R κ s r.outcome r.store r.visits) (f (s ▹ true)) r.store)
    where
      f : Node → Store → LearningResult
      f t st' = raise D (visit D R eqb (below L D R ks) t st')

      r : LearningResult
      r = f (s ▹ false) st

  visit_one : (eligible : ℕ → ℕ → Bool) (next : Node → Store → LearningResult) (s : Node) (st : Store) → 1 ≤ (next s st).visits → 1 ≤ (visit D R eligible next s st).visits
  visit_one eligible next s st h = by (leaf D R eligible s st)
    where
      by : (o : Option (Outcome Constraint)) → 1 ≤ (settle o next s st).visits
      by none = h
      by (some o) = le_refl 1

  module _ (S : Store → Type 0) where
    proceed_within_lem : (m n : ℕ) (o : Next) → Counts L D R m o → m ≤ n → (g : Store → LearningResult) (h : ℕ → Store → Attempt) (st : Store) → Within S (n - m) (g st) (h (n - m) st)
        → Within S (suc n) (proceed o g st) (proceed_within o h (n - m) st)
    proceed_within_lem m n (up r) c le g h st w = (refl, omega (arith, c, le))
    proceed_within_lem m n (onward k) c le g h st w = by (h (n - m) st) w
      where
        by : (t : Attempt) → Within S (n - m) (g st) t → Within S (suc n) (k (g st)) (and_then t (λ r. finished (k r)))
        by (finished q) v = (ap k v.0, omega (arith, c (g st), v.1, le))
        by (stopped z) v = (omega (arith, c (g st), v.0, le), v.1)

    branch_within_lem : (κ : Quantifier) (f : Node → Store → LearningResult) (h : ℕ → Node → Store → Attempt) (n : ℕ) (s : Node) (st : Store) → Within S n (f (s ▹ false) st) (h n (s ▹ false) st)
        → ((m : ℕ) → Within S m (f (s ▹ true) (f (s ▹ false) st).store) (h m (s ▹ true) (f (s ▹ false) st).store))
        → Within S (suc n) (branch L D R κ f s st) (branch_within L D R κ h n s st)
    branch_within_lem κ f h n s st a b = by (h n (s ▹ false) st) a
      where
        r : LearningResult
        r = f (s ▹ false) st

        o : Next
        o = after_off L D R κ s r.outcome r.store r.visits

        adds : Counts L D R r.visits o
        adds = counts L D R κ s r.outcome r.store r.visits

        onwards : LearningResult → Attempt
        onwards q = proceed_within (after_off L D R κ s q.outcome q.store q.visits) (λ m. h m (s ▹ true)) (n - q.visits) q.store

        by : (t : Attempt) → Within S n r t → Within S (suc n) (proceed o (f (s ▹ true)) r.store) (and_then t onwards)
        by (finished q) v =
            subst (λ (x : LearningResult). Within S (suc n) (proceed o (f (s ▹ true)) r.store) (onwards x)) (sym v.0)
            (proceed_within_lem r.visits n o adds v.1 (f (s ▹ true)) (λ m. h m (s ▹ true)) r.store (b (n - r.visits)))
        by (stopped z) v = (omega (arith, v.0, proceed_more r.visits o adds (f (s ▹ true)) r.store), v.1)

    raise_within : (n : ℕ) (r : LearningResult) (t : Attempt) → Within S n r t → Within S n (raise D r) (and_then t (λ q. finished (raise D q)))
    raise_within n r (finished q) w = (ap (raise D) w.0, w.1)
    raise_within n r (stopped st) w = w

    visit_within_lem : (eligible : ℕ → ℕ → Bool) (next : Node → Store → LearningResult) (more : ℕ → Node → Store → Attempt) (n : ℕ) (s : Node) (st : Store) → S st → 1 ≤ (next s st).visits
        → ((m : ℕ) → Within S (suc m) (next s st) (more m s st)) → Within S n (visit D R eligible next s st) (visit_within D R eligible more n s st)
    visit_within_lem eligible next more zero s st h one go = (visit_one eligible next s st one, h)
    visit_within_lem eligible next more (suc n) s st h one go = by (leaf D R eligible s st)
      where
        by : (o : Option (Outcome Constraint)) → Within S (suc n) (settle o next s st) (settle_within o more n s st)
        by none = go n
        by (some o) = (refl, suc-le-suc zero-le)

    -- what is known of the nodes, and that a side's visit keeps S
    module _ (N : List Quantifier → Node → Type 0) (side : (κ : Quantifier) (ks : List Quantifier) (s : Node) (b : Bool) → N (κ ∷ ks) s → N ks (s ▹ b))
        (keeps : (ks : List Quantifier) (s : Node) (st : Store) → N ks s → S st → S (visit D R eqb (below L D R ks) s st).store) where
      below_within_lem : (ks : List Quantifier) (n : ℕ) (s : Node) (st : Store) → N ks s → S st → Within S (suc n) (below L D R ks s st) (below_within L D R ks n s st)
      below_within_lem [] n s st k h = (refl, suc-le-suc zero-le)
      below_within_lem (κ ∷ ks) n s st k h =
          branch_within_lem κ f (λ m t st'. and_then (visit_within D R eqb (below_within L D R ks) m t st') (λ q. finished (raise D q))) n s st
          (at n false st h (λ m. below_within_lem ks m (s ▹ false) st (side κ ks s false k) h))
          (λ m. at m true (f (s ▹ false) st).store kept (λ j. below_within_lem ks j (s ▹ true) (f (s ▹ false) st).store (side κ ks s true k) kept))
        where
          f : Node → Store → LearningResult
          f t st' = raise D (visit D R eqb (below L D R ks) t st')

          kept : S (f (s ▹ false) st).store
          kept = keeps ks (s ▹ false) st (side κ ks s false k) h

          at : (m : ℕ) (c : Bool) (st' : Store) → S st' → ((j : ℕ) → Within S (suc j) (below L D R ks (s ▹ c) st') (below_within L D R ks j (s ▹ c) st'))
              → Within S m (f (s ▹ c) st') (and_then (visit_within D R eqb (below_within L D R ks) m (s ▹ c) st') (λ q. finished (raise D q)))
          at m c st' h' go =
              raise_within m (visit D R eqb (below L D R ks) (s ▹ c) st') (visit_within D R eqb (below_within L D R ks) m (s ▹ c) st')
              (visit_within_lem eqb (below L D R ks) (below_within L D R ks) m (s ▹ c) st' h' (below_one ks (s ▹ c) st') go)

      pub search_within_lem : (n : ℕ) (ks : List Quantifier) (s : Node) (st : Store) → N ks s → S st → Within S n (learning_search L D R ks s st) (search_within L D R n ks s st)
      search_within_lem n ks s st k h = visit_within_lem leb (below L D R ks) (below_within L D R ks) n s st h (below_one ks s st) (λ m. below_within_lem ks m s st k h)

  -- ---- on any store: "It stops only when the call's full walk would need more."
  pub visit_within_any : (eligible : ℕ → ℕ → Bool) (n : ℕ) (ks : List Quantifier) (s : Node) (st : Store)
      → Within Any n (visit D R eligible (below L D R ks) s st) (visit_within D R eligible (below_within L D R ks) n s st)
  visit_within_any eligible n ks s st =
      visit_within_lem Any eligible (below L D R ks) (below_within L D R ks) n s st tt (below_one ks s st)
      (λ m. below_within_lem Any (λ qs t. Unit {0}) (λ κ qs t b k. tt) (λ qs t z k h. tt) ks m s st tt tt)

  pub search_within_any : (n : ℕ) (ks : List Quantifier) (s : Node) (st : Store) → Within Any n (learning_search L D R ks s st) (search_within L D R n ks s st)
  search_within_any n ks s st = visit_within_any leb n ks s st

  -- a search that fits is finished, with the full search's result
  pub fits_finished : (n : ℕ) (ks : List Quantifier) (s : Node) (st : Store) → (learning_search L D R ks s st).visits ≤ n → search_within L D R n ks s st ≡ finished (learning_search L D R ks s st)
  fits_finished n ks s st le = by (search_within L D R n ks s st) (search_within_any n ks s st)
    where
      by : (t : Attempt) → Within Any n (learning_search L D R ks s st) t → t ≡ finished (learning_search L D R ks s st)
      by (finished q) w = ap finished w.0
      by (stopped z) w = absurd (omega (arith, le, w.0))

-- ---- the answer to a search under a ceiling
module _ (S : Store → Type 0) (n : ℕ) (r : LearningResult) (over : Reply) (tell : Outcome (Unit {0}) → Reply) where
  -- the reply is that of the full search, or the one of a stopped call
  pub attempt_reply : (t : Attempt) → Within S n r t → ((attempt_answer over n tell t).out.reply ≡ tell (outline r.outcome)) ⊎ ((attempt_answer over n tell t).out.reply ≡ over)
  attempt_reply (finished q) w = inl (ap (λ (z : LearningResult). tell (outline z.outcome)) w.0)
  attempt_reply (stopped st) w = inr refl

  -- "The walk stops before the visit that would exceed it"
  pub attempt_visits : (t : Attempt) → Within S n r t → (attempt_answer over n tell t).out.visits ≤ n
  attempt_visits (finished q) w = subst (λ (z : LearningResult). z.visits ≤ n) (sym w.0) w.1
  attempt_visits (stopped st) w = le_refl n

  -- what the full search's store and a store on the way have, the state after the call has
  pub attempt_store : (t : Attempt) → Within S n r t → S r.store → S (attempt_answer over n tell t).store
  attempt_store (finished q) w h = subst (λ (z : LearningResult). S z.store) (sym w.0) h
  attempt_store (stopped st) w h = w.1
