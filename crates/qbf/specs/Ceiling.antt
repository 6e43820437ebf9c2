-- The learning search under a ceiling on its visits. Paper 02, wish 8: "The walk stops before the visit that would exceed it, keeping what it
-- stored until then." It goes as the search of Learning.antt goes, step by step; n is the count of visits that may still be made.
use Rattle.std.specs.Prelude.{ℕ, zero, suc, ◌-◌, Bool, true, false, List, [], ◌∷◌, leb, eqb}
use Rattle.std.proofs.Math.Option.{Option, none, some}
use Rattle.qbf.specs.Formula.{Limits, Quantifier, Prefix, Clause, Node, ◌▹◌}
use Rattle.qbf.specs.Truth.{Outcome, decided}
use Rattle.qbf.specs.Learning.{Constraint, Store, LearningResult, Next, up, onward, leaf, raise, after_off}

-- "any unsigned 32-bit number": the highest ceiling
abbrev pub highest_ceiling : ℕ
highest_ceiling = 4294967295

-- a search that came to its end, or stopped with the store as it was then
pub data Attempt : Type 0 where
  finished : LearningResult → Attempt
  stopped : Store → Attempt

abbrev pub and_then : Attempt → (LearningResult → Attempt) → Attempt
and_then (finished r) k = k r
and_then (stopped st) k = stopped st

abbrev pub settle_within : Option (Outcome Constraint) → (ℕ → Node → Store → Attempt) → ℕ → Node → Store → Attempt
settle_within none next n s st = next n s st
settle_within (some o) next n s st = finished (record { outcome = o; store = st; visits = 1 })

abbrev pub proceed_within : Next → (ℕ → Store → Attempt) → ℕ → Store → Attempt
proceed_within (up r) g n st = finished r
proceed_within (onward k) g n st = and_then (g n st) (λ r. finished (k r))

module _ (D : Prefix) (R : List Clause) where
  -- what follows the visit may make one visit less
  abbrev pub visit_within : (ℕ → ℕ → Bool) → (ℕ → Node → Store → Attempt) → ℕ → Node → Store → Attempt
  visit_within eligible next zero s st = stopped st
  visit_within eligible next (suc n) s st = settle_within (leaf D R eligible s st) next n s st

module _ (L : Limits) (D : Prefix) (R : List Clause) where
  -- the on side may make the visits that the off side has left
  abbrev pub branch_within : Quantifier → (ℕ → Node → Store → Attempt) → ℕ → Node → Store → Attempt
  branch_within κ f n s st =
      and_then (f n (s ▹ false) st) (λ r. proceed_within (after_off L D R κ s r.outcome r.store r.visits) (λ m. f m (s ▹ true)) (n - r.visits) r.store)

  abbrev pub below_within : List Quantifier → ℕ → Node → Store → Attempt
  below_within [] n s st = finished (record { outcome = decided false []; store = st; visits = 1 })
  below_within (κ ∷ ks) n s st = branch_within κ (λ m t st'. and_then (visit_within D R eqb (below_within ks) m t st') (λ r. finished (raise D r))) n s st

  -- the search from a start node
  abbrev pub search_within : ℕ → List Quantifier → Node → Store → Attempt
  search_within n ks s st = visit_within D R leb (below_within ks) n s st
