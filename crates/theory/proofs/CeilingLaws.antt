-- Laws by which the code is proved: a branch under a ceiling by what its sides come to, and without the reducing of what goes up.
use Prim.Native.Nat.{ℕ, suc, ◌+◌, ◌-◌, ◌≤◌}
use mathlib.Core.Path.{◌≡◌, refl, sym, ap, ◌∙◌, subst}
use mathlib.Core.Bool.{Bool, true, false}
use mathlib.Core.List.{List, ◌∷◌, ◌++◌}
use lib.ListN.{length}
use lib.Dec.{eqb}
use Rattle.qbf.specs.Formula.{Clause, Limits, Node, Prefix, Quantifier, ◌▹◌}
use Rattle.qbf.specs.Truth.{DecidedNode, Outcome, decided, decided_nodes, mixed}
use Rattle.qbf.specs.Learning.{Constraint, LearningResult, Next, Store, after_both, after_off, below, goes_up, onward, raise, up, up_or_onward, visit}
use Rattle.qbf.specs.Ceiling.{Attempt, and_then, below_within, branch_within, finished, proceed_within, stopped, visit_within}
use Rattle.qbf.specs.Card.{Mem}
use Rattle.theory.proofs.Rest.{Rest, rest_up}
use Rattle.theory.proofs.Game.{Rising}
use Rattle.theory.proofs.Stores.{ShapedStore}
use Rattle.theory.proofs.ShapedSearch.{raise_shaped, shaped_visit}
use Rattle.theory.proofs.Ceiling.{Any, Within, visit_within_any}

module _ (L : Limits) (D : Prefix) (R : List Clause) (κ : Quantifier) (f : ℕ → Node → Store → Attempt) (n : ℕ) (s : Node) (st : Store) where
  -- the off side stops
  pub off_stops : (z : Store) → f n (s ▹ false) st ≡ stopped z → branch_within L D R κ f n s st ≡ stopped z
  off_stops z p = ap (λ (t : Attempt). and_then t onwards) p
    where
      onwards : LearningResult → Attempt
      onwards r = proceed_within (after_off L D R κ s r.outcome r.store r.visits) (λ m. f m (s ▹ true)) (n - r.visits) r.store

  module _ (off : LearningResult) (ended : f n (s ▹ false) st ≡ finished off) where
    abbrev on : Attempt
    on = f (n - off.visits) (s ▹ true) off.store

    next : branch_within L D R κ f n s st ≡ proceed_within (after_off L D R κ s off.outcome off.store off.visits) (λ m. f m (s ▹ true)) (n - off.visits) off.store
    next = ap (λ (t : Attempt). and_then t (λ r. proceed_within (after_off L D R κ s r.outcome r.store r.visits) (λ m. f m (s ▹ true)) (n - r.visits) r.store)) ended

    by_next : (o : Next) → after_off L D R κ s off.outcome off.store off.visits ≡ o → branch_within L D R κ f n s st ≡ proceed_within o (λ m. f m (s ▹ true)) (n - off.visits) off.store
    by_next o e = next ∙ ap (λ (x : Next). proceed_within x (λ m. f m (s ▹ true)) (n - off.visits) off.store) e

    module _ (b : Bool) (e : Constraint) (p : off.outcome ≡ decided b e) where
      goes : (x : Bool) → goes_up D κ (suc (length s)) b e ≡ x → after_off L D R κ s off.outcome off.store off.visits ≡ up_or_onward L D R x κ s b e off.store off.visits
      goes x q =
          ap (λ (o : Outcome Constraint). after_off L D R κ s o off.store off.visits) p
          ∙ ap (λ (y : Bool). up_or_onward L D R y κ s b e off.store off.visits) q

      -- the off side's constraint goes up
      pub off_goes_up : goes_up D κ (suc (length s)) b e ≡ true → branch_within L D R κ f n s st ≡ finished (record { outcome = decided b e; store = off.store; visits = suc off.visits })
      off_goes_up q = by_next (up_or_onward L D R true κ s b e off.store off.visits) (goes true q)

      -- the on side is visited, and stops or not
      pub on_stops : (z : Store) → goes_up D κ (suc (length s)) b e ≡ false → on ≡ stopped z → branch_within L D R κ f n s st ≡ stopped z
      on_stops z q h =
          by_next (up_or_onward L D R false κ s b e off.store off.visits) (goes false q)
          ∙ ap (λ (t : Attempt). and_then t (λ r. finished (after_both L D R κ s b e r.outcome r.store (suc (off.visits + r.visits))))) h

      pub on_ends : (q : LearningResult) → goes_up D κ (suc (length s)) b e ≡ false → on ≡ finished q
          → branch_within L D R κ f n s st ≡ finished (after_both L D R κ s b e q.outcome q.store (suc (off.visits + q.visits)))
      on_ends q g h =
          by_next (up_or_onward L D R false κ s b e off.store off.visits) (goes false g)
          ∙ ap (λ (t : Attempt). and_then t (λ r. finished (after_both L D R κ s b e r.outcome r.store (suc (off.visits + r.visits))))) h

    module _ (ls : List DecidedNode) (p : off.outcome ≡ mixed ls) where
      both : LearningResult → LearningResult
      both r = record { outcome = mixed (ls ++ decided_nodes (s ▹ true) r.outcome); store = r.store; visits = suc (off.visits + r.visits) }

      mixes : branch_within L D R κ f n s st ≡ and_then on (λ r. finished (both r))
      unfolding both
      mixes = by_next (onward both) (ap (λ (o : Outcome Constraint). after_off L D R κ s o off.store off.visits) p)

      pub mixed_stops : (z : Store) → on ≡ stopped z → branch_within L D R κ f n s st ≡ stopped z
      mixed_stops z h = mixes ∙ ap (λ (t : Attempt). and_then t (λ r. finished (both r))) h

      pub mixed_ends : (q : LearningResult) → on ≡ finished q
          → branch_within L D R κ f n s st ≡ finished (record { outcome = mixed (ls ++ decided_nodes (s ▹ true) q.outcome); store = q.store; visits = suc (off.visits + q.visits) })
      unfolding both
      mixed_ends q h = mixes ∙ ap (λ (t : Attempt). and_then t (λ r. finished (both r))) h

-- a branch asks its sides at the off node, and where that ends at the on node with its store
pub branch_within_same : (L : Limits) (D : Prefix) (R : List Clause) (κ : Quantifier) (f g : ℕ → Node → Store → Attempt) (n : ℕ) (s : Node) (st : Store)
    → f n (s ▹ false) st ≡ g n (s ▹ false) st
    → ((r : LearningResult) → g n (s ▹ false) st ≡ finished r → (m : ℕ) → f m (s ▹ true) r.store ≡ g m (s ▹ true) r.store)
    → branch_within L D R κ f n s st ≡ branch_within L D R κ g n s st
branch_within_same L D R κ f g n s st p q = ap (λ (t : Attempt). and_then t (onwards f)) p ∙ by (g n (s ▹ false) st) q
  where
    onwards : (ℕ → Node → Store → Attempt) → LearningResult → Attempt
    onwards h r = proceed_within (after_off L D R κ s r.outcome r.store r.visits) (λ m. h m (s ▹ true)) (n - r.visits) r.store

    go : (o : Next) (m : ℕ) (z : Store) → f m (s ▹ true) z ≡ g m (s ▹ true) z → proceed_within o (λ j. f j (s ▹ true)) m z ≡ proceed_within o (λ j. g j (s ▹ true)) m z
    go (up r) m z e = refl
    go (onward k) m z e = ap (λ (t : Attempt). and_then t (λ r. finished (k r))) e

    by : (t : Attempt) → ((r : LearningResult) → t ≡ finished r → (m : ℕ) → f m (s ▹ true) r.store ≡ g m (s ▹ true) r.store) → and_then t (onwards f) ≡ and_then t (onwards g)
    by (finished r) w = go (after_off L D R κ s r.outcome r.store r.visits) (n - r.visits) r.store (w r refl (n - r.visits))
    by (stopped z) w = refl

-- what a visit goes on to, without the reducing of what goes up, on any shaped store
module _ (L : Limits) (one : 1 ≤ L.constraints) (D : Prefix) (R : List Clause) (ok : (r : Clause) → Mem r R → Rising D 0 r) where
  pub raise_nothing_within : (κ : Quantifier) (ks : List Quantifier) (n : ℕ) (s : Node) (st : Store) → Rest D s (κ ∷ ks) → ShapedStore L D st
      → below_within L D R (κ ∷ ks) n s st ≡ branch_within L D R κ (visit_within D R eqb (below_within L D R ks)) n s st
  raise_nothing_within κ ks n s st rest h =
      branch_within_same L D R κ (λ m t z. and_then (g m t z) (λ r. finished (raise D r))) g n s st (same n false st h)
      (λ r e m. same m true r.store (kept r (subst (Within Any n (f (s ▹ false) st)) e (visit_within_any L D R eqb n ks (s ▹ false) st))))
    where
      f : Node → Store → LearningResult
      f = visit D R eqb (below L D R ks)

      g : ℕ → Node → Store → Attempt
      g = visit_within D R eqb (below_within L D R ks)

      same : (m : ℕ) (c : Bool) (z : Store) → ShapedStore L D z → and_then (g m (s ▹ c) z) (λ r. finished (raise D r)) ≡ g m (s ▹ c) z
      same m c z w = by (g m (s ▹ c) z) (visit_within_any L D R eqb m ks (s ▹ c) z)
        where
          fixed : raise D (f (s ▹ c) z) ≡ f (s ▹ c) z
          fixed = raise_shaped D (s ▹ c) (f (s ▹ c) z) (shaped_visit L one D R ok eqb ks (s ▹ c) z (rest_up D s c κ ks rest) w).answer_ok

          by : (t : Attempt) → Within Any m (f (s ▹ c) z) t → and_then t (λ r. finished (raise D r)) ≡ t
          by (finished q) v = ap (λ (r : LearningResult). finished (raise D r)) v.0 ∙ ap finished (fixed ∙ sym v.0)
          by (stopped y) v = refl

      kept : (r : LearningResult) → Within Any n (f (s ▹ false) st) (finished r) → ShapedStore L D r.store
      kept r v = subst (λ (q : LearningResult). ShapedStore L D q.store) (sym v.0) (shaped_visit L one D R ok eqb ks (s ▹ false) st (rest_up D s false κ ks rest) h).store_ok
