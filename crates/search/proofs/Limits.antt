-- A search reads nothing of its limits but how many constraints are kept: under others that keep as many it is the same search.
use Prim.Native.Nat.{ℕ, suc, ◌+◌, ◌-◌}
use mathlib.Core.Path.{◌≡◌, refl, ap}
use mathlib.Core.Bool.{Bool, true, false, cond, beq}
use mathlib.Core.List.{List, [], ◌∷◌, ◌++◌}
use lib.ListN.{length}
use lib.Dec.{leb, eqb}
use Rattle.qbf.specs.Formula.{Limits, Quantifier, Prefix, Clause, Node, ◌▹◌}
use Rattle.qbf.specs.Truth.{Outcome, decided, mixed, decided_nodes}
use Rattle.qbf.specs.Plain.{decides}
use Rattle.qbf.specs.Learning.{Polarity, Constraint, Store, LearningResult, onward, proceed, push, learn, mentions, resolvent, goes_up, raise, visit, resolve, after_both, up_or_onward, after_off, below, learning_search}
use Rattle.qbf.specs.Ceiling.{Attempt, finished, and_then, proceed_within, visit_within, below_within, search_within}

module _ (L M : Limits) (kept : L.constraints ≡ M.constraints) (D : Prefix) (R : List Clause) where
  learn_same : (n : ℕ) (v : Polarity) (e : Constraint) (st : Store) → learn L n v e st ≡ learn M n v e st
  learn_same n true e st = ap (λ (c : ℕ). record { clauses = st.clauses; records = st.records; cubes = push c e st.cubes }) kept
  learn_same n false e st = ap (λ (c : ℕ). record { clauses = push c e st.clauses; records = push c n st.records; cubes = st.cubes }) kept

  resolve_same : (s : Node) (b : Polarity) (e f : Constraint) (st : Store) (n : ℕ) → resolve L D R s b e f st n ≡ resolve M D R s b e f st n
  resolve_same s b e f st n =
      ap (λ (x : Store). record { outcome = decided b (resolvent D (suc (length s)) b e f); store = x; visits = n }) (learn_same (length R) b (resolvent D (suc (length s)) b e f) st)

  both_same : (κ : Quantifier) (s : Node) (b : Polarity) (e : Constraint) (o : Outcome Constraint) (st : Store) (n : ℕ) → after_both L D R κ s b e o st n ≡ after_both M D R κ s b e o st n
  both_same κ s b e (decided c f) st n =
      ap (λ (r : LearningResult).
      cond (decides c κ) (record { outcome = decided c f; store = st; visits = n })
      (cond (beq b c)
      (cond (mentions D (suc (length s)) f) r (record { outcome = decided c f; store = st; visits = n }))
      (record { outcome = mixed (decided_nodes (s ▹ false) (decided b e) ++ decided_nodes (s ▹ true) (decided c f)); store = st; visits = n })))
      (resolve_same s b e f st n)
  both_same κ s b e (mixed ds) st n = refl

  up_same : (x : Bool) (κ : Quantifier) (s : Node) (b : Polarity) (e : Constraint) (st : Store) (n : ℕ) → up_or_onward L D R x κ s b e st n ≡ up_or_onward M D R x κ s b e st n
  up_same true κ s b e st n = refl
  up_same false κ s b e st n = λ i. onward (λ r. both_same κ s b e r.outcome r.store (suc (n + r.visits)) i)

  off_same : (κ : Quantifier) (s : Node) (o : Outcome Constraint) (st : Store) (n : ℕ) → after_off L D R κ s o st n ≡ after_off M D R κ s o st n
  off_same κ s (decided b e) st n = up_same (goes_up D κ (suc (length s)) b e) κ s b e st n
  off_same κ s (mixed ds) st n = refl

  -- ---- below a node
  pub below_same : (ks : List Quantifier) → below L D R ks ≡ below M D R ks
  below_same [] = refl
  below_same (κ ∷ ks) = λ i s st.
      let f : Node → Store → LearningResult = λ t z. raise D (visit D R eqb (below_same ks i) t z) in
      proceed (off_same κ s (f (s ▹ false) st).outcome (f (s ▹ false) st).store (f (s ▹ false) st).visits i) (f (s ▹ true)) (f (s ▹ false) st).store

  pub below_within_same : (ks : List Quantifier) → below_within L D R ks ≡ below_within M D R ks
  below_within_same [] = refl
  below_within_same (κ ∷ ks) = λ i n s st.
      let f : ℕ → Node → Store → Attempt = λ m t z. and_then (visit_within D R eqb (below_within_same ks i) m t z) (λ r. finished (raise D r)) in
      and_then (f n (s ▹ false) st) (λ r. proceed_within (off_same κ s r.outcome r.store r.visits i) (λ m. f m (s ▹ true)) (n - r.visits) r.store)

  -- ---- from a start node
  pub learning_search_same : (ks : List Quantifier) → learning_search L D R ks ≡ learning_search M D R ks
  learning_search_same ks = ap (visit D R leb) (below_same ks)

  pub search_within_same : (n : ℕ) (ks : List Quantifier) (s : Node) (st : Store) → search_within L D R n ks s st ≡ search_within M D R n ks s st
  search_within_same n ks s st = ap (λ (f : ℕ → Node → Store → Attempt). visit_within D R leb f n s st) (below_within_same ks)
