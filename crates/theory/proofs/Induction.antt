-- Induction over a learning search: what holds of its leaves, and of a branch where it holds of the sides, holds of the search.
-- The store has a property S; the outcome at a node s, with the quantifiers ks left, has a property H; N is what is known of ks and s.
use Prim.Native.Nat.{ℕ, suc, ◌+◌}
use mathlib.Core.Path.{◌≡◌, refl, sym, ap, subst}
use mathlib.Core.Logic.{◌⊎◌, inl, inr}
use mathlib.Core.Bool.{Bool, true, false, cond, not, ◌&&◌, beq}
use mathlib.Core.List.{List, [], ◌∷◌, ◌++◌}
use mathlib.Core.Option.{Option, none, some}
use lib.ListN.{length}
use lib.Dec.{eqb}
use Rattle.qbf.specs.Formula.{Clause, Limits, Node, Prefix, Quantifier, ◌▹◌, all, any, dead, has, satisfied}
use Rattle.qbf.specs.Truth.{Outcome, decided, decided_nodes, mixed}
use Rattle.qbf.specs.Learning.{Constraint, LearningResult, Store, after_both, after_off, below, branch, conclude_by, constraints, dropped, first, goes_up, going_up, implicant, last_place, leaf, learn, lowest_dead, mentions, proceed, raise, reduce, reduced_found, resolve, resolvent, settle, up_or_onward, visit}
use Rattle.qbf.specs.Card.{Mem}
use Rattle.theory.proofs.Basics.{or_cases, or_false_left, or_false_right, not_true, not_false, beq→≡}
use Rattle.theory.proofs.Sets.{Found, found}
use Rattle.theory.proofs.Lowest.{lowest_found}

pub record Gives (S : Store → Type 0) (H : Outcome Constraint → Type 0) (r : LearningResult) : Type 0 where
  pub store_ok : S r.store
  pub answer_ok : H r.outcome

-- ---- a visit
module _ (D : Prefix) (R : List Clause) (s : Node) where
  -- the test of a stored constraint
  abbrev pub hits : (ℕ → ℕ → Bool) → Bool → Constraint → Bool
  hits eligible v E = eligible (last_place D E) (length s) && all (has D v s) E

  -- the constraints that may end a visit have P
  pub record LeafCases (eligible : ℕ → ℕ → Bool) (st : Store) (P : Bool → Constraint → Type 0) : Type 0 where
    pub dead_clause : (r : Clause) → Mem r R → dead D s r ≡ true → P false (reduce D false r)
    pub all_satisfied : all (satisfied D s) R ≡ true → P true (reduce D true (implicant D s R []))
    pub matched : (v : Bool) (E : Constraint) → Mem E (constraints v st) → hits eligible v E ≡ true → P v E

  -- what a leaf says: a constraint with P, or neither a dead clause nor all clauses satisfied
  abbrev pub Leaf : (Bool → Constraint → Type 0) → Option (Outcome Constraint) → Type 0
  Leaf P none = (any (dead D s) R ≡ false) × (all (satisfied D s) R ≡ false)
  Leaf P (some (decided v E)) = P v E
  Leaf P (some (mixed ls)) = ⊥

  pub leaf_by : (eligible : ℕ → ℕ → Bool) (st : Store) (P : Bool → Constraint → Type 0) → LeafCases eligible st P → Leaf P (leaf D R eligible s st)
  leaf_by eligible st P cases = one (lowest_dead D s R) (lowest_found D s R)
    where
      four : any (dead D s) R ≡ false → all (satisfied D s) R ≡ false → (o : Option Constraint) → Found (hits eligible true) (constraints true st) o → Leaf P (conclude_by true o none)
      four nd ns none w = (nd, ns)
      four nd ns (some E) w = cases.matched true E w.0 w.1

      three : any (dead D s) R ≡ false → (b : Bool) → all (satisfied D s) R ≡ b
          → Leaf P (conclude_by true (cond b (some (reduce D true (implicant D s R []))) none) (conclude_by true (first (hits eligible true) (constraints true st)) none))
      three nd true e = cases.all_satisfied e
      three nd false e = four nd e (first (hits eligible true) (constraints true st)) (found (hits eligible true) (constraints true st))

      two : any (dead D s) R ≡ false → (o : Option Constraint) → Found (hits eligible false) (constraints false st) o
          → Leaf P (conclude_by false o (conclude_by true (cond (all (satisfied D s) R) (some (reduce D true (implicant D s R []))) none) (conclude_by true (first (hits eligible true) (constraints true st)) none)))
      two nd none w = three nd (all (satisfied D s) R) refl
      two nd (some E) w = cases.matched false E w.0 w.1

      one : (o : Option Clause) → Found (dead D s) R o
          → Leaf P
          (conclude_by false (reduced_found D false o)
          (conclude_by false (first (hits eligible false) (constraints false st))
          (conclude_by true (cond (all (satisfied D s) R) (some (reduce D true (implicant D s R []))) none)
          (conclude_by true (first (hits eligible true) (constraints true st)) none))))
      one none w = two w (first (hits eligible false) (constraints false st)) (found (hits eligible false) (constraints false st))
      one (some r) w = cases.dead_clause r w.0 w.1

  module _ (S : Store → Type 0) (H : Outcome Constraint → Type 0) where
    pub visit_by : (eligible : ℕ → ℕ → Bool) (next : Node → Store → LearningResult) (st : Store) → LeafCases eligible st (λ v E. H (decided v E)) → S st
        → (any (dead D s) R ≡ false → all (satisfied D s) R ≡ false → Gives S H (next s st))
        → Gives S H (visit D R eligible next s st)
    visit_by eligible next st cases h go = by (leaf D R eligible s st) (leaf_by eligible st (λ v E. H (decided v E)) cases)
      where
        by : (o : Option (Outcome Constraint)) → Leaf (λ v E. H (decided v E)) o → Gives S H (settle o next s st)
        by none w = go w.0 w.1
        by (some (decided v E)) w = record { store_ok = h; answer_ok = w }
        by (some (mixed ls)) w = absurd w

-- ---- a branch
-- the sides that make a branch mixed
abbrev pub Mixes : Quantifier → Outcome Constraint → Outcome Constraint → Type 0
Mixes κ (decided b E) (decided c F) = (dropped b κ ≡ false) × (dropped c κ ≡ false) × (beq b c ≡ false)
Mixes κ (decided b E) (mixed ls) = Unit {0}
Mixes κ (mixed ls) o = Unit {0}

module _ (L : Limits) (D : Prefix) (R : List Clause) (κ : Quantifier) (s : Node) where
  -- From A, of the outcomes of the sides, follows H of the branch's.
  pub record BranchCases (S : Store → Type 0) (A : Bool → Outcome Constraint → Type 0) (H : Outcome Constraint → Type 0) : Type 0 where
    pub up : (c b : Bool) (E : Constraint) → (dropped b κ ≡ true) ⊎ (mentions D (suc (length s)) E ≡ false) → A c (decided b E) → H (decided b E)
    pub joined : (b : Bool) (E F : Constraint) → dropped b κ ≡ false → mentions D (suc (length s)) E ≡ true → mentions D (suc (length s)) F ≡ true
        → A false (decided b E) → A true (decided b F) → H (decided b (resolvent D (suc (length s)) b E F))
    pub learned : (b : Bool) (E : Constraint) (st : Store) → H (decided b E) → S st → S (learn L (length R) b E st)
    pub mixing : (o q : Outcome Constraint) → Mixes κ o q → A false o → A true q → H (mixed (decided_nodes (s ▹ false) o ++ decided_nodes (s ▹ true) q))

  module _ (S : Store → Type 0) (A : Bool → Outcome Constraint → Type 0) (H : Outcome Constraint → Type 0) (cases : BranchCases S A H) where
    after_both_lem : (b : Bool) (E : Constraint) (o : Outcome Constraint) (st : Store) (n : ℕ) → dropped b κ ≡ false → mentions D (suc (length s)) E ≡ true → A false (decided b E)
        → A true o → S st → Gives S H (after_both L D R κ s b E o st n)
    after_both_lem b E (mixed ls) st n d m a q h = record { store_ok = h; answer_ok = cases.mixing (decided b E) (mixed ls) tt a q }
    after_both_lem b E (decided c F) st n d m a q h = by (dropped c κ) refl (beq b c) refl (mentions D (suc (length s)) F) refl
      where
        by : (x : Bool) → dropped c κ ≡ x → (y : Bool) → beq b c ≡ y → (z : Bool) → mentions D (suc (length s)) F ≡ z
            → Gives S H
            (cond x (record { outcome = decided c F; store = st; visits = n })
            (cond y (cond z (resolve L D R s b E F st n) (record { outcome = decided c F; store = st; visits = n }))
            (record { outcome = mixed (decided_nodes (s ▹ false) (decided b E) ++ decided_nodes (s ▹ true) (decided c F)); store = st; visits = n })))
        by true ex y ey z ez = record { store_ok = h; answer_ok = cases.up true c F (inl ex) q }
        by false ex true ey true ez =
            let j = cases.joined b E F d m ez a (subst (λ (x : Bool). A true (decided x F)) (sym (beq→≡ b c ey)) q) in
            record { store_ok = cases.learned b (resolvent D (suc (length s)) b E F) st j h; answer_ok = j }
        by false ex true ey false ez = record { store_ok = h; answer_ok = cases.up true c F (inr ez) q }
        by false ex false ey z ez = record { store_ok = h; answer_ok = cases.mixing (decided b E) (decided c F) (d, ex, ey) a q }

    module _ (f : Node → Store → LearningResult) (sides : (c : Bool) (st : Store) → S st → Gives S (A c) (f (s ▹ c) st)) where
      up_or_onward_lem : (goes : Bool) (b : Bool) (E : Constraint) (st : Store) (n : ℕ) → goes_up D κ (suc (length s)) b E ≡ goes → A false (decided b E) → S st
          → Gives S H (proceed (up_or_onward L D R goes κ s b E st n) (f (s ▹ true)) st)
      up_or_onward_lem true b E st n e a h = record { store_ok = h; answer_ok = cases.up false b E (by (or_cases (dropped b κ) (not (mentions D (suc (length s)) E)) e)) a }
        where
          by : (dropped b κ ≡ true) ⊎ (not (mentions D (suc (length s)) E) ≡ true) → (dropped b κ ≡ true) ⊎ (mentions D (suc (length s)) E ≡ false)
          by (inl o) = inl o
          by (inr o) = inr (not_true (mentions D (suc (length s)) E) o)
      up_or_onward_lem false b E st n e a h =
          let r = sides true st h in
          after_both_lem b E (f (s ▹ true) st).outcome (f (s ▹ true) st).store (suc (n + (f (s ▹ true) st).visits))
          (or_false_left (dropped b κ) (not (mentions D (suc (length s)) E)) e) (not_false (mentions D (suc (length s)) E) (or_false_right (dropped b κ) (not (mentions D (suc (length s)) E)) e)) a r.answer_ok r.store_ok

      after_off_lem : (o : Outcome Constraint) (st : Store) (n : ℕ) → A false o → S st → Gives S H (proceed (after_off L D R κ s o st n) (f (s ▹ true)) st)
      after_off_lem (decided b E) st n a h = up_or_onward_lem (goes_up D κ (suc (length s)) b E) b E st n refl a h
      after_off_lem (mixed ls) st n a h =
          let r = sides true st h in
          record { store_ok = r.store_ok; answer_ok = cases.mixing (mixed ls) (f (s ▹ true) st).outcome tt a r.answer_ok }

      pub branch_by : (st : Store) → S st → Gives S H (branch L D R κ f s st)
      branch_by st h =
          let r = sides false st h in
          after_off_lem (f (s ▹ false) st).outcome (f (s ▹ false) st).store (f (s ▹ false) st).visits r.answer_ok r.store_ok

-- ---- the search
pub raise_same : (D : Prefix) (r : LearningResult) → going_up D r.outcome ≡ r.outcome → raise D r ≡ r
raise_same D r e = ap (λ (o : Outcome Constraint). record { outcome = o; store = r.store; visits = r.visits }) e

module _ (L : Limits) (D : Prefix) (R : List Clause) where
  pub record SearchCases (N : List Quantifier → Node → Type 0) (S : Store → Type 0) (H : List Quantifier → Node → Outcome Constraint → Type 0) : Type 0 where
    pub side : (κ : Quantifier) (ks : List Quantifier) (s : Node) (b : Bool) → N (κ ∷ ks) s → N ks (s ▹ b)
    pub leaves : (ks : List Quantifier) (s : Node) (st : Store) → N ks s → S st → LeafCases D R s eqb st (λ v E. H ks s (decided v E))
    pub branches : (κ : Quantifier) (ks : List Quantifier) (s : Node) → N (κ ∷ ks) s → BranchCases L D R κ s S (λ c o. H ks (s ▹ c) o) (H (κ ∷ ks) s)
    pub ends : (s : Node) → N [] s → any (dead D s) R ≡ false → all (satisfied D s) R ≡ false → H [] s (decided false [])
    pub raised : (ks : List Quantifier) (s : Node) (o : Outcome Constraint) → H ks s o → going_up D o ≡ o

  module _ (N : List Quantifier → Node → Type 0) (S : Store → Type 0) (H : List Quantifier → Node → Outcome Constraint → Type 0) (cases : SearchCases N S H) where
    pub raise_by : (ks : List Quantifier) (s : Node) (r : LearningResult) → Gives S (H ks s) r → Gives S (H ks s) (raise D r)
    raise_by ks s r h = subst (Gives S (H ks s)) (sym (raise_same D r (cases.raised ks s r.outcome h.answer_ok))) h

    -- a node with a place left, over what its sides go on to
    step_by : (κ : Quantifier) (ks : List Quantifier) (s : Node) → N (κ ∷ ks) s
        → ((c : Bool) (st : Store) → S st → any (dead D (s ▹ c)) R ≡ false → all (satisfied D (s ▹ c)) R ≡ false → Gives S (H ks (s ▹ c)) (below L D R ks (s ▹ c) st))
        → (st : Store) → S st → Gives S (H (κ ∷ ks) s) (below L D R (κ ∷ ks) s st)
    step_by κ ks s n go =
        branch_by L D R κ s S (λ c o. H ks (s ▹ c) o) (H (κ ∷ ks) s) (cases.branches κ ks s n) (λ t st. raise D (visit D R eqb (below L D R ks) t st))
        (λ c st h. raise_by ks (s ▹ c) (visit D R eqb (below L D R ks) (s ▹ c) st)
        (visit_by D R (s ▹ c) S (H ks (s ▹ c)) eqb (below L D R ks) st (cases.leaves ks (s ▹ c) st (cases.side κ ks s c n) h) h (go c st h)))

    -- what an undecided visit goes on to
    pub below_by : (ks : List Quantifier) (s : Node) (st : Store) → N ks s → S st → any (dead D s) R ≡ false → all (satisfied D s) R ≡ false → Gives S (H ks s) (below L D R ks s st)
    below_by [] s st n h nd ns = record { store_ok = h; answer_ok = cases.ends s n nd ns }
    below_by (κ ∷ ks) s st n h nd ns = step_by κ ks s n (λ c st' h' p q. below_by ks (s ▹ c) st' (cases.side κ ks s c n) h' p q) st h

    -- while a place is left, this asks nothing of the node's clauses
    pub branching_by : (κ : Quantifier) (ks : List Quantifier) (s : Node) (st : Store) → N (κ ∷ ks) s → S st → Gives S (H (κ ∷ ks) s) (below L D R (κ ∷ ks) s st)
    branching_by κ ks s st n h = step_by κ ks s n (λ c st' h' p q. below_by ks (s ▹ c) st' (cases.side κ ks s c n) h' p q) st h
