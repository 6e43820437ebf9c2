-- The plain search for a reading, one visit at a time: what decides a node, and what follows at one that is open.
use Prim.Native.Nat.{ℕ, suc, ◌+◌, ◌≤◌, ◌<◌, suc-le-suc, zero-le}
use native.Mathlib.Omega.{arith}
use mathlib.Core.Path.{◌≡◌, refl, sym, ap, ◌∙◌}
use mathlib.Core.Logic.{◌⊎◌, inl, inr}
use mathlib.Core.Bool.{Bool, true, false}
use mathlib.Core.List.{List, [], ◌∷◌}
use mathlib.Core.Option.{Option, none, some}
use lib.ListN.{length, get_or, drop, drop_of_length-le, get_or-eq_default}
use lib.Seq.{drop-cons}
use Rattle.qbf.specs.Formula.{Quantifier, free, exists, forall, Prefix, Clause, Node, ◌▹◌, any, all, dead, satisfied}
use Rattle.qbf.specs.Truth.{Verdict, decided}
use Rattle.qbf.specs.Plain.{PlainResult, stops, by_sides, plain_after_off, plain_branch, plain_settle, plain_search}
use Rattle.qbf.specs.Open.{Reading, enter, open_search}
use Rattle.tables.specs.Views.{quantifier_code}

-- the node is decided by its own visit
abbrev pub decided_at : Verdict → PlainResult
decided_at v = record { outcome = decided v tt; visits = 1 }

-- the branch on a variable of the quantifier κ, of which o is recorded
abbrev pub step_of : Quantifier → Option Bool → (Node → PlainResult) → Node → PlainResult
step_of free o f s = enter o f s
step_of exists o f s = plain_branch exists f s
step_of forall o f s = plain_branch forall f s

-- ---- a branch by its off side
module _ (κ : Quantifier) (f : Node → PlainResult) (s : Node) where
  abbrev off : PlainResult
  off = f (s ▹ false)

  abbrev on : PlainResult
  on = f (s ▹ true)

  pub branch_up : stops κ off.outcome ≡ true → plain_branch κ f s ≡ record { outcome = off.outcome; visits = suc off.visits }
  branch_up e = ap (λ (x : Bool). plain_after_off x κ f s off.outcome off.visits) e

  pub branch_both : stops κ off.outcome ≡ false
      → plain_branch κ f s ≡ record { outcome = by_sides κ s off.outcome on.outcome; visits = suc (off.visits + on.visits) }
  branch_both e = ap (λ (x : Bool). plain_after_off x κ f s off.outcome off.visits) e

  -- it takes one visit more than the off side at least
  pub branch_off : off.visits < (plain_branch κ f s).visits
  branch_off = by (stops κ off.outcome)
    where
      by : (x : Bool) → off.visits < (plain_after_off x κ f s off.outcome off.visits).visits
      by true = omega arith
      by false = omega arith

  pub branch_some : 1 ≤ (plain_branch κ f s).visits
  branch_some = omega (arith, branch_off)

pub enter_some : (o : Option Bool) (f : Node → PlainResult) (s : Node) → 1 ≤ (enter o f s).visits
enter_some none f s = branch_some free f s
enter_some (some b) f s = suc-le-suc zero-le

-- ---- a visit
module _ (D : Prefix) (R : List Clause) where
  -- what follows at a node where no clause is dead and not all are satisfied
  abbrev following : Reading → List Quantifier → Node → PlainResult
  following [] [] s = decided_at false
  following [] (κ ∷ ks) s = plain_branch κ (plain_search D R ks) s
  following (o ∷ os) [] s = decided_at false
  following (o ∷ os) (free ∷ ks) s = enter o (open_search D R os ks) s
  following (o ∷ os) (exists ∷ ks) s = plain_branch exists (plain_search D R ks) s
  following (o ∷ os) (forall ∷ ks) s = plain_branch forall (plain_search D R ks) s

  following_some : (os : Reading) (ks : List Quantifier) (s : Node) → 1 ≤ (following os ks s).visits
  following_some [] [] s = suc-le-suc zero-le
  following_some [] (κ ∷ ks) s = branch_some κ (plain_search D R ks) s
  following_some (o ∷ os) [] s = suc-le-suc zero-le
  following_some (o ∷ os) (free ∷ ks) s = enter_some o (open_search D R os ks) s
  following_some (o ∷ os) (exists ∷ ks) s = branch_some exists (plain_search D R ks) s
  following_some (o ∷ os) (forall ∷ ks) s = branch_some forall (plain_search D R ks) s

  module _ (os : Reading) (ks : List Quantifier) (s : Node) where
    -- by the two tests of a visit
    abbrev tested : Bool → Bool → PlainResult
    tested x y = plain_settle x y (following os ks) s

    one_visit : open_search D R os ks s ≡ tested (any (dead D s) R) (all (satisfied D s) R)
    one_visit = by os ks
      where
        by : (os : Reading) (ks : List Quantifier) → open_search D R os ks s ≡ plain_settle (any (dead D s) R) (all (satisfied D s) R) (following os ks) s
        by [] [] = refl
        by [] (κ ∷ ks) = refl
        by (o ∷ os) [] = refl
        by (o ∷ os) (free ∷ ks) = refl
        by (o ∷ os) (exists ∷ ks) = refl
        by (o ∷ os) (forall ∷ ks) = refl

    pub visit_dead : any (dead D s) R ≡ true → open_search D R os ks s ≡ decided_at false
    visit_dead e = one_visit ∙ ap (λ (x : Bool). tested x (all (satisfied D s) R)) e

    pub visit_satisfied : any (dead D s) R ≡ false → all (satisfied D s) R ≡ true → open_search D R os ks s ≡ decided_at true
    visit_satisfied e q = one_visit ∙ ap (λ (x : Bool). tested x (all (satisfied D s) R)) e ∙ ap (tested false) q

    visit_open : any (dead D s) R ≡ false → all (satisfied D s) R ≡ false → open_search D R os ks s ≡ following os ks s
    visit_open e q = one_visit ∙ ap (λ (x : Bool). tested x (all (satisfied D s) R)) e ∙ ap (tested false) q

    -- each visit counts one
    pub visit_some : 1 ≤ (open_search D R os ks s).visits
    visit_some = (rw one_visit (by (any (dead D s) R) (all (satisfied D s) R)))
      where
        by : (x y : Bool) → 1 ≤ (tested x y).visits
        by true y = suc-le-suc zero-le
        by false true = suc-le-suc zero-le
        by false false = following_some os ks s

  -- ---- at a node of k places
  -- what is recorded of a place, and what is left after it, where the place is past the reading
  past : (κ : Quantifier) (os : Reading) (k : ℕ) (ks : List Quantifier) (s : Node) → length os ≤ k
      → following (drop k os) (κ ∷ ks) s ≡ plain_branch κ (open_search D R (drop (suc k) os) ks) s
  past κ os k ks s h =
      ap (λ (x : Reading). following x (κ ∷ ks) s) (drop_of_length-le os {i = k} h)
      ∙ ap (λ (x : Reading). plain_branch κ (open_search D R x ks) s) (sym (drop_of_length-le os {i = suc k} (omega (arith, h))))

  pub follow_step : (κ : Quantifier) (os : Reading) (k : ℕ) (ks : List Quantifier) (s : Node) → (length os ≤ k) ⊎ ((k < length os) × (κ ≡ free))
      → following (drop k os) (κ ∷ ks) s ≡ step_of κ (get_or os k none) (open_search D R (drop (suc k) os) ks) s
  follow_step free os k ks s (inl h) = past free os k ks s h ∙ ap (λ (o : Option Bool). enter o (open_search D R (drop (suc k) os) ks) s) (sym (get_or-eq_default os none h))
  follow_step free os k ks s (inr w) = ap (λ (x : Reading). following x (free ∷ ks) s) (drop-cons os k none w.0)
  follow_step exists os k ks s (inl h) = past exists os k ks s h
  follow_step exists os k ks s (inr w) = absurd (not_exists w.1)
    where
      not_exists : exists ≡ free → ⊥
      not_exists e = let z : ◌≡◌ {A = ℕ} 1 0 = ap quantifier_code e in omega arith
  follow_step forall os k ks s (inl h) = past forall os k ks s h
  follow_step forall os k ks s (inr w) = absurd (not_forall w.1)
    where
      not_forall : forall ≡ free → ⊥
      not_forall e = let z : ◌≡◌ {A = ℕ} 2 0 = ap quantifier_code e in omega arith

  -- the visit of an open node
  pub open_step : (κ : Quantifier) (os : Reading) (k : ℕ) (ks : List Quantifier) (s : Node) → (length os ≤ k) ⊎ ((k < length os) × (κ ≡ free))
      → any (dead D s) R ≡ false → all (satisfied D s) R ≡ false
      → open_search D R (drop k os) (κ ∷ ks) s ≡ step_of κ (get_or os k none) (open_search D R (drop (suc k) os) ks) s
  open_step κ os k ks s h e q = visit_open (drop k os) (κ ∷ ks) s e q ∙ follow_step κ os k ks s h

  -- .. with no place left
  pub open_end : (os : Reading) (s : Node) → any (dead D s) R ≡ false → all (satisfied D s) R ≡ false → open_search D R os [] s ≡ decided_at false
  open_end os s e q = visit_open os [] s e q ∙ by os
    where
      by : (os : Reading) → following os [] s ≡ decided_at false
      by [] = refl
      by (o ∷ os) = refl
