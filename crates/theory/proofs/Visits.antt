-- The learning search visits no more nodes than the plain search.
use Prim.Native.Nat.{ℕ, suc, ◌+◌, ◌≤◌, suc-le-suc, zero-le}
use native.Mathlib.Nat.{le_refl}
use native.Mathlib.Omega.{arith}
use mathlib.Core.Path.{◌≡◌, refl, sym, ap, ◌∙◌, subst}
use mathlib.Core.Bool.{Bool, true, false, cond, not, beq, true≢false}
use mathlib.Core.List.{List, [], ◌∷◌, ◌++◌}
use mathlib.Core.Option.{Option, none, some}
use lib.ListN.{length, drop}
use lib.Dec.{eqb, leb}
use Rattle.qbf.specs.Formula.{Clause, Limits, Literal, Node, Prefix, Quantifier, ◌▹◌, all, any, dead, place, quantifiers, satisfied}
use Rattle.qbf.specs.Truth.{Outcome, decided, decided_nodes, mixed, outline}
use Rattle.qbf.specs.Plain.{PlainResult, plain_after_off, plain_branch, plain_search, plain_settle, plain_visit, stops}
use Rattle.qbf.specs.Learning.{Constraint, LearningResult, Store, after_both, after_off, below, dropped, goes_up, leaf, learning_search, mentions, proceed, raise, resolve, settle, up_or_onward, visit}
use Rattle.qbf.specs.Card.{Mem}
use Rattle.theory.proofs.Basics.{or_false_left}
use Rattle.theory.proofs.Game.{Rising}
use Rattle.theory.proofs.Rest.{rest_up, rest_small}
use Rattle.theory.proofs.Induction.{Leaf, leaf_by}
use Rattle.theory.proofs.Claim.{Good}
use Rattle.theory.proofs.Leaves.{SoundStore, Fair, fair_inner, good_leaves}
use Rattle.theory.proofs.Search.{FreeFirst, Ok, says, side_ok}
use Rattle.theory.proofs.PlainSearch.{plain_says}

-- visits of a joined on side
pub on_visits : (L : Limits) (D : Prefix) (R : List Clause) (κ : Quantifier) (s : Node) (b : Bool) (A : Constraint) (o : Outcome Constraint) (st : Store) (n : ℕ) → (after_both L D R κ s b A o st n).visits ≡ n
on_visits L D R κ s b A (mixed ls) st n = refl
on_visits L D R κ s b A (decided c B) st n = by (dropped c κ) (beq b c) (mentions D (suc (length s)) B)
  where
    by : (x y z : Bool) → (cond x (record { outcome = decided c B; store = st; visits = n })
        (cond y (cond z (resolve L D R s b A B st n) (record { outcome = decided c B; store = st; visits = n }))
        (record { outcome = mixed (decided_nodes (s ▹ false) (decided b A) ++ decided_nodes (s ▹ true) (decided c B)); store = st; visits = n }))).visits ≡ n
    by true y z = refl
    by false true true = refl
    by false true false = refl
    by false false z = refl

stops_outline : {X : Type 0} (κ : Quantifier) (a : Outcome (Unit {0})) (b : Outcome X) → outline a ≡ outline b → stops κ a ≡ stops κ (outline b)
stops_outline κ (decided v x) b e = ap (stops κ) e
stops_outline κ (mixed ls) b e = ap (stops κ) e

-- the branch, over the visits of the sides
module _ (L : Limits) (D : Prefix) (R : List Clause) (κ : Quantifier) (f : Node → Store → LearningResult) (g : Node → PlainResult) (s : Node) where
  onward_le : (up : Bool) (b : Bool) (A : Constraint) (st : Store) (n m : ℕ) (x : Bool) → goes_up D κ (suc (length s)) b A ≡ up → dropped b κ ≡ x → n ≤ m
      → (f (s ▹ true) st).visits ≤ (g (s ▹ true)).visits → (o : Outcome (Unit {0})) → (proceed (up_or_onward L D R up κ s b A st n) (f (s ▹ true)) st).visits ≤ (plain_after_off x κ g s o m).visits
  onward_le true b A st n m true e d h k o = suc-le-suc h
  onward_le true b A st n m false e d h k o = omega (arith, h)
  onward_le false b A st n m true e d h k o = absurd (true≢false (sym d ∙ or_false_left (dropped b κ) (not (mentions D (suc (length s)) A)) e))
  onward_le false b A st n m false e d h k o =
      subst (λ (i : ℕ). i ≤ suc (m + (g (s ▹ true)).visits)) (sym (on_visits L D R κ s b A (f (s ▹ true) st).outcome (f (s ▹ true) st).store (suc (n + (f (s ▹ true) st).visits))))
      (omega (arith, h, k))

  off_le : (o : Outcome Constraint) (st : Store) (n m : ℕ) (a : Outcome (Unit {0})) → outline a ≡ outline o → n ≤ m
      → (f (s ▹ true) st).visits ≤ (g (s ▹ true)).visits → (proceed (after_off L D R κ s o st n) (f (s ▹ true)) st).visits ≤ (plain_after_off (stops κ a) κ g s a m).visits
  off_le (decided b A) st n m a e h k = onward_le (goes_up D κ (suc (length s)) b A) b A st n m (stops κ a) refl (sym (stops_outline κ a (decided b A) e)) h k a
  off_le (mixed ls) st n m a e h k =
      subst (λ (x : Bool). suc (n + (f (s ▹ true) st).visits) ≤ (plain_after_off x κ g s a m).visits) (sym (stops_outline {X = Constraint} κ a (mixed ls) e)) (omega (arith, h, k))

plain_one : (D : Prefix) (R : List Clause) (ks : List Quantifier) (s : Node) → 1 ≤ (plain_search D R ks s).visits
plain_one D R [] s = by (any (dead D s) R) (all (satisfied D s) R)
  where
    by : (x y : Bool) → 1 ≤ (plain_settle x y (λ t. record { outcome = decided false tt; visits = 1 }) s).visits
    by true y = le_refl 1
    by false true = le_refl 1
    by false false = le_refl 1
plain_one D R (κ ∷ ks) s = by (any (dead D s) R) (all (satisfied D s) R)
  where
    each_turn : (x : Bool) (o : Outcome (Unit {0})) (n : ℕ) → 1 ≤ (plain_after_off x κ (plain_search D R ks) s o n).visits
    each_turn true o n = suc-le-suc zero-le
    each_turn false o n = suc-le-suc zero-le

    by : (x y : Bool) → 1 ≤ (plain_settle x y (plain_branch κ (plain_search D R ks)) s).visits
    by true y = le_refl 1
    by false true = le_refl 1
    by false false = each_turn (stops κ (plain_search D R ks (s ▹ false)).outcome) (plain_search D R ks (s ▹ false)).outcome (plain_search D R ks (s ▹ false)).visits

module _ (L : Limits) (one : 1 ≤ L.constraints) (D : Prefix) (R : List Clause) (ok : (r : Clause) → Mem r R → Rising D 0 r) (inside : (r : Clause) → Mem r R → (l : Literal) → Mem l r → place D l ≤ length (quantifiers D)) where
  visit_le : (eligible : ℕ → ℕ → Bool) (next : Node → Store → LearningResult) (more : Node → PlainResult) (s : Node) (st : Store) → length s ≤ length (quantifiers D)
      → Fair D R eligible s → SoundStore L D R st → 1 ≤ (plain_visit D R more s).visits
      → (any (dead D s) R ≡ false → all (satisfied D s) R ≡ false → (next s st).visits ≤ (more s).visits)
      → (visit D R eligible next s st).visits ≤ (plain_visit D R more s).visits
  visit_le eligible next more s st small fair sok pos go = by (leaf D R eligible s st) (leaf_by D R s eligible st (λ v E. Good D R v E s) (good_leaves D R ok s small L st sok eligible fair))
    where
      by : (o : Option (Outcome Constraint)) → Leaf D R s (λ v E. Good D R v E s) o → (settle o next s st).visits ≤ (plain_visit D R more s).visits
      by none w = subst (λ (x : Bool). (next s st).visits ≤ (plain_settle x (all (satisfied D s) R) more s).visits) (sym w.0) (subst (λ (x : Bool). (next s st).visits ≤ (plain_settle false x more s).visits) (sym w.1) (go w.0 w.1))
      by (some o) w = pos

  -- below a visited node
  abbrev more : List Quantifier → Node → PlainResult
  more [] = λ t. record { outcome = decided false tt; visits = 1 }
  more (κ ∷ ks) = plain_branch κ (plain_search D R ks)

  is_visit : (ks : List Quantifier) (s : Node) → plain_search D R ks s ≡ plain_visit D R (more ks) s
  is_visit [] s = refl
  is_visit (κ ∷ ks) s = refl

  below_le : (ks : List Quantifier) → FreeFirst ks → (s : Node) (st : Store) → drop (length s) (quantifiers D) ≡ ks → length s ≤ length (quantifiers D) → SoundStore L D R st
      → any (dead D s) R ≡ false → all (satisfied D s) R ≡ false → (below L D R ks s st).visits ≤ (more ks s).visits
  below_le [] fl s st rest small sok nd ns = le_refl 1
  below_le (κ ∷ ks) fl s st rest small sok nd ns =
      off_le L D R κ f (plain_search D R ks) s (f (s ▹ false) st).outcome (f (s ▹ false) st).store (f (s ▹ false) st).visits (plain_search D R ks (s ▹ false)).visits (plain_search D R ks (s ▹ false)).outcome
      agree
      (side false st sok (λ p q. below_le ks fl.1 (s ▹ false) st (rests false) (shorter false) sok p q))
      (side true (f (s ▹ false) st).store sound.store_ok (λ p q. below_le ks fl.1 (s ▹ true) (f (s ▹ false) st).store (rests true) (shorter true) sound.store_ok p q))
    where
      f : Node → Store → LearningResult
      f t st' = raise D (visit D R eqb (below L D R ks) t st')

      rests : (b : Bool) → drop (length (s ▹ b)) (quantifiers D) ≡ ks
      rests b = rest_up D s b κ ks rest

      shorter : (b : Bool) → length (s ▹ b) ≤ length (quantifiers D)
      shorter b = rest_small D s b κ ks rest

      sound : Ok L one D R ok ks (s ▹ false) (f (s ▹ false) st)
      sound = side_ok L one D R ok inside ks (s ▹ false) st (record { order = fl.1; rest = rests false; small = shorter false }) sok

      agree : outline (plain_search D R ks (s ▹ false)).outcome ≡ outline (f (s ▹ false) st).outcome
      agree = sym (plain_says D R ok inside ks fl.1 (s ▹ false) (rests false) (shorter false)).verdict ∙ (says L one D R ok ks (s ▹ false) (rests false) (f (s ▹ false) st).outcome sound.answer_ok).verdict

      side : (b : Bool) (st' : Store) → SoundStore L D R st' → (any (dead D (s ▹ b)) R ≡ false → all (satisfied D (s ▹ b)) R ≡ false → (below L D R ks (s ▹ b) st').visits ≤ (more ks (s ▹ b)).visits)
          → (f (s ▹ b) st').visits ≤ (plain_search D R ks (s ▹ b)).visits
      side b st' sok' go =
          subst (λ (w : PlainResult). (f (s ▹ b) st').visits ≤ w.visits) (sym (is_visit ks (s ▹ b)))
          (visit_le eqb (below L D R ks) (more ks) (s ▹ b) st' (shorter b) (fair_inner D R (s ▹ b)) sok'
          (subst (λ (w : PlainResult). 1 ≤ w.visits) (is_visit ks (s ▹ b)) (plain_one D R ks (s ▹ b))) go)

  pub search_le : (ks : List Quantifier) → FreeFirst ks → (s : Node) (st : Store) → drop (length s) (quantifiers D) ≡ ks → length s ≤ length (quantifiers D) → Fair D R leb s → SoundStore L D R st
      → (learning_search L D R ks s st).visits ≤ (plain_search D R ks s).visits
  search_le ks fl s st rest small fair sok =
      subst (λ (w : PlainResult). (learning_search L D R ks s st).visits ≤ w.visits) (sym (is_visit ks s))
      (visit_le leb (below L D R ks) (more ks) s st small fair sok (subst (λ (w : PlainResult). 1 ≤ w.visits) (is_visit ks s) (plain_one D R ks s))
      (λ p q. below_le ks fl s st rest small sok p q))
