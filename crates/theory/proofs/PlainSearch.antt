-- The plain search gives the verdict by quantification.
use Prim.Native.Nat.{◌≤◌}
use mathlib.Core.Path.{◌≡◌, refl, sym, ◌∙◌, subst}
use mathlib.Core.Logic.{◌⊎◌, inl, inr}
use mathlib.Core.Bool.{Bool, true, false, not, true≢false, false≢true}
use mathlib.Core.List.{List, [], ◌∷◌}
use lib.ListN.{length, drop}
use Rattle.qbf.specs.Formula.{Clause, Literal, Node, Prefix, Quantifier, ◌▹◌, all, any, dead, exists, forall, free, place, quantifiers, satisfied}
use Rattle.qbf.specs.Truth.{Outcome, decided, mixed, outline, verdict_of}
use Rattle.qbf.specs.Plain.{PlainResult, both, by_sides, plain_after_off, plain_branch, plain_search, plain_settle, plain_visit, stops}
use Rattle.qbf.specs.Learning.{dropped}
use Rattle.qbf.specs.Card.{Mem}
use Rattle.theory.proofs.Basics.{dichotomy, any→}
use Rattle.theory.proofs.Game.{Rising, Win, win_one, win_both, win_satisfied, dead→Dead, win_dead}
use Rattle.theory.proofs.Rest.{drop_all, rest_up, rest_small}
use Rattle.theory.proofs.Verdict.{NoFree, Says, says_win, says_mixed, mixed_free}
use Rattle.theory.proofs.Search.{Below, FreeFirst, full}

abbrev U : Type 0
U = Unit {0}

module _ (D : Prefix) (R : List Clause) (ok : (r : Clause) → Mem r R → Rising D 0 r) where
  pub win_of : {X : Type 0} (v : Bool) (x : X) (ks : List Quantifier) (s : Node) → Says D R ks s (decided v x) → Win D R v ks s
  win_of true x ks s h = h.all_true
  win_of false x ks s h = h.some_true

  -- both sides at a free variable
  free_says : (ks : List Quantifier) (s : Node) (a b : Outcome U) → Says D R ks (s ▹ false) a → Says D R ks (s ▹ true) b → Says D R (free ∷ ks) s (both s a b)
  free_says ks s (decided true x) (decided true y) p q = says_win D R true tt (free ∷ ks) s (win_both D R true free ks s refl (λ c. combine c))
    where
      combine : (c : Bool) → Win D R true ks (s ▹ c)
      combine false = p.all_true
      combine true = q.all_true
  free_says ks s (decided true x) (decided false y) p q = says_mixed D R ks s (decided true x) (decided false y) p q refl refl
  free_says ks s (decided true x) (mixed ls) p q = says_mixed D R ks s (decided true x) (mixed ls) p q refl refl
  free_says ks s (decided false x) (decided true y) p q = says_mixed D R ks s (decided false x) (decided true y) p q refl refl
  free_says ks s (decided false x) (decided false y) p q = says_win D R false tt (free ∷ ks) s (win_both D R false free ks s refl (λ c. combine c))
    where
      combine : (c : Bool) → Win D R false ks (s ▹ c)
      combine false = p.some_true
      combine true = q.some_true
  free_says ks s (decided false x) (mixed ls) p q = says_mixed D R ks s (decided false x) (mixed ls) p q refl refl
  free_says ks s (mixed ls) b p q = says_mixed D R ks s (mixed ls) b p q refl refl

  -- the on side at exists or forall
  side_says : (κ : Quantifier) (ks : List Quantifier) (s : Node) → NoFree ks → ((c : Bool) → (dropped c κ ≡ dropped (not c) κ → ⊥)) → (a b : Outcome U) → stops κ a ≡ false
      → Says D R ks (s ▹ false) a → Says D R ks (s ▹ true) b → Says D R (κ ∷ ks) s b
  side_says κ ks s n d (mixed ls) b e p q = absurd (mixed_free D R ks (s ▹ false) ls n p)
  side_says κ ks s n d (decided v x) (mixed ls) e p q = absurd (mixed_free D R ks (s ▹ true) ls n q)
  side_says κ ks s n d (decided v x) (decided c y) e p q = by (dichotomy (dropped c κ))
    where
      same_side : (v c : Bool) → dropped v κ ≡ false → dropped c κ ≡ false → v ≡ c
      same_side true true e h = refl
      same_side true false e h = absurd (d true (e ∙ sym h))
      same_side false true e h = absurd (d false (e ∙ sym h))
      same_side false false e h = refl

      by : (dropped c κ ≡ true) ⊎ (dropped c κ ≡ false) → Says D R (κ ∷ ks) s (decided c y)
      by (inl o) = says_win D R c y (κ ∷ ks) s (win_one D R c κ ks s true o (win_of c y ks (s ▹ true) q))
      by (inr o) = says_win D R c y (κ ∷ ks) s (win_both D R c κ ks s o combine)
        where
          combine : (b : Bool) → Win D R c ks (s ▹ b)
          combine false = subst (λ (w : Bool). Win D R w ks (s ▹ false)) (same_side v c e o) (win_of v x ks (s ▹ false) p)
          combine true = win_of c y ks (s ▹ true) q

  second_says : (κ : Quantifier) (ks : List Quantifier) (s : Node) → Below κ ks → (a b : Outcome U) → stops κ a ≡ false → Says D R ks (s ▹ false) a → Says D R ks (s ▹ true) b → Says D R (κ ∷ ks) s (by_sides κ s a b)
  second_says free ks s n a b e p q = free_says ks s a b p q
  second_says exists ks s n a b e p q = side_says exists ks s n (λ c. differ c) a b e p q
    where
      differ : (c : Bool) → dropped c exists ≡ dropped (not c) exists → ⊥
      differ true h = true≢false h
      differ false h = false≢true h
  second_says forall ks s n a b e p q = side_says forall ks s n (λ c. differ c) a b e p q
    where
      differ : (c : Bool) → dropped c forall ≡ dropped (not c) forall → ⊥
      differ true h = false≢true h
      differ false h = true≢false h

  stop_says : (κ : Quantifier) (ks : List Quantifier) (s : Node) (a : Outcome U) → stops κ a ≡ true → Says D R ks (s ▹ false) a → Says D R (κ ∷ ks) s a
  stop_says κ ks s (decided v x) e p = says_win D R v x (κ ∷ ks) s (win_one D R v κ ks s false e (win_of v x ks (s ▹ false) p))
  stop_says κ ks s (mixed ls) e p = absurd (false≢true e)

  module _ (inside : (r : Clause) → Mem r R → (l : Literal) → Mem l r → place D l ≤ length (quantifiers D)) where
    settle_says : (ks : List Quantifier) (s : Node) (next : Node → PlainResult) → drop (length s) (quantifiers D) ≡ ks
        → (any (dead D s) R ≡ false → all (satisfied D s) R ≡ false → Says D R ks s (next s).outcome)
        → Says D R ks s (plain_visit D R next s).outcome
    settle_says ks s next rest go = by (any (dead D s) R) refl (all (satisfied D s) R) refl
      where
        by : (x : Bool) → any (dead D s) R ≡ x → (y : Bool) → all (satisfied D s) R ≡ y → Says D R ks s (plain_settle x y next s).outcome
        by true e y f =
            let w = any→ (dead D s) R e in
            says_win D R false tt ks s (win_dead D R ks s w.0 rest w.1 (ok w.0 w.1) (dead→Dead D R s w.0 (ok w.0 w.1) w.2))
        by false e true f = says_win D R true tt ks s (win_satisfied D R ks s f)
        by false e false f = go e f

    pub plain_says : (ks : List Quantifier) → FreeFirst ks → (s : Node) → drop (length s) (quantifiers D) ≡ ks → length s ≤ length (quantifiers D) → Says D R ks s (plain_search D R ks s).outcome
    plain_says [] fl s rest small =
        settle_says [] s (λ t. record { outcome = decided false tt; visits = 1 }) rest (λ nd ns. absurd (full D R ok inside s (drop_all (quantifiers D) (length s) small rest) nd ns))
    plain_says (κ ∷ ks) fl s rest small =
        settle_says (κ ∷ ks) s (plain_branch κ (plain_search D R ks)) rest
        (λ nd ns. branch (stops κ (plain_search D R ks (s ▹ false)).outcome) refl
        (plain_says ks fl.1 (s ▹ false) (rest_up D s false κ ks rest) (shorter false)) (plain_says ks fl.1 (s ▹ true) (rest_up D s true κ ks rest) (shorter true)))
      where
        shorter : (b : Bool) → length (s ▹ b) ≤ length (quantifiers D)
        shorter b = rest_small D s b κ ks rest

        branch : (x : Bool) → stops κ (plain_search D R ks (s ▹ false)).outcome ≡ x → Says D R ks (s ▹ false) (plain_search D R ks (s ▹ false)).outcome → Says D R ks (s ▹ true) (plain_search D R ks (s ▹ true)).outcome
            → Says D R (κ ∷ ks) s (plain_after_off x κ (plain_search D R ks) s (plain_search D R ks (s ▹ false)).outcome (plain_search D R ks (s ▹ false)).visits).outcome
        branch true e p q = stop_says κ ks s (plain_search D R ks (s ▹ false)).outcome e p
        branch false e p q = second_says κ ks s fl.0 (plain_search D R ks (s ▹ false)).outcome (plain_search D R ks (s ▹ true)).outcome e p q

    pub plain_verdict : (ks : List Quantifier) → FreeFirst ks → (s : Node) → drop (length s) (quantifiers D) ≡ ks → length s ≤ length (quantifiers D) → outline (plain_search D R ks s).outcome ≡ verdict_of D R ks s
    plain_verdict ks fl s rest small = sym (plain_says ks fl s rest small).verdict
