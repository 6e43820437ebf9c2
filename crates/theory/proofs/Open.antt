-- The search of a reading with open flags says what its completions are.
use Prim.Native.Nat.{ℕ, suc, ◌≤◌}
use native.Mathlib.Nat.{suc_inj}
use native.Mathlib.Omega.{arith}
use mathlib.Core.Path.{◌≡◌, refl, sym, ap, ◌∙◌, subst}
use mathlib.Core.Logic.{◌⊎◌, inl, inr}
use mathlib.Core.Bool.{Bool, true, false, beq}
use mathlib.Core.List.{List, [], ◌∷◌, ◌++◌}
use mathlib.Core.Option.{Option, none, some}
use lib.ListN.{length, drop}
use Rattle.qbf.specs.Formula.{Clause, Literal, Node, Prefix, Quantifier, ◌▹◌, all, any, dead, exists, forall, free, place, quantifiers, satisfied}
use Rattle.qbf.specs.Truth.{Outcome, bound, combine, completions, decided, free_count, mixed}
use Rattle.qbf.specs.Plain.{PlainResult, both, plain_after_off, plain_search, plain_settle, stops}
use Rattle.qbf.specs.Open.{Reading, completes, enter, open_search}
use Rattle.qbf.specs.Card.{Mem}
use Rattle.theory.proofs.Basics.{and_left, and_right, and_both, any→, beq_refl, beq→≡}
use Rattle.theory.proofs.Rest.{rest_up, rest_small}
use Rattle.theory.proofs.Game.{Rising, Win, win_satisfied, dead→Dead, win_dead}
use Rattle.theory.proofs.Verdict.{NoFree, Says, without_free}
use Rattle.theory.proofs.Search.{FreeFirst}
use Rattle.theory.proofs.PlainSearch.{plain_says}
use Rattle.theory.proofs.Topmost.{win_reading, append_nil, append_path}

abbrev U : Type 0
U = Unit {0}

-- some full reading completes it
completion : (os : Reading) → (w : Node) × (length w ≡ length os) × (completes os w ≡ true)
completion [] = ([], refl, refl)
completion (none ∷ os) = let k = completion os in (false ∷ k.0, ap suc k.1, k.2)
completion (some b ∷ os) = let k = completion os in (b ∷ k.0, ap suc k.1, and_both (beq b b) (completes os k.0) (beq_refl b) k.2)

module _ (D : Prefix) (R : List Clause) where
  abbrev pub At : List Quantifier → Node → Node → Bool → Type 0
  At ks s w v = completions true D R (bound ks) (s ++ w) ≡ v

  abbrev pub Some : Reading → List Quantifier → Node → Bool → Type 0
  Some os ks s v = (w : Node) × (length w ≡ free_count ks) × (completes os w ≡ true) × At ks s w v

  abbrev pub SettlesAt : Reading → List Quantifier → Node → Outcome U → Type 0
  SettlesAt os ks s (decided v x) = (w : Node) → length w ≡ free_count ks → completes os w ≡ true → At ks s w v
  SettlesAt os ks s (mixed ls) = (v : Bool) → Some os ks s v

  -- ---- some reading has the truth that not all have otherwise
  some_reading : (v : Bool) (ks : List Quantifier) (s : Node) → FreeFirst ks → completions v D R ks s ≡ v → Some [] ks s v
  some_reading v ks s f h = go v ks s f h
    where
      none_left : (v : Bool) (ks : List Quantifier) (s : Node) → NoFree ks → completions v D R ks s ≡ v → completions true D R ks (s ++ []) ≡ v
      none_left true ks s n h = ap (completions true D R ks) (append_nil s) ∙ h
      none_left false ks s n h = ap (completions true D R ks) (append_nil s) ∙ sym (without_free D R ks s n) ∙ h

      pick : (v x y : Bool) → combine v x y ≡ v → (x ≡ v) ⊎ (y ≡ v)
      pick true true y e = inl refl
      pick true false y e = inr e
      pick false true y e = inr e
      pick false false y e = inl refl

      go : (v : Bool) (ks : List Quantifier) (s : Node) → FreeFirst ks → completions v D R ks s ≡ v → Some [] ks s v
      go v [] s f h = ([], refl, refl, none_left v [] s tt h)
      go v (exists ∷ ks) s f h = ([], refl, refl, none_left v (exists ∷ ks) s f.0 h)
      go v (forall ∷ ks) s f h = ([], refl, refl, none_left v (forall ∷ ks) s f.0 h)
      go v (free ∷ ks) s f h = by (pick v (completions v D R ks (s ▹ false)) (completions v D R ks (s ▹ true)) (flat v h)) (go v ks (s ▹ false) f.1) (go v ks (s ▹ true) f.1)
        where
          flat : (v : Bool) → completions v D R (free ∷ ks) s ≡ v → combine v (completions v D R ks (s ▹ false)) (completions v D R ks (s ▹ true)) ≡ v
          flat true e = e
          flat false e = e

          down : (c : Bool) → Some [] ks (s ▹ c) v → Some [] (free ∷ ks) s v
          down c k = (c ∷ k.0, ap suc k.1, refl, sym (ap (completions true D R (bound ks)) (append_path s c k.0)) ∙ k.3)

          by : (completions v D R ks (s ▹ false) ≡ v) ⊎ (completions v D R ks (s ▹ true) ≡ v) → (completions v D R ks (s ▹ false) ≡ v → Some [] ks (s ▹ false) v) → (completions v D R ks (s ▹ true) ≡ v → Some [] ks (s ▹ true) v) → Some [] (free ∷ ks) s v
          by (inl e) a b = down false (a e)
          by (inr e) a b = down true (b e)

  says_settles : (ks : List Quantifier) (s : Node) (o : Outcome U) → FreeFirst ks → Says D R ks s o → SettlesAt [] ks s o
  says_settles ks s (decided v x) f h = λ w e q. win_reading D R v ks s w f e (of v h)
    where
      of : (v : Bool) → Says D R ks s (decided v x) → Win D R v ks s
      of true h = h.all_true
      of false h = h.some_true
  says_settles ks s (mixed ls) f h = λ v. some_reading v ks s f (of v)
    where
      of : (v : Bool) → completions v D R ks s ≡ v
      of true = h.some_true
      of false = h.all_true

  -- ---- a free variable that is open, or recorded
  module _ (os : Reading) (ks : List Quantifier) (s : Node) (size : length os ≡ free_count ks) where
    up : (c : Bool) (w : Node) (v : Bool) → At ks (s ▹ c) w v → At (free ∷ ks) s (c ∷ w) v
    up c w v h = sym (ap (completions true D R (bound ks)) (append_path s c w)) ∙ h

    one : (c : Bool) (v : Bool) (x : U) → SettlesAt os ks (s ▹ c) (decided v x) → Some (none ∷ os) (free ∷ ks) s v
    one c v x h = let k = completion os in (c ∷ k.0, ap suc (k.1 ∙ size), k.2, up c k.0 v (h k.0 (k.1 ∙ size) k.2))

    other : (c : Bool) (v : Bool) → Some os ks (s ▹ c) v → Some (none ∷ os) (free ∷ ks) s v
    other c v k = (c ∷ k.0, ap suc k.1, k.2, up c k.0 v k.3)

    same : (v : Bool) (x y : U) → SettlesAt os ks (s ▹ false) (decided v x) → SettlesAt os ks (s ▹ true) (decided v y) → SettlesAt (none ∷ os) (free ∷ ks) s (decided v tt)
    same v x y a b [] e q = absurd (omega (arith, e))
    same v x y a b (false ∷ w) e q = up false w v (a w (suc_inj e) q)
    same v x y a b (true ∷ w) e q = up true w v (b w (suc_inj e) q)

    open_variable : (a b : Outcome U) → SettlesAt os ks (s ▹ false) a → SettlesAt os ks (s ▹ true) b → SettlesAt (none ∷ os) (free ∷ ks) s (both s a b)
    open_variable (decided true x) (decided true y) a b = same true x y a b
    open_variable (decided false x) (decided false y) a b = same false x y a b
    open_variable (decided true x) (decided false y) a b = λ v. by v
      where
        by : (v : Bool) → Some (none ∷ os) (free ∷ ks) s v
        by true = one false true x a
        by false = one true false y b
    open_variable (decided false x) (decided true y) a b = λ v. by v
      where
        by : (v : Bool) → Some (none ∷ os) (free ∷ ks) s v
        by true = one true true y b
        by false = one false false x a
    open_variable (decided true x) (mixed ls) a b = λ v. other true v (b v)
    open_variable (decided false x) (mixed ls) a b = λ v. other true v (b v)
    open_variable (mixed ls) o a b = λ v. other false v (a v)

    recorded_variable : (c : Bool) (o : Outcome U) → SettlesAt os ks (s ▹ c) o → SettlesAt (some c ∷ os) (free ∷ ks) s o
    recorded_variable c (decided v x) h = λ w e q. by w e q
      where
        by : (w : Node) → length w ≡ free_count (free ∷ ks) → completes (some c ∷ os) w ≡ true → At (free ∷ ks) s w v
        by [] e q = absurd (omega (arith, e))
        by (d ∷ w) e q =
            subst (λ (z : Bool). At (free ∷ ks) s (z ∷ w) v) (beq→≡ c d (and_left (beq c d) (completes os w) q)) (up c w v (h w (suc_inj e) (and_right (beq c d) (completes os w) q)))
    recorded_variable c (mixed ls) h = λ v. let k = h v in (c ∷ k.0, ap suc k.1, and_both (beq c c) (completes os k.0) (beq_refl c) k.2, up c k.0 v k.3)

  module _ (ok : (r : Clause) → Mem r R → Rising D 0 r) (inside : (r : Clause) → Mem r R → (l : Literal) → Mem l r → place D l ≤ length (quantifiers D)) where
    pub open_settles : (os : Reading) (ks : List Quantifier) → FreeFirst ks → (s : Node) → length os ≡ free_count ks → drop (length s) (quantifiers D) ≡ ks → length s ≤ length (quantifiers D) → SettlesAt os ks s (open_search D R os ks s).outcome
    open_settles [] ks f s size rest small = says_settles ks s (plain_search D R ks s).outcome f (plain_says D R ok inside ks f s rest small)
    open_settles (o ∷ os) [] f s size rest small = absurd (omega (arith, size))
    open_settles (o ∷ os) (exists ∷ ks) f s size rest small = absurd (omega (arith, size))
    open_settles (o ∷ os) (forall ∷ ks) f s size rest small = absurd (omega (arith, size))
    open_settles (o ∷ os) (free ∷ ks) f s size rest small =
        by (any (dead D s) R) refl (all (satisfied D s) R) refl (entered o (λ c. open_settles os ks f.1 (s ▹ c) (suc_inj size) (rest_up D s c free ks rest) (shorter c)))
      where
        shorter : (c : Bool) → length (s ▹ c) ≤ length (quantifiers D)
        shorter c = rest_small D s c free ks rest

        -- a node that is won settles all completions
        won : (v : Bool) → Win D R v (free ∷ ks) s → SettlesAt (o ∷ os) (free ∷ ks) s (decided v tt)
        won v h w e q = win_reading D R v (free ∷ ks) s w f e h

        g : Node → PlainResult
        g = open_search D R os ks

        -- an open free variable visits both combine
        turned : (a : Outcome U) (n : ℕ) → (plain_after_off (stops free a) free g s a n).outcome ≡ both s a (g (s ▹ true)).outcome
        turned (decided true x) n = refl
        turned (decided false x) n = refl
        turned (mixed ls) n = refl

        entered : (o : Option Bool) → ((c : Bool) → SettlesAt os ks (s ▹ c) (open_search D R os ks (s ▹ c)).outcome) → SettlesAt (o ∷ os) (free ∷ ks) s (enter o (open_search D R os ks) s).outcome
        entered none h =
            subst (SettlesAt (none ∷ os) (free ∷ ks) s) (sym (turned (g (s ▹ false)).outcome (g (s ▹ false)).visits))
            (open_variable os ks s (suc_inj size) (g (s ▹ false)).outcome (g (s ▹ true)).outcome (h false) (h true))
        entered (some c) h = recorded_variable os ks s (suc_inj size) c (open_search D R os ks (s ▹ c)).outcome (h c)

        by : (x : Bool) → any (dead D s) R ≡ x → (y : Bool) → all (satisfied D s) R ≡ y → SettlesAt (o ∷ os) (free ∷ ks) s (enter o (open_search D R os ks) s).outcome
            → SettlesAt (o ∷ os) (free ∷ ks) s (plain_settle x y (enter o (open_search D R os ks)) s).outcome
        by true e y g h =
            let w = any→ (dead D s) R e in
            won false (win_dead D R (free ∷ ks) s w.0 rest w.1 (ok w.0 w.1) (dead→Dead D R s w.0 (ok w.0 w.1) w.2))
        by false e true g h = won true (win_satisfied D R (free ∷ ks) s g)
        by false e false g h = h
