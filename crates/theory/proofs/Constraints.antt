-- Constraints: the last place, reduction.
use Prim.Native.Nat.{ℕ, ◌≤◌, ◌<◌}
use native.Mathlib.Nat.{le_refl}
use native.Mathlib.Omega.{arith}
use mathlib.Core.Path.{◌≡◌, refl, sym, ap, ◌∙◌}
use mathlib.Core.Logic.{◌⊎◌, inl, inr}
use mathlib.Core.Bool.{Bool, true, false, cond}
use mathlib.Core.List.{[], ◌∷◌}
use Rattle.qbf.specs.Formula.{Literal, Prefix, free, place, quantifier_at}
use Rattle.qbf.specs.Learning.{Constraint, dropped, keep_or_drop, last_place, last_place_from, reduce}
use Rattle.qbf.specs.Card.{Mem}
use Rattle.theory.proofs.Game.{Rising}

pub last_from_lem : (D : Prefix) (d : ℕ) (E : Constraint) → Rising D d E → d ≤ last_place_from D d E
last_from_lem D d [] up = le_refl d
last_from_lem D d (l ∷ E) up = omega (arith, up.0, last_from_lem D (place D l) E up.1)

pub last_max : (D : Prefix) (d : ℕ) (E : Constraint) → Rising D d E → (l : Literal) → Mem l E → place D l ≤ last_place_from D d E
last_max D d [] up l m = absurd m
last_max D d (k ∷ E) up l (inl p) = omega (arith, ap (place D) p, last_from_lem D (place D k) E up.1)
last_max D d (k ∷ E) up l (inr m) = last_max D (place D k) E up.1 l m

pub last_mem : (D : Prefix) (d : ℕ) (E : Constraint) → (last_place_from D d E ≡ d) ⊎ ((l : Literal) × Mem l E × (place D l ≡ last_place_from D d E))
last_mem D d [] = inl refl
last_mem D d (k ∷ E) = by (last_mem D (place D k) E)
  where
    by : (last_place_from D (place D k) E ≡ place D k) ⊎ ((l : Literal) × Mem l E × (place D l ≡ last_place_from D (place D k) E))
        → (last_place_from D (place D k) E ≡ d) ⊎ ((l : Literal) × Mem l (k ∷ E) × (place D l ≡ last_place_from D (place D k) E))
    by (inl e) = inr (k, inl refl, sym e)
    by (inr w) = inr (w.0, inr w.1, w.2)

-- lower the bound
pub rising_from : (D : Prefix) (c d : ℕ) (E : Constraint) → c ≤ d → Rising D d E → Rising D c E
rising_from D c d [] h up = tt
rising_from D c d (l ∷ E) h up = (omega (arith, h, up.0), up.1)

module _ (D : Prefix) (v : Bool) where
  abbrev pub Reduced : Constraint → Type 0
  Reduced E = dropped v (quantifier_at D (last_place D E)) ≡ false

  pub reduce_sub : (U : Constraint) (l : Literal) → Mem l (reduce D v U) → Mem l U
  reduce_sub [] l m = m
  reduce_sub (k ∷ U) l m = by (dropped v (quantifier_at D (place D k))) (reduce D v U) (reduce_sub U l) m
    where
      by : (o : Bool) (rs : Constraint) → (Mem l rs → Mem l U) → Mem l (keep_or_drop o k rs) → Mem l (k ∷ U)
      by true [] ih n = absurd n
      by false [] ih (inl p) = inl p
      by false [] ih (inr n) = absurd n
      by o (x ∷ xs) ih (inl p) = inl p
      by o (x ∷ xs) ih (inr n) = inr (ih n)

  pub reduce_rising : (d : ℕ) (U : Constraint) → Rising D d U → Rising D d (reduce D v U)
  reduce_rising d [] up = tt
  reduce_rising d (k ∷ U) up = by (dropped v (quantifier_at D (place D k))) (reduce D v U) (reduce_rising (place D k) U up.1)
    where
      by : (o : Bool) (rs : Constraint) → Rising D (place D k) rs → Rising D d (keep_or_drop o k rs)
      by true [] ih = tt
      by false [] ih = (up.0, tt)
      by o (x ∷ xs) ih = (up.0, ih)

  -- a literal stays, or is of the kind that is dropped and beyond the last place
  pub reduce_rest : (d : ℕ) (U : Constraint) → Rising D d U → (l : Literal) → Mem l U
      → Mem l (reduce D v U) ⊎ ((dropped v (quantifier_at D (place D l)) ≡ true) × (last_place_from D d (reduce D v U) < place D l))
  reduce_rest d [] up l m = absurd m
  reduce_rest d (k ∷ U) up l m = by (dropped v (quantifier_at D (place D k))) refl (reduce D v U) (reduce_rest (place D k) U up.1 l) m
    where
      by : (o : Bool) → dropped v (quantifier_at D (place D k)) ≡ o → (rs : Constraint)
          → (Mem l U → Mem l rs ⊎ ((dropped v (quantifier_at D (place D l)) ≡ true) × (last_place_from D (place D k) rs < place D l)))
          → Mem l (k ∷ U) → Mem l (keep_or_drop o k rs) ⊎ ((dropped v (quantifier_at D (place D l)) ≡ true) × (last_place_from D d (keep_or_drop o k rs) < place D l))
      by true e [] ih (inl p) = inr (ap (λ (x : Literal). dropped v (quantifier_at D (place D x))) p ∙ e, omega (arith, up.0, ap (place D) p))
      by true e [] ih (inr n) = go (ih n)
        where
          go : ⊥ ⊎ ((dropped v (quantifier_at D (place D l)) ≡ true) × (place D k < place D l)) → ⊥ ⊎ ((dropped v (quantifier_at D (place D l)) ≡ true) × (d < place D l))
          go (inl z) = absurd z
          go (inr w) = inr (w.0, omega (arith, w.1, up.0))
      by false e [] ih (inl p) = inl (inl p)
      by false e [] ih (inr n) = go (ih n)
        where
          go : ⊥ ⊎ ((dropped v (quantifier_at D (place D l)) ≡ true) × (place D k < place D l)) → Mem l (k ∷ []) ⊎ ((dropped v (quantifier_at D (place D l)) ≡ true) × (place D k < place D l))
          go (inl z) = absurd z
          go (inr w) = inr w
      by o e (x ∷ xs) ih (inl p) = inl (inl p)
      by o e (x ∷ xs) ih (inr n) = go (ih n)
        where
          go : Mem l (x ∷ xs) ⊎ ((dropped v (quantifier_at D (place D l)) ≡ true) × (last_place_from D (place D k) (x ∷ xs) < place D l)) → Mem l (k ∷ x ∷ xs) ⊎ ((dropped v (quantifier_at D (place D l)) ≡ true) × (last_place_from D (place D k) (x ∷ xs) < place D l))
          go (inl z) = inl (inr z)
          go (inr w) = inr w

  reduce_end : (d : ℕ) (U : Constraint) → dropped v (quantifier_at D d) ≡ false → dropped v (quantifier_at D (last_place_from D d (reduce D v U))) ≡ false
  reduce_end d [] h = h
  reduce_end d (k ∷ U) h = by (dropped v (quantifier_at D (place D k))) refl (reduce D v U) (reduce_end d U h)
    where
      by : (o : Bool) → dropped v (quantifier_at D (place D k)) ≡ o → (rs : Constraint) → dropped v (quantifier_at D (last_place_from D d rs)) ≡ false → dropped v (quantifier_at D (last_place_from D d (keep_or_drop o k rs))) ≡ false
      by true e [] ih = h
      by false e [] ih = e
      by o e (x ∷ xs) ih = ih

  dropped_free : dropped v free ≡ false
  dropped_free = by v
    where
      by : (u : Bool) → dropped u free ≡ false
      by true = refl
      by false = refl

  pub reduce_reduced : (U : Constraint) → Reduced (reduce D v U)
  reduce_reduced U = reduce_end 0 U dropped_free

  -- what is reduced stays as it is when it is reduced again
  reduced_from : (d : ℕ) (E : Constraint) → dropped v (quantifier_at D (last_place_from D d E)) ≡ false → reduce D v E ≡ E
  reduced_from d [] h = refl
  reduced_from d (k ∷ []) h = ap (λ (o : Bool). cond o [] (k ∷ [])) h
  reduced_from d (k ∷ l ∷ E) h = ap {B = Constraint} (keep_or_drop (dropped v (quantifier_at D (place D k))) k) (reduced_from (place D k) (l ∷ E) h)

  pub reduced_fixed : (E : Constraint) → Reduced E → reduce D v E ≡ E
  reduced_fixed E h = reduced_from 0 E h
