-- The levels of a prefix with its free variables first: equal levels have one quantifier, and level 0 is that of the free variables.
use Prim.Native.Nat.{ℕ, zero, suc, ◌+◌, ◌<◌}
use native.Mathlib.Nat.{le_of_suc-le-suc, not-suc-le-zero}
use native.Mathlib.Omega.{arith}
use mathlib.Core.Path.{◌≡◌, refl, sym, ap, ◌∙◌}
use mathlib.Core.Logic.{◌⊎◌, inl, inr}
use mathlib.Core.Bool.{false, true≢false}
use mathlib.Core.List.{List, [], ◌∷◌}
use lib.ListN.{length, get_or}
use Rattle.qbf.specs.Formula.{Prefix, Quantifier, exists, forall, free, is_free, level_beside, levels, levels_from, quantifiers}
use Rattle.theory.proofs.Verdict.{NoFree}
use Rattle.theory.proofs.Search.{FreeFirst}

abbrev other : Quantifier → Quantifier
other free = free
other exists = forall
other forall = exists

-- the quantifier d levels further
abbrev alternate : Quantifier → ℕ → Quantifier
alternate κ zero = κ
alternate κ (suc d) = alternate (other κ) d

-- The quantifier of a level, where that of level 1 is κ.
abbrev pub of_level : Quantifier → ℕ → Quantifier
of_level κ zero = free
of_level κ (suc d) = alternate κ d

-- the quantifier of level 1: the first that is not free
abbrev pub level_one : List Quantifier → Quantifier
level_one [] = free
level_one (free ∷ ks) = level_one ks
level_one (exists ∷ ks) = exists
level_one (forall ∷ ks) = forall

-- Past the end; or the level is d further than that of the place beside the list, and the quantifier is the one d levels on.
abbrev Further : ℕ → Quantifier → Quantifier → ℕ → Type 0
Further n κ q l = ((q ≡ free) × (l ≡ 0)) ⊎ ((d : ℕ) × (l ≡ d + n) × (q ≡ alternate κ d))

next_level_lem : (n : ℕ) (κ q : Quantifier) (l : ℕ) → Further (suc n) (other κ) q l → Further n κ q l
next_level_lem n κ q l (inl w) = inl w
next_level_lem n κ q l (inr w) = inr (suc w.0, omega (arith, w.1), w.2)

bound_level : (ks : List Quantifier) → NoFree ks → (n : ℕ) (κ : Quantifier) → is_free κ ≡ false → (i : ℕ) → Further n κ (get_or ks i free) (get_or (levels_from n κ ks) i 0)
bound_level [] h n κ c i = inl (refl, refl)
bound_level (free ∷ ks) h n κ c i = absurd h
bound_level (exists ∷ ks) h n free c i = absurd (true≢false c)
bound_level (exists ∷ ks) h n exists c zero = inr (0, omega arith, refl)
bound_level (exists ∷ ks) h n exists c (suc i) = bound_level ks h n exists c i
bound_level (exists ∷ ks) h n forall c zero = inr (1, omega arith, refl)
bound_level (exists ∷ ks) h n forall c (suc i) = next_level_lem n forall (get_or ks i free) (get_or (levels_from (suc n) exists ks) i 0) (bound_level ks h (suc n) exists refl i)
bound_level (forall ∷ ks) h n free c i = absurd (true≢false c)
bound_level (forall ∷ ks) h n exists c zero = inr (1, omega arith, refl)
bound_level (forall ∷ ks) h n exists c (suc i) = next_level_lem n exists (get_or ks i free) (get_or (levels_from (suc n) forall ks) i 0) (bound_level ks h (suc n) forall refl i)
bound_level (forall ∷ ks) h n forall c zero = inr (0, omega arith, refl)
bound_level (forall ∷ ks) h n forall c (suc i) = bound_level ks h n forall c i

-- below the first place that is not free
after_one : (κ q : Quantifier) (l : ℕ) → Further 1 κ q l → q ≡ of_level κ l
after_one κ q l (inl w) = w.0 ∙ ap (of_level κ) (sym w.1)
after_one κ q l (inr w) = w.2 ∙ ap (of_level κ) (sym (w.1 ∙ next w.0))
  where
    next : (d : ℕ) → d + 1 ≡ suc d
    next d = omega arith

kind_of_level : (ks : List Quantifier) → FreeFirst ks → (i : ℕ) → get_or ks i free ≡ of_level (level_one ks) (get_or (levels_from 0 free ks) i 0)
kind_of_level [] h i = refl
kind_of_level (free ∷ ks) h zero = refl
kind_of_level (free ∷ ks) h (suc i) = kind_of_level ks h.1 i
kind_of_level (exists ∷ ks) h zero = refl
kind_of_level (exists ∷ ks) h (suc i) = after_one exists (get_or ks i free) (get_or (levels_from 1 exists ks) i 0) (bound_level ks h.0 1 exists refl i)
kind_of_level (forall ∷ ks) h zero = refl
kind_of_level (forall ∷ ks) h (suc i) = after_one forall (get_or ks i free) (get_or (levels_from 1 forall ks) i 0) (bound_level ks h.0 1 forall refl i)

free_level : (n : ℕ) (κ : Quantifier) (ks : List Quantifier) (i : ℕ) → get_or ks i free ≡ free → get_or (levels_from n κ ks) i 0 ≡ 0
free_level n κ [] i e = refl
free_level n κ (q ∷ ks) zero e = ap (level_beside n κ) e
free_level n κ (q ∷ ks) (suc i) e = free_level (level_beside n κ q) q ks i e

length_from : (n : ℕ) (κ : Quantifier) (ks : List Quantifier) → length (levels_from n κ ks) ≡ length ks
length_from n κ [] = refl
length_from n κ (q ∷ ks) = ap suc (length_from (level_beside n κ q) q ks)

next_from : (n : ℕ) (κ : Quantifier) (ks : List Quantifier) (i : ℕ) → suc i < length ks
    → get_or (levels_from n κ ks) (suc i) 0 ≡ level_beside (get_or (levels_from n κ ks) i 0) (get_or ks i free) (get_or ks (suc i) free)
next_from n κ [] i h = absurd (not-suc-le-zero h)
next_from n κ (q ∷ []) i h = absurd (not-suc-le-zero (le_of_suc-le-suc h))
next_from n κ (q ∷ r ∷ ks) zero h = refl
next_from n κ (q ∷ r ∷ ks) (suc i) h = next_from (level_beside n κ q) q (r ∷ ks) i (le_of_suc-le-suc h)

-- ---- the prefix, by the index of a place: place suc i stands at index i
module _ (D : Prefix) where
  pub levels_length : length (levels D) ≡ length (quantifiers D)
  unfolding levels
  levels_length = length_from 0 free (quantifiers D)

  -- the level of the first place, and of each by the one before it
  pub level_first : (κ : Quantifier) (ks : List Quantifier) → quantifiers D ≡ κ ∷ ks → get_or (levels D) 0 0 ≡ level_beside 0 free κ
  unfolding levels
  level_first κ ks e = ap (λ (qs : List Quantifier). get_or (levels_from 0 free qs) 0 0) e

  pub level_next : (i : ℕ) → suc i < length (quantifiers D) → get_or (levels D) (suc i) 0 ≡ level_beside (get_or (levels D) i 0) (get_or (quantifiers D) i free) (get_or (quantifiers D) (suc i) free)
  unfolding levels
  level_next i h = next_from 0 free (quantifiers D) i h

  -- a free variable has level 0
  pub free_zero : (i : ℕ) → get_or (quantifiers D) i free ≡ free → get_or (levels D) i 0 ≡ 0
  unfolding levels
  free_zero i e = free_level 0 free (quantifiers D) i e

  module _ (order : FreeFirst (quantifiers D)) where
    -- a quantifier is found through its level
    pub level_kind : (i : ℕ) → get_or (quantifiers D) i free ≡ of_level (level_one (quantifiers D)) (get_or (levels D) i 0)
    unfolding levels
    level_kind i = kind_of_level (quantifiers D) order i

    pub same_level : (i j : ℕ) → get_or (levels D) i 0 ≡ get_or (levels D) j 0 → get_or (quantifiers D) i free ≡ get_or (quantifiers D) j free
    same_level i j e = level_kind i ∙ ap (of_level (level_one (quantifiers D))) e ∙ sym (level_kind j)

    pub zero_free : (i : ℕ) → get_or (levels D) i 0 ≡ 0 → get_or (quantifiers D) i free ≡ free
    zero_free i e = level_kind i ∙ ap (of_level (level_one (quantifiers D))) e
