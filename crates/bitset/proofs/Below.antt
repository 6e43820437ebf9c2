-- A test on the numbers below a bound: that it passes at some of them, at all of them, and first at which. Assumes nothing.
use mathlib.Core.Path.{◌≡◌, refl, sym, ap, ap₂, ◌∙◌}
use mathlib.Core.Logic.{◌⊎◌, inl, inr, ⊎_elim}
use mathlib.Core.Bool.{Bool, true, false, cond, ◌&&◌, ◌||◌, or-true, or-false, and-false, true≢false, false≢true}
use Prim.Native.Nat.{ℕ, zero, suc, ◌≤◌, ◌<◌, zero-le, suc-le-suc}
use native.Mathlib.Nat.{le_of_suc-le-suc, not-suc-le-zero, le_refl, le_trans, le-suc, eq-or-lt_of_le, zero-lt-suc}
use lib.Dec.{ltb}
use borrow.Author.Tests.{ltb-true, ltb-false}
use Rattle.bitset.specs.Rows.{all_below, some_below, least_below}

abbrev pub bool_cases : (t : Bool) → (t ≡ true) ⊎ (t ≡ false)
bool_cases true = inl refl
bool_cases false = inr refl

abbrev pub lt_or_ge : (a b : ℕ) → (a < b) ⊎ (b ≤ a)
lt_or_ge a b = ⊎_elim (λ e. inl (ltb-true a b e)) (λ e. inr (ltb-false a b e)) (bool_cases (ltb a b))

-- a test at the numbers below suc n is one below n and one at n
last_or_below : {n i : ℕ} → i < suc n → (i ≡ n) ⊎ (i < n)
last_or_below h = eq-or-lt_of_le (le_of_suc-le-suc h)

module _ (f : ℕ → Bool) where
  -- ---- at some number
  pub some_none : (n : ℕ) → ((i : ℕ) → i < n → f i ≡ false) → some_below f n ≡ false
  unfolding some_below
  some_none zero h = refl
  some_none (suc n) h = ap₂ ◌||◌ (some_none n (λ i p. h i (le_trans p (le-suc n)))) (h n (le_refl (suc n)))

  pub some_at : (n i : ℕ) → i < n → f i ≡ true → some_below f n ≡ true
  unfolding some_below
  some_at zero i h e = absurd (not-suc-le-zero h)
  some_at (suc n) i h e =
      ⊎_elim
      (λ q. ap (λ (t : Bool). some_below f n || t) (ap f (sym q) ∙ e) ∙ or-true (some_below f n))
      (λ q. ap (λ (t : Bool). t || f n) (some_at n i q e))
      (last_or_below h)

  pub some_found : (n : ℕ) → some_below f n ≡ true → (i : ℕ) × (i < n) × (f i ≡ true)
  unfolding some_below
  some_found zero e = absurd (false≢true e)
  some_found (suc n) e =
      ⊎_elim
      (λ q. (n, le_refl (suc n), q))
      (λ q.
      let r = some_found n (sym (ap (λ (t : Bool). some_below f n || t) q ∙ or-false (some_below f n)) ∙ e) in
      (r.0, le_trans r.1 (le-suc n), r.2))
      (bool_cases (f n))

  pub some_never : (n : ℕ) → some_below f n ≡ false → (i : ℕ) → i < n → f i ≡ false
  some_never n e i h = ⊎_elim (λ q. absurd (true≢false (sym (some_at n i h q) ∙ e))) (λ q. q) (bool_cases (f i))

  -- ---- at every number
  pub all_each : (n : ℕ) → ((i : ℕ) → i < n → f i ≡ true) → all_below f n ≡ true
  unfolding all_below
  all_each zero h = refl
  all_each (suc n) h = ap₂ ◌&&◌ (all_each n (λ i p. h i (le_trans p (le-suc n)))) (h n (le_refl (suc n)))

  pub all_not : (n i : ℕ) → i < n → f i ≡ false → all_below f n ≡ false
  unfolding all_below
  all_not zero i h e = absurd (not-suc-le-zero h)
  all_not (suc n) i h e =
      ⊎_elim
      (λ q. ap (λ (t : Bool). all_below f n && t) (ap f (sym q) ∙ e) ∙ and-false (all_below f n))
      (λ q. ap (λ (t : Bool). t && f n) (all_not n i q e))
      (last_or_below h)

  pub all_at : (n : ℕ) → all_below f n ≡ true → (i : ℕ) → i < n → f i ≡ true
  all_at n e i h = ⊎_elim (λ q. q) (λ q. absurd (true≢false (sym e ∙ all_not n i h q))) (bool_cases (f i))

-- ---- the least
pub least_is : (f : ℕ → Bool) (n r : ℕ) → r ≤ n → ((i : ℕ) → i < r → f i ≡ false) → (r < n → f r ≡ true)
    → least_below f n ≡ r
unfolding least_below
least_is f zero zero h below at = refl
least_is f zero (suc r) h below at = absurd (not-suc-le-zero h)
least_is f (suc n) zero h below at = ap (λ (t : Bool). cond t zero (suc (least_below (λ i. f (suc i)) n))) (at (zero-lt-suc n))
least_is f (suc n) (suc r) h below at =
    ap (λ (t : Bool). cond t zero (suc (least_below (λ i. f (suc i)) n))) (below zero (zero-lt-suc r))
    ∙ ap suc (least_is (λ i. f (suc i)) n r (le_of_suc-le-suc h) (λ i p. below (suc i) (suc-le-suc p)) (λ p. at (suc-le-suc p)))

pub record Least (f : ℕ → Bool) (n r : ℕ) : Type 0 where
  pub within : r ≤ n
  pub before : (i : ℕ) → i < r → f i ≡ false
  pub at : r < n → f r ≡ true

pub least : (f : ℕ → Bool) (n : ℕ) → Least f n (least_below f n)
unfolding least_below
least f zero = record { within = zero-le; before = λ i h. absurd (not-suc-le-zero h); at = λ h. absurd (not-suc-le-zero h) }
least f (suc n) = go (f zero) refl (least (λ i. f (suc i)) n)
  where
    rest : ℕ
    rest = least_below (λ i. f (suc i)) n

    from : f zero ≡ false → ((i : ℕ) → i < rest → f (suc i) ≡ false) → (i : ℕ) → i < suc rest → f i ≡ false
    from e h zero p = e
    from e h (suc i) p = h i (le_of_suc-le-suc p)

    go : (t : Bool) → f zero ≡ t → Least (λ i. f (suc i)) n rest → Least f (suc n) (cond t zero (suc rest))
    go true e l = record { within = zero-le; before = λ i h. absurd (not-suc-le-zero h); at = λ h. e }
    go false e l = record {
      within = suc-le-suc l.within;
      before = from e l.before;
      at = λ h. l.at (le_of_suc-le-suc h);
    }

-- ---- two tests that agree below the bound
pub some_same : {f g : ℕ → Bool} (n : ℕ) → ((i : ℕ) → i < n → f i ≡ g i) → some_below f n ≡ some_below g n
unfolding some_below
some_same zero h = refl
some_same (suc n) h = ap₂ ◌||◌ (some_same n (λ i p. h i (le_trans p (le-suc n)))) (h n (le_refl (suc n)))

pub all_same : {f g : ℕ → Bool} (n : ℕ) → ((i : ℕ) → i < n → f i ≡ g i) → all_below f n ≡ all_below g n
unfolding all_below
all_same zero h = refl
all_same (suc n) h = ap₂ ◌&&◌ (all_same n (λ i p. h i (le_trans p (le-suc n)))) (h n (le_refl (suc n)))

pub least_same : {f g : ℕ → Bool} (n : ℕ) → ((i : ℕ) → i < n → f i ≡ g i) → least_below f n ≡ least_below g n
unfolding least_below
least_same zero h = refl
least_same {f = f} {g = g} (suc n) h =
    ap₂ (λ (t : Bool) (m : ℕ). cond t zero (suc m)) (h zero (zero-lt-suc n)) (least_same n (λ i p. h (suc i) (suc-le-suc p)))
