-- Laws of a listing: its length, its elements, its next element and its end.
use Prim.Native.Nat.{ℕ, zero, suc, ◌+◌, ◌-◌, ◌≤◌, ◌<◌}
use native.Mathlib.Nat.{le_of_suc-le-suc, not-suc-le-zero}
use native.Mathlib.Omega.{arith}
use mathlib.Core.Path.{◌≡◌, refl, sym, ap, ◌∙◌}
use mathlib.Core.Bool.{Bool, true}
use mathlib.Core.List.{List, [], ◌∷◌, ◌++◌, map}
use lib.ListN.{length, get_or}
use lib.Dec.{leb}
use borrow.Author.Tests.{le-leb}
use Rattle.qbf.specs.Formula.{all}
use Rattle.theory.proofs.Basics.{and_left, and_right, and_both}
use Rattle.state.specs.Reading.{listing, at_most}

module _ {A : Type 0} (f : ℕ → A) where
  pub listing_length : (i k : ℕ) → length (listing f i k) ≡ k
  listing_length i zero = refl
  listing_length i (suc k) = ap suc (listing_length (suc i) k)

  pub listing_at : (i k j : ℕ) (d : A) → j < k → get_or (listing f i k) j d ≡ f (i + j)
  listing_at i zero j d h = absurd (not-suc-le-zero h)
  listing_at i (suc k) zero d h = let e : i ≡ i + 0 = omega arith in ap f e
  listing_at i (suc k) (suc j) d h = let e : suc i + j ≡ i + suc j = omega arith in listing_at (suc i) k j d (le_of_suc-le-suc h) ∙ ap f e

  pub listing_snoc : (i k : ℕ) → listing f i (suc k) ≡ listing f i k ++ (f (i + k) ∷ [])
  listing_snoc i zero = let e : i ≡ i + 0 = omega arith in ap (λ (j : ℕ). f j ∷ []) e
  listing_snoc i (suc k) = let e : suc i + k ≡ i + suc k = omega arith in ap (λ (l : List A). f i ∷ l) (listing_snoc (suc i) k ∙ ap (λ (j : ℕ). listing f (suc i) k ++ (f j ∷ [])) e)

  -- from i on, of n elements in all
  pub listing_next : (i n : ℕ) → i < n → listing f i (n - i) ≡ f i ∷ listing f (suc i) (n - suc i)
  listing_next i n h = let e : n - i ≡ suc (n - suc i) = omega arith in ap (listing f i) e

  pub listing_end : (i n : ℕ) → n ≤ i → listing f i (n - i) ≡ []
  listing_end i n h = let e : n - i ≡ 0 = omega arith in ap (listing f i) e

-- two listings with the same elements
pub listing_same : {A : Type 0} (f g : ℕ → A) (i k : ℕ) → ((j : ℕ) → j < k → f (i + j) ≡ g (i + j)) → listing f i k ≡ listing g i k
listing_same f g i zero h = refl
listing_same f g i (suc k) h =
    let e : i + 0 ≡ i = omega arith in
    ap (λ j. f j ∷ listing f (suc i) k) (sym e)
    ∙ ap (λ a. a ∷ listing f (suc i) k) (h 0 (omega arith))
    ∙ ap (λ j. g j ∷ listing f (suc i) k) e
    ∙ ap (λ l. g i ∷ l) (listing_same f g (suc i) k (λ j b. let q : suc i + j ≡ i + suc j = omega arith in ap f q ∙ h (suc j) (omega arith) ∙ ap g (sym q)))

pub listing_map : {A B : Type 0} (g : A → B) (f : ℕ → A) (i k : ℕ) → map g (listing f i k) ≡ listing (λ j. g (f j)) i k
listing_map g f i zero = refl
listing_map g f i (suc k) = ap (λ l. g (f i) ∷ l) (listing_map g f (suc i) k)

-- a test that every element passes
pub listing_all : {A : Type 0} (t : A → Bool) (f : ℕ → A) (i k : ℕ) → all t (listing f i k) ≡ true → (j : ℕ) → j < k → t (f (i + j)) ≡ true
listing_all t f i zero e j h = absurd (not-suc-le-zero h)
listing_all t f i (suc k) e zero h =
    let q : i + 0 ≡ i = omega arith in ap (λ n. t (f n)) q ∙ and_left (t (f i)) (all t (listing f (suc i) k)) e
listing_all t f i (suc k) e (suc j) h =
    let q : i + suc j ≡ suc i + j = omega arith in
    ap (λ n. t (f n)) q ∙ listing_all t f (suc i) k (and_right (t (f i)) (all t (listing f (suc i) k)) e) j (le_of_suc-le-suc h)

-- elements of at most n
pub listing_most : (n : ℕ) (f : ℕ → ℕ) (i k : ℕ) → ((j : ℕ) → i ≤ j → j < i + k → f j ≤ n) → at_most n (listing f i k) ≡ true
listing_most n f i zero h = refl
listing_most n f i (suc k) h =
    and_both (leb (f i) n) (at_most n (listing f (suc i) k)) (le-leb (f i) n (h i (omega arith) (omega arith)))
    (listing_most n f (suc i) k (λ j a b. h j (omega arith) (omega arith)))
