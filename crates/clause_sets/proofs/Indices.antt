-- A test of the elements of a list as a test of their indices, among the numbers below n.
use Prim.Native.Nat.{ℕ, zero, suc, ◌≤◌, ◌<◌, suc-le-suc, zero-le}
use native.Mathlib.Nat.{le_of_suc-le-suc, not-suc-le-zero}
use native.Mathlib.Omega.{arith}
use mathlib.Core.Path.{◌≡◌, refl, sym, ap, ◌∙◌, subst}
use mathlib.Core.Bool.{Bool, true, false, cond, ◌&&◌, ◌||◌}
use mathlib.Core.List.{List, [], ◌∷◌}
use mathlib.Core.Option.{none, some}
use lib.ListN.{length, get_or}
use Rattle.qbf.specs.Formula.{all, any}
use Rattle.qbf.specs.Learning.{first}
use Rattle.bitset.specs.Rows.{all_below, least_below, some_below}

-- ---- the number 0 apart
some_front : (g : ℕ → Bool) (n : ℕ) → some_below g (suc n) ≡ (g 0 || some_below (λ i. g (suc i)) n)
unfolding some_below
some_front g zero = by (g 0)
  where
    by : (x : Bool) → (false || x) ≡ (x || false)
    by true = refl
    by false = refl
some_front g (suc n) = ap (λ (x : Bool). x || g (suc n)) (some_front g n) ∙ by (g 0) (some_below (λ i. g (suc i)) n) (g (suc n))
  where
    by : (x y z : Bool) → ((x || y) || z) ≡ (x || (y || z))
    by true y z = refl
    by false y z = refl

all_front : (g : ℕ → Bool) (n : ℕ) → all_below g (suc n) ≡ (g 0 && all_below (λ i. g (suc i)) n)
unfolding all_below
all_front g zero = by (g 0)
  where
    by : (x : Bool) → (true && x) ≡ (x && true)
    by true = refl
    by false = refl
all_front g (suc n) = ap (λ (x : Bool). x && g (suc n)) (all_front g n) ∙ by (g 0) (all_below (λ i. g (suc i)) n) (g (suc n))
  where
    by : (x y z : Bool) → ((x && y) && z) ≡ (x && (y && z))
    by true y z = refl
    by false y z = refl

least_front : (g : ℕ → Bool) (n : ℕ) → least_below g (suc n) ≡ cond (g 0) 0 (suc (least_below (λ i. g (suc i)) n))
unfolding least_below
least_front g n = refl

-- ---- where the test fails, or passes, at every number
some_none : (g : ℕ → Bool) (n : ℕ) → ((i : ℕ) → i < n → g i ≡ false) → some_below g n ≡ false
unfolding some_below
some_none g zero h = refl
some_none g (suc n) h = rw (some_none g n (λ i l. h i (omega arith)), h n (omega arith))

all_every : (g : ℕ → Bool) (n : ℕ) → ((i : ℕ) → i < n → g i ≡ true) → all_below g n ≡ true
unfolding all_below
all_every g zero h = refl
all_every g (suc n) h = rw (all_every g n (λ i l. h i (omega arith)), h n (omega arith))

least_none : (g : ℕ → Bool) (n : ℕ) → ((i : ℕ) → i < n → g i ≡ false) → least_below g n ≡ n
unfolding least_below
least_none g zero h = refl
least_none g (suc n) h = rw (h 0 (suc-le-suc zero-le), least_none (λ i. g (suc i)) n (λ i l. h (suc i) (suc-le-suc l)))

-- ---- the list's elements and their indices
-- g is f of the element at each index of xs, and z at every other number below n
pub record Indexed {A : Type 0} (f : A → Bool) (d : A) (z : Bool) (xs : List A) (n : ℕ) (g : ℕ → Bool) : Type 0 where
  pub room : length xs ≤ n
  pub within : (i : ℕ) → i < length xs → g i ≡ f (get_or xs i d)
  pub beyond : (i : ℕ) → length xs ≤ i → i < n → g i ≡ z

-- the number found below n is the index of the first element that passes; where none is found, none passes
pub record Finds {A : Type 0} (f : A → Bool) (d : A) (xs : List A) (n i : ℕ) : Type 0 where
  pub found : i < n → (i < length xs) × (first f xs ≡ some (get_or xs i d))
  pub nothing : n ≤ i → first f xs ≡ none

module _ {A : Type 0} (f : A → Bool) (d : A) where
  indexed_rest : (z : Bool) (x : A) (xs : List A) (n : ℕ) (g : ℕ → Bool) → Indexed f d z (x ∷ xs) (suc n) g → Indexed f d z xs n (λ i. g (suc i))
  indexed_rest z x xs n g h = record {
    room = le_of_suc-le-suc h.room;
    within = λ i l. h.within (suc i) (suc-le-suc l);
    beyond = λ i l m. h.beyond (suc i) (suc-le-suc l) (suc-le-suc m);
  }

  pub some_any : (xs : List A) (n : ℕ) (g : ℕ → Bool) → Indexed f d false xs n g → some_below g n ≡ any f xs
  some_any [] n g h = some_none g n (λ i l. h.beyond i zero-le l)
  some_any (x ∷ xs) zero g h = absurd (not-suc-le-zero h.room)
  some_any (x ∷ xs) (suc n) g h =
      some_front g n
      ∙ ap (λ (y : Bool). y || some_below (λ i. g (suc i)) n) (h.within 0 (suc-le-suc zero-le))
      ∙ ap (λ (y : Bool). f x || y) (some_any xs n (λ i. g (suc i)) (indexed_rest false x xs n g h))

  pub all_all : (xs : List A) (n : ℕ) (g : ℕ → Bool) → Indexed f d true xs n g → all_below g n ≡ all f xs
  all_all [] n g h = all_every g n (λ i l. h.beyond i zero-le l)
  all_all (x ∷ xs) zero g h = absurd (not-suc-le-zero h.room)
  all_all (x ∷ xs) (suc n) g h =
      all_front g n
      ∙ ap (λ (y : Bool). y && all_below (λ i. g (suc i)) n) (h.within 0 (suc-le-suc zero-le))
      ∙ ap (λ (y : Bool). f x && y) (all_all xs n (λ i. g (suc i)) (indexed_rest true x xs n g h))

  pub least_first : (xs : List A) (n : ℕ) (g : ℕ → Bool) → Indexed f d false xs n g → Finds f d xs n (least_below g n)
  least_first [] n g h = record { found = λ l. absurd (omega (arith, l, least_none g n (λ i m. h.beyond i zero-le m))); nothing = λ l. refl }
  least_first (x ∷ xs) zero g h = absurd (not-suc-le-zero h.room)
  least_first (x ∷ xs) (suc n) g h =
      subst (Finds f d (x ∷ xs) (suc n))
      (sym (least_front g n ∙ ap (λ (y : Bool). cond y 0 (suc (least_below (λ i. g (suc i)) n))) (h.within 0 (suc-le-suc zero-le))))
      (by (f x) refl (least_below (λ i. g (suc i)) n) (least_first xs n (λ i. g (suc i)) (indexed_rest false x xs n g h)))
    where
      by : (y : Bool) → f x ≡ y → (k : ℕ) → Finds f d xs n k → Finds f d (x ∷ xs) (suc n) (cond y 0 (suc k))
      by true e k w = record { found = λ l. (suc-le-suc zero-le, rw e); nothing = λ l. absurd (not-suc-le-zero l) }
      by false e k w = record {
        found = λ l. let u = w.found (le_of_suc-le-suc l) in (suc-le-suc u.0, rw e u.1);
        nothing = λ l. rw e (w.nothing (le_of_suc-le-suc l));
      }
