-- The newest row at which a test passes: over one row more, over one row less, and what it says of the rows.
use Prim.Native.Nat.{ℕ, zero, suc, ◌+◌, ◌≤◌, ◌<◌}
use native.Mathlib.Omega.{arith}
use mathlib.Core.Path.{◌≡◌, refl, sym, ap, ◌∙◌}
use mathlib.Core.Bool.{Bool, true, false, cond, ◌&&◌}
use mathlib.Core.List.{List, [], ◌∷◌, ◌++◌}
use mathlib.Core.Option.{some}
use lib.ListN.{length, get_or, drop}
use Rattle.qbf.specs.Learning.{first}
use Rattle.tables.specs.Shelves.{later, newest, Points}

module _ {A : Type 0} (f : A → Bool) where
  -- of no rows, and of a row and those after it
  pub newest_nil : newest f [] ≡ 0
  unfolding newest
  newest_nil = refl

  pub newest_cons : (x : A) (xs : List A) → newest f (x ∷ xs) ≡ later (f x) (newest f xs)
  unfolding newest
  newest_cons x xs = refl

  later_cond : (b c : Bool) (n m : ℕ) → later b (cond c (suc n) m) ≡ cond c (suc (suc n)) (later b m)
  later_cond b true n m = refl
  later_cond b false n m = refl

  -- one row more at the end
  pub newest_snoc : (xs : List A) (x : A) → newest f (xs ++ (x ∷ [])) ≡ cond (f x) (suc (length xs)) (newest f xs)
  newest_snoc [] x = newest_cons x [] ∙ ap (later (f x)) newest_nil ∙ ap (cond (f x) 1) (sym newest_nil)
  newest_snoc (y ∷ ys) x =
      newest_cons y (ys ++ (x ∷ []))
      ∙ ap (later (f y)) (newest_snoc ys x)
      ∙ later_cond (f y) (f x) (length ys) (newest f ys)
      ∙ ap (cond (f x) (suc (suc (length ys)))) (sym (newest_cons y ys))

  -- it is among the rows
  later_le : (b : Bool) (k n : ℕ) → k ≤ n → later b k ≤ suc n
  later_le true zero n h = omega arith
  later_le false zero n h = omega arith
  later_le b (suc k) n h = omega arith

  pub newest_le : (xs : List A) → newest f xs ≤ length xs
  newest_le [] = rw newest_nil (omega arith)
  newest_le (x ∷ xs) = rw newest_cons (later_le (f x) (newest f xs) (length xs) (newest_le xs))

  -- where there is none, the test passes at no row
  later_zero : (b : Bool) (k : ℕ) → later b k ≡ 0 → (b ≡ false) × (k ≡ 0)
  later_zero true zero e = absurd (omega arith)
  later_zero false zero e = (refl, refl)
  later_zero b (suc k) e = absurd (omega arith)

  module _ (g : A → Bool) where
    skip_one : (x : A) (xs : List A) → f x ≡ false → first (λ r. f r && g r) (x ∷ xs) ≡ first (λ r. f r && g r) xs
    skip_one x xs e = ap (λ (b : Bool). cond (b && g x) (some x) (first (λ r. f r && g r) xs)) e

    pub none_match : (xs ys : List A) → newest f xs ≡ 0 → first (λ r. f r && g r) (xs ++ ys) ≡ first (λ r. f r && g r) ys
    none_match [] ys e = refl
    none_match (x ∷ xs) ys e =
        let z = later_zero (f x) (newest f xs) (sym (newest_cons x xs) ∙ e) in
        skip_one x (xs ++ ys) z.0 ∙ none_match xs ys z.1

    -- where there is one, the test passes there and at no later row: the first match from it on is it, or after all these rows
    pub record Latest (d : A) (xs ys : List A) (n : ℕ) : Type 0 where
      pub low : n < length xs
      pub passes : f (get_or xs n d) ≡ true
      pub match : first (λ r. f r && g r) (drop n xs ++ ys) ≡ cond (g (get_or xs n d)) (some (get_or xs n d)) (first (λ r. f r && g r) ys)

    -- it is the first row
    here : (d x : A) (xs ys : List A) → f x ≡ true → newest f xs ≡ 0 → Latest d (x ∷ xs) ys 0
    here d x xs ys e z = record {
      low = omega arith;
      passes = e;
      match =
          ap (λ (b : Bool). cond (b && g x) (some x) (first (λ r. f r && g r) (xs ++ ys))) e
          ∙ ap (cond (g x) (some x)) (none_match xs ys z);
    }

    -- a row before it changes nothing but its place
    there : (d x : A) (xs ys : List A) (n : ℕ) → Latest d xs ys n → Latest d (x ∷ xs) ys (suc n)
    there d x xs ys n l = record { low = omega (arith, l.low); passes = l.passes; match = l.match }

    step : (d x : A) (xs ys : List A) (b : Bool) (k n : ℕ) → f x ≡ b → newest f xs ≡ k → later b k ≡ suc n
        → ((m : ℕ) → newest f xs ≡ suc m → Latest d xs ys m) → Latest d (x ∷ xs) ys n
    step d x xs ys true zero zero e z h l = here d x xs ys e z
    step d x xs ys true zero (suc n) e z h l = absurd (omega arith)
    step d x xs ys false zero n e z h l = absurd (omega arith)
    step d x xs ys b (suc k) zero e z h l = absurd (omega arith)
    step d x xs ys b (suc k) (suc n) e z h l = there d x xs ys n (l n (omega arith))

    pub latest : (d : A) (xs ys : List A) (n : ℕ) → newest f xs ≡ suc n → Latest d xs ys n
    latest d [] ys n e = absurd (omega (arith, newest_nil))
    latest d (x ∷ xs) ys n e = step d x xs ys (f x) (newest f xs) n refl refl (sym (newest_cons x xs) ∙ e) (λ m. latest d xs ys m)

-- ---- numbers of rows
-- the same base and number
pub points_same : (b b' k h h' : ℕ) → b ≡ b' → h ≡ h' → Points b k h → Points b' k h'
points_same b b' zero h h' e e' p = omega arith
points_same b b' (suc k) h h' e e' p = omega arith

-- a number above the base is that of a row
pub points_above : (base k h : ℕ) → Points base k h → base < h → (n : ℕ) × (k ≡ suc n) × (h ≡ base + suc n)
points_above base zero h p lt = absurd (omega arith)
points_above base (suc n) h p lt = (n, refl, p)

-- a number that is not above the base is that of none
pub points_none : (base k h : ℕ) → Points base k h → h ≤ base → k ≡ 0
points_none base zero h p le = refl
points_none base (suc n) h p le = absurd (omega arith)

-- the number of one of n rows is at most base + n
pub points_le : (base k h n : ℕ) → Points base k h → k ≤ n → h ≤ base + n
points_le base zero h n p le = omega arith
points_le base (suc k) h n p le = omega arith

points_step : (b : Bool) (base k h : ℕ) → Points base (later b k) h → Points (suc base) k h
points_step true base zero h p = omega arith
points_step false base zero h p = omega arith
points_step b base (suc k) h p = omega arith

-- the oldest row goes, and the base is its number
pub points_drop : {A : Type 0} (f : A → Bool) (x : A) (xs : List A) (base h : ℕ)
    → Points base (newest f (x ∷ xs)) h → Points (suc base) (newest f xs) h
points_drop f x xs base h p = points_step (f x) base (newest f xs) h (rw newest_cons at p)
