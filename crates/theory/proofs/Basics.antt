-- Laws of Booleans, lists and nodes.
use Prim.Native.Nat.{ℕ, zero, suc, ◌≤◌, ◌<◌, suc-le-suc, zero-le}
use native.Mathlib.Nat.{le_of_suc-le-suc, not-suc-le-zero}
use mathlib.Core.Path.{◌≡◌, refl, sym, ap, ◌∙◌, subst}
use mathlib.Core.Logic.{◌⊎◌, inl, inr}
use mathlib.Core.Bool.{Bool, true, false, not, ◌&&◌, ◌||◌, beq, true≢false, false≢true}
use mathlib.Core.List.{List, [], ◌∷◌}
use mathlib.Core.Option.{none, some}
use lib.ListN.{length, get_or, get_elem?}
use lib.Dec.{eqb, T, eqb→eq, eqb_refl}
use Rattle.qbf.specs.Formula.{Literal, Node, Prefix, ◌▹◌, all, any, equals, has, place, positive, value_at}
use Rattle.qbf.specs.Card.{Mem}

-- ---- Booleans
pub T→≡ : (b : Bool) → T b → b ≡ true
T→≡ true t = refl
T→≡ false t = absurd t

pub ≡→T : (b : Bool) → b ≡ true → T b
≡→T true e = tt
≡→T false e = absurd (false≢true e)

pub dichotomy : (b : Bool) → (b ≡ true) ⊎ (b ≡ false)
dichotomy true = inl refl
dichotomy false = inr refl

pub or_cases : (x y : Bool) → (x || y) ≡ true → (x ≡ true) ⊎ (y ≡ true)
or_cases true y e = inl refl
or_cases false y e = inr e

pub or_left : (x y : Bool) → x ≡ true → (x || y) ≡ true
or_left true y e = refl
or_left false y e = absurd (false≢true e)

pub or_right : (x y : Bool) → y ≡ true → (x || y) ≡ true
or_right true y e = refl
or_right false y e = e

pub or_false : (x y : Bool) → x ≡ false → y ≡ false → (x || y) ≡ false
or_false true y e h = e
or_false false y e h = h

pub or_false_left : (x y : Bool) → (x || y) ≡ false → x ≡ false
or_false_left true y e = e
or_false_left false y e = refl

pub or_false_right : (x y : Bool) → (x || y) ≡ false → y ≡ false
or_false_right true y e = absurd (true≢false e)
or_false_right false y e = e

pub and_left : (x y : Bool) → (x && y) ≡ true → x ≡ true
and_left true y e = refl
and_left false y e = e

pub and_right : (x y : Bool) → (x && y) ≡ true → y ≡ true
and_right true y e = e
and_right false y e = absurd (false≢true e)

pub and_both : (x y : Bool) → x ≡ true → y ≡ true → (x && y) ≡ true
and_both true y e h = h
and_both false y e h = e

pub and_false_left : (x y : Bool) → x ≡ false → (x && y) ≡ false
and_false_left true y e = absurd (true≢false e)
and_false_left false y e = refl

pub and_false_right : (x y : Bool) → y ≡ false → (x && y) ≡ false
and_false_right true y e = e
and_false_right false y e = refl

pub not_true : (x : Bool) → not x ≡ true → x ≡ false
not_true true e = absurd (false≢true e)
not_true false e = refl

pub not_false : (x : Bool) → not x ≡ false → x ≡ true
not_false true e = refl
not_false false e = absurd (true≢false e)

pub beq_refl : (x : Bool) → beq x x ≡ true
beq_refl true = refl
beq_refl false = refl

pub beq→≡ : (x y : Bool) → beq x y ≡ true → x ≡ y
beq→≡ true true e = refl
beq→≡ true false e = absurd (false≢true e)
beq→≡ false true e = absurd (false≢true e)
beq→≡ false false e = refl

pub eqb_true : (m n : ℕ) → eqb m n ≡ true → m ≡ n
eqb_true m n e = eqb→eq m n (≡→T (eqb m n) e)

pub true_eqb : (m n : ℕ) → m ≡ n → eqb m n ≡ true
true_eqb m n e = subst (λ k. eqb m k ≡ true) e (T→≡ (eqb m m) (eqb_refl m))

pub false_eqb : (m n : ℕ) → eqb m n ≡ false → m ≡ n → ⊥
false_eqb m n e h = true≢false (sym (true_eqb m n h) ∙ e)

-- ---- tests over lists
module _ {A : Type 0} (f : A → Bool) where
  pub all→ : (xs : List A) → all f xs ≡ true → (x : A) → Mem x xs → f x ≡ true
  all→ [] e x m = absurd m
  all→ (y ∷ ys) e x (inl p) = ap f p ∙ and_left (f y) (all f ys) e
  all→ (y ∷ ys) e x (inr m) = all→ ys (and_right (f y) (all f ys) e) x m

  pub →all : (xs : List A) → ((x : A) → Mem x xs → f x ≡ true) → all f xs ≡ true
  →all [] h = refl
  →all (y ∷ ys) h = and_both (f y) (all f ys) (h y (inl refl)) (→all ys (λ x m. h x (inr m)))

  pub any→ : (xs : List A) → any f xs ≡ true → (x : A) × Mem x xs × (f x ≡ true)
  any→ [] e = absurd (false≢true e)
  any→ (y ∷ ys) e = step (or_cases (f y) (any f ys) e) (λ h. any→ ys h)
    where
      step : (f y ≡ true) ⊎ (any f ys ≡ true) → (any f ys ≡ true → (x : A) × Mem x ys × (f x ≡ true)) → (x : A) × Mem x (y ∷ ys) × (f x ≡ true)
      step (inl h) k = (y, inl refl, h)
      step (inr h) k = ((k h).0, inr (k h).1, (k h).2)

  pub →any : (xs : List A) (x : A) → Mem x xs → f x ≡ true → any f xs ≡ true
  →any [] x m e = absurd m
  →any (y ∷ ys) x (inl p) e = or_left (f y) (any f ys) (ap f (sym p) ∙ e)
  →any (y ∷ ys) x (inr m) e = or_right (f y) (any f ys) (→any ys x m e)

  pub any_false→ : (xs : List A) → any f xs ≡ false → (x : A) → Mem x xs → f x ≡ false
  any_false→ [] e x m = absurd m
  any_false→ (y ∷ ys) e x (inl p) = ap f p ∙ or_false_left (f y) (any f ys) e
  any_false→ (y ∷ ys) e x (inr m) = any_false→ ys (or_false_right (f y) (any f ys) e) x m

  pub →any_false : (xs : List A) → ((x : A) → Mem x xs → f x ≡ false) → any f xs ≡ false
  →any_false [] h = refl
  →any_false (y ∷ ys) h = or_false (f y) (any f ys) (h y (inl refl)) (→any_false ys (λ x m. h x (inr m)))

  pub all_false : (xs : List A) (x : A) → Mem x xs → f x ≡ false → all f xs ≡ false
  all_false [] x m e = absurd m
  all_false (y ∷ ys) x (inl p) e = and_false_left (f y) (all f ys) (ap f (sym p) ∙ e)
  all_false (y ∷ ys) x (inr m) e = and_false_right (f y) (all f ys) (all_false ys x m e)

-- ---- nodes
pub length-▹ : (s : Node) (b : Bool) → length (s ▹ b) ≡ suc (length s)
length-▹ [] b = refl
length-▹ (x ∷ s) b = ap suc (length-▹ s b)

elem_low : (s : Node) (b : Bool) (i : ℕ) → i < length s → get_elem? (s ▹ b) i ≡ get_elem? s i
elem_low [] b i h = absurd (not-suc-le-zero h)
elem_low (x ∷ s) b zero h = refl
elem_low (x ∷ s) b (suc i) h = elem_low s b i (le_of_suc-le-suc h)

elem_top : (s : Node) (b : Bool) → get_elem? (s ▹ b) (length s) ≡ some b
elem_top [] b = refl
elem_top (x ∷ s) b = elem_top s b

elem_high : (s : Node) (i : ℕ) → length s ≤ i → get_elem? s i ≡ none
elem_high [] i h = refl
elem_high (x ∷ s) zero h = absurd (not-suc-le-zero h)
elem_high (x ∷ s) (suc i) h = elem_high s i (le_of_suc-le-suc h)

-- a longer node has the same values
pub value_low : (s : Node) (b : Bool) (p : ℕ) → p ≤ length s → value_at (s ▹ b) p ≡ value_at s p
value_low s b zero h = refl
value_low s b (suc i) h = elem_low s b i h

pub value_top : (s : Node) (b : Bool) → value_at (s ▹ b) (suc (length s)) ≡ some b
value_top s b = elem_top s b

pub value_high : (s : Node) (p : ℕ) → length s < p → value_at s p ≡ none
value_high s zero h = absurd (not-suc-le-zero h)
value_high s (suc i) h = elem_high s i (le_of_suc-le-suc h)

elem_some : (s : Node) (i : ℕ) → i < length s → get_elem? s i ≡ some (get_or s i false)
elem_some [] i h = absurd (not-suc-le-zero h)
elem_some (x ∷ s) zero h = refl
elem_some (x ∷ s) (suc i) h = elem_some s i (le_of_suc-le-suc h)

pub value_some : (s : Node) (i : ℕ) → i < length s → value_at s (suc i) ≡ some (get_or s i false)
value_some s i h = elem_some s i h

pub le_or_lt : (m n : ℕ) → (m ≤ n) ⊎ (n < m)
le_or_lt zero n = inl zero-le
le_or_lt (suc m) zero = inr (suc-le-suc zero-le)
le_or_lt (suc m) (suc n) = up (le_or_lt m n)
  where
    up : (m ≤ n) ⊎ (n < m) → (suc m ≤ suc n) ⊎ (suc n < suc m)
    up (inl h) = inl (suc-le-suc h)
    up (inr h) = inr (suc-le-suc h)

-- a literal with a value is among the node's places
pub has_le : (D : Prefix) (v : Bool) (s : Node) (l : Literal) → has D v s l ≡ true → place D l ≤ length s
has_le D v s l e = pick (le_or_lt (place D l) (length s))
  where
    pick : (place D l ≤ length s) ⊎ (length s < place D l) → place D l ≤ length s
    pick (inl h) = h
    pick (inr h) = absurd (false≢true (sym (ap (λ o. equals o (beq v (positive l))) (value_high s (place D l) h)) ∙ e))

pub has_agrees : (D : Prefix) (v : Bool) (s t : Node) (l : Literal) → value_at s (place D l) ≡ value_at t (place D l) → has D v s l ≡ has D v t l
has_agrees D v s t l e = ap (λ o. equals o (beq v (positive l))) e

pub has_low : (D : Prefix) (v : Bool) (s : Node) (b : Bool) (l : Literal) → place D l ≤ length s → has D v (s ▹ b) l ≡ has D v s l
has_low D v s b l h = has_agrees D v (s ▹ b) s l (value_low s b (place D l) h)

pub has_up : (D : Prefix) (v : Bool) (s : Node) (b : Bool) (l : Literal) → has D v s l ≡ true → has D v (s ▹ b) l ≡ true
has_up D v s b l e = has_low D v s b l (has_le D v s l e) ∙ e
