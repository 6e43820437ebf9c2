-- Laws of the views: what a table says of a literal, and the rows of a flat table.
use Prim.Native.Nat.{ℕ, zero, suc, ◌+◌, ◌*◌, ◌≤◌, ◌<◌, suc-le-suc, zero-le}
use native.Mathlib.Nat.{le_of_suc-le-suc, not-suc-le-zero, suc-mul, mul-le-mul_right}
use native.Mathlib.Omega.{arith}
use mathlib.Core.Path.{◌≡◌, refl, sym, ap, subst, ◌∙◌}
use mathlib.Core.Logic.{◌⊎◌, inl, inr}
use mathlib.Core.Bool.{Bool, true, false, cond, beq}
use mathlib.Core.List.{List, [], ◌∷◌, ◌++◌}
use mathlib.Core.Option.{Option, none, some}
use lib.ListN.{length, get_or, length-append}
use lib.IntN.{pos, negsuc}
use lib.Dec.{eqb}
use Rattle.qbf.specs.Formula.{Quantifier, free, exists, forall, Prefix, Literal, Node, number_of, positive, place, quantifier_at, value_at, equals, has}
use Rattle.qbf.specs.Learning.{Polarity, dropped}
use Rattle.tables.specs.Views.{quantifier_code, value_code, Kinds, Values, signed, status, row, rows, Table, Standing}

-- ---- literals
-- the truth value of a literal by its status: 2 true, 1 false, 0 open
signed_true : (l : Literal) (o : Option Bool) → eqb (signed l (value_code o)) 2 ≡ equals o (beq true (positive l))
signed_true (pos n) none = refl
signed_true (pos n) (some true) = refl
signed_true (pos n) (some false) = refl
signed_true (negsuc n) none = refl
signed_true (negsuc n) (some true) = refl
signed_true (negsuc n) (some false) = refl

signed_false : (l : Literal) (o : Option Bool) → eqb (signed l (value_code o)) 1 ≡ equals o (beq false (positive l))
signed_false (pos n) none = refl
signed_false (pos n) (some true) = refl
signed_false (pos n) (some false) = refl
signed_false (negsuc n) none = refl
signed_false (negsuc n) (some true) = refl
signed_false (negsuc n) (some false) = refl

module _ (D : Prefix) (s : Node) (vs : List ℕ) (shown : Values D s vs) where
  pub status_true : (l : Literal) → eqb (status vs l) 2 ≡ has D true s l
  status_true l = ap (λ (v : ℕ). eqb (signed l v) 2) (shown.at (number_of l)) ∙ signed_true l (value_at s (place D l))

  pub status_false : (l : Literal) → eqb (status vs l) 1 ≡ has D false s l
  status_false l = ap (λ (v : ℕ). eqb (signed l v) 1) (shown.at (number_of l)) ∙ signed_false l (value_at s (place D l))

-- ---- quantifiers
code_dropped : (v : Polarity) (κ : Quantifier) → dropped v κ ≡ eqb (quantifier_code κ) (cond v 1 2)
code_dropped true free = refl
code_dropped true exists = refl
code_dropped true forall = refl
code_dropped false free = refl
code_dropped false exists = refl
code_dropped false forall = refl

-- what reduction drops, by the table of quantifiers: exists of a cube, forall of a clause
pub kinds_dropped : (D : Prefix) (ks : List ℕ) → Kinds D ks → (v : Polarity) (l : Literal) → eqb (get_or ks (number_of l) 0) (cond v 1 2) ≡ dropped v (quantifier_at D (place D l))
kinds_dropped D ks shown v l = ap (λ (k : ℕ). eqb k (cond v 1 2)) (shown.at (number_of l)) ∙ sym (code_dropped v (quantifier_at D (place D l)))

-- ---- rows
pub rows_length : {A : Type 0} (w : ℕ) (flat : List A) (sizes : List ℕ) (n : ℕ) → length (rows w flat sizes n) ≡ n
unfolding rows
rows_length w flat sizes zero = refl
rows_length w flat sizes (suc n) = omega (arith, length-append (rows w flat sizes n) (row w flat sizes n ∷ []), rows_length w flat sizes n)

pub rows_suc : {A : Type 0} (w : ℕ) (flat : List A) (sizes : List ℕ) (n : ℕ) → rows w flat sizes (suc n) ≡ rows w flat sizes n ++ (row w flat sizes n ∷ [])
unfolding rows
rows_suc w flat sizes n = refl

pub rows_zero : {A : Type 0} (w : ℕ) (flat : List A) (sizes : List ℕ) → rows w flat sizes 0 ≡ []
unfolding rows
rows_zero w flat sizes = refl

-- row k ends before row n begins
pub before : (w k n : ℕ) → k < n → k * w + w ≤ n * w
before w k n h = subst (λ (m : ℕ). m ≤ n * w) (suc-mul k w) (mul-le-mul_right w h)

-- a table with room for all its rows has those that stand
pub standing : {A : Type 0} {w cap : ℕ} {flat : List A} {sizes : List ℕ} → Table w cap flat sizes → Standing w flat sizes
standing {A} {w} {cap} {flat} {sizes} t =
    record {
      counted = omega (arith, t.counted, t.few);
      inside = λ k h. omega (arith, t.room, t.short k h, before w k cap (omega (arith, t.few, h)));
    }

get_d_left : {A : Type 0} (xs ys : List (List A)) (i : ℕ) → i < length xs → get_or (xs ++ ys) i [] ≡ get_or xs i []
get_d_left [] ys i h = absurd (not-suc-le-zero h)
get_d_left (x ∷ xs) ys zero h = refl
get_d_left (x ∷ xs) ys (suc i) h = get_d_left xs ys i (le_of_suc-le-suc h)

get_d_end : {A : Type 0} (xs : List (List A)) (y : List A) → get_or (xs ++ (y ∷ [])) (length xs) [] ≡ y
get_d_end [] y = refl
get_d_end (x ∷ xs) y = get_d_end xs y

-- the row at an index
pub rows_at : {A : Type 0} (w : ℕ) (flat : List A) (sizes : List ℕ) (n k : ℕ) → k < n → get_or (rows w flat sizes n) k [] ≡ row w flat sizes k
unfolding rows
rows_at w flat sizes zero k h = absurd (not-suc-le-zero h)
rows_at w flat sizes (suc n) k h = by (dec k n) (λ a. rows_at w flat sizes n k a)
  where
    dec : (i j : ℕ) → (i < j) ⊎ (j ≤ i)
    dec i zero = inr zero-le
    dec zero (suc j) = inl (suc-le-suc zero-le)
    dec (suc i) (suc j) = up (dec i j)
      where
        up : (i < j) ⊎ (j ≤ i) → (suc i < suc j) ⊎ (suc j ≤ suc i)
        up (inl a) = inl (suc-le-suc a)
        up (inr a) = inr (suc-le-suc a)

    by : (k < n) ⊎ (n ≤ k) → (k < n → get_or (rows w flat sizes n) k [] ≡ row w flat sizes k) → get_or (rows w flat sizes n ++ (row w flat sizes n ∷ [])) k [] ≡ row w flat sizes k
    by (inl a) ih = get_d_left (rows w flat sizes n) (row w flat sizes n ∷ []) k (omega (arith, a, rows_length w flat sizes n)) ∙ ih a
    by (inr a) ih =
        let e : k ≡ n = omega (arith, a, h) in
        ap (λ (i : ℕ). get_or (rows w flat sizes n ++ (row w flat sizes n ∷ [])) i []) (e ∙ sym (rows_length w flat sizes n))
        ∙ get_d_end (rows w flat sizes n) (row w flat sizes n)
        ∙ ap (row w flat sizes) (sym e)
