-- Cells that hold the codes of a list of literals: their last code, the first code that has a status, their count and their elements.
use Prim.Native.Nat.{ℕ, zero, suc, ◌-◌, ◌≤◌, ◌<◌}
use native.Mathlib.Omega.{arith}
use native.Mathlib.Numerals.{unary_clauses}
use mathlib.Core.Path.{◌≡◌, refl, sym, ap, ◌∙◌}
use mathlib.Core.Bool.{false}
use mathlib.Core.List.{List, [], ◌∷◌, ◌++◌}
use lib.ListN.{length, get_or, take, length-map}
use lib.Seq.{length-take-le, take-length, take-take, get_or-take}
use lib.Dec.{eqb}
use borrow.Author.Tests.{eq-eqb}
use Rattle.qbf.specs.Formula.{Prefix, Literal}
use Rattle.qbf.specs.Learning.{Constraint}
use Rattle.tables.specs.Views.{index_of}
use Rattle.tables.proofs.Lists.{index_at, index_none}
use Rattle.tables.specs.Codes.{code_of, codes, last_from, last_code}
use Rattle.std.specs.Prelude.{Some, None}
use Rattle.std.specs.Prelude.{Option as Maybe}
use Rattle.std.specs.Option.{MatchOption}
use Rattle.std.specs.List.{AllWithin, HoldsAt}
use Rattle.coding.specs.First.{FirstWith}
use Rattle.coding.proofs.Ends.{take_last, take_image, get_d_image}

-- ---- the last code
last_of : (q : ℕ) (cs : List ℕ) (c : ℕ) → last_from q (cs ++ (c ∷ [])) ≡ c
last_of q [] c = refl
last_of q (k ∷ cs) c = last_of k cs c

-- the last of the first n is the code before cell n
pub last_cell : (cs : List ℕ) (n : ℕ) → (n ≡ 0 → ⊥) → n ≤ length cs → get_or cs (n - 1) 0 ≡ last_code (take n cs)
last_cell cs n h k =
    sym (ap last_code (take_last cs n 0 (omega (arith, h)) k) ∙ last_of 0 (take (n - 1) cs) (get_or cs (n - 1) 0))

-- the last of all is the code before the end
pub last_whole : (cs : List ℕ) → (length cs ≡ 0 → ⊥) → {c : ℕ} → c ≡ get_or cs (length cs - 1) 0 → c ≡ last_code cs
last_whole cs h is = is ∙ last_cell cs (length cs) h (omega arith) ∙ ap last_code (take-length cs)

-- it is below k where the first n are
pub last_below : (cs : List ℕ) (n k : ℕ) → 0 < k → n ≤ length cs → ((i : ℕ) → i < n → get_or cs i 0 < k) → last_code (take n cs) < k
last_below cs zero k some h low = some
last_below cs (suc n) k some h low = rw (sym (last_cell cs (suc n) (λ e. absurd (omega (arith, e))) h)) (simp unary_clauses (low n (omega arith)))

-- ---- the codes before i have not the status
pub record Without (t : List ℕ) (w : ℕ) (cs : List ℕ) (i : ℕ) : Type 0 where
  pub within : i ≤ length cs
  pub none : (j : ℕ) → j < i → eqb (get_or t (get_or cs j 0) 0) w ≡ false

module _ {t : List ℕ} {w : ℕ} {cs : List ℕ} {i : ℕ} (before : Without t w cs i) where
  -- the next has it
  pub first_here : i < length cs → get_or t (get_or cs i 0) 0 ≡ w → {r : ℕ} → r ≡ get_or cs i 0 → FirstWith (λ (c : ℕ). eqb (get_or t c 0) w) cs (Some r)
  first_here low h {r} e =
      let is : index_of (λ (c : ℕ). eqb (get_or t c 0) w) cs ≡ i =
      index_at (λ (c : ℕ). eqb (get_or t c 0) w) 0 cs i low before.none (eq-eqb (get_or t (get_or cs i 0) 0) w h) in
      (omega (arith, is), e ∙ ap (λ (j : ℕ). get_or cs j 0) (sym is))

  -- there is no next
  pub first_none : length cs ≤ i → FirstWith (λ (c : ℕ). eqb (get_or t c 0) w) cs None
  first_none high = index_none (λ (c : ℕ). eqb (get_or t c 0) w) 0 cs (λ j m. before.none j (omega arith))

-- ---- the first n cells are the codes of e
module _ (D : Prefix) (e : Constraint) (cs : List ℕ) (n : ℕ) (within : n ≤ length cs) (coded : take n cs ≡ codes D e) where
  -- as many literals as cells
  pub coded_length : length e ≡ n
  coded_length = sym (length-map e (code_of D)) ∙ ap length (sym coded) ∙ length-take-le n cs within

  -- fewer cells are the codes of the first literals
  pub coded_take : (m : ℕ) → m ≤ n → take m cs ≡ codes D (take m e)
  coded_take m h = sym (take-take m n cs h) ∙ ap (take m) coded ∙ take_image (code_of D) m e

  -- a cell is its literal's code
  pub coded_cell : (i : ℕ) (d : Literal) → i < n → get_or cs i 0 ≡ code_of D (get_or e i d)
  coded_cell i d h =
      sym (get_or-take n cs i 0 h) ∙ ap (λ (l : List ℕ). get_or l i 0) coded ∙ get_d_image (code_of D) e i d 0 (omega (arith, coded_length))

-- what the chain `find` gives
pub first_found : (t : List ℕ) (w : ℕ) (cs : List ℕ) (r : Maybe ℕ)
    → MatchOption r (AllWithin (λ c. eqb (get_or t c 0) w ≡ false) cs 0 (length cs))
    (λ x. (get_or t x 0 ≡ w) × (i : ℕ) × (i < length cs) × HoldsAt (λ y. y ≡ x) cs i × AllWithin (λ c. eqb (get_or t c 0) w ≡ false) cs 0 i)
    → FirstWith (λ (c : ℕ). eqb (get_or t c 0) w) cs r
first_found t w cs None h = first_none (record { within = omega arith; none = λ j m. h j 0 (omega arith) m }) (omega arith)
first_found t w cs (Some x) (is, i, l, here, h) = first_here (record { within = omega (arith, l); none = λ j m. h j 0 (omega arith) m }) l (ap (λ (c : ℕ). get_or t c 0) (here 0) ∙ is) (sym (here 0))
