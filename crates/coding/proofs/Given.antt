-- The statuses of codes: a place that gets a value, one whose codes get back what they had, and what a status says of a literal.
use Prim.Native.Nat.{ℕ, suc, ◌+◌, ◌*◌, ◌≤◌, ◌<◌}
use native.Mathlib.Omega.{arith}
use mathlib.Core.Path.{◌≡◌, refl, sym, ap, subst, ◌∙◌}
use mathlib.Core.Logic.{◌⊎◌, inl, inr}
use mathlib.Core.Bool.{Bool, true, false, ◌&&◌, beq}
use mathlib.Core.List.{List, [], ◌∷◌}
use mathlib.Core.Option.{Option, none, some}
use lib.ListN.{length, get_or, set, length-set}
use lib.Seq.{get_or-set_same, get_or-set_other, set-get_or, set-set, set_comm}
use lib.Dec.{eqb}
use Rattle.qbf.specs.Formula.{Prefix, Literal, Node, ◌▹◌, place, positive, value_at, equals, has, all}
use Rattle.qbf.specs.Card.{byte_of}
use Rattle.theory.proofs.Basics.{length-▹, value_low, value_top, value_high, le_or_lt}
use Rattle.tables.specs.Views.{negated}
use Rattle.tables.specs.Codes.{code_at, code_of, codes, Statuses, status_of, wanted, all_are, given}

-- ---- the two codes of a place
-- the code of its negative literal is twice the place
pub negative_code : (p : ℕ) → p * 2 ≡ code_at p false
negative_code p = omega arith

-- the two stores of a value and its opposite
pub given_stores : (p v w : ℕ) (t : List ℕ) → w ≡ negated v → set (set t (p * 2) w) (p * 2 + 1) v ≡ given p v t
given_stores p v w t e = ap (λ (x : ℕ). set (set t (p * 2) x) (p * 2 + 1) v) e ∙ ap (λ (k : ℕ). set (set t k (negated v)) (p * 2 + 1) v) (negative_code p)

-- a table keeps its length
pub stored_length : (p x y : ℕ) (t : List ℕ) → length (set (set t (code_at p false) x) (code_at p true) y) ≡ length t
stored_length p x y t = simp length-set

pub given_length : (p v : ℕ) (t : List ℕ) → length (given p v t) ≡ length t
given_length p v t = stored_length p (negated v) v t

-- what the two codes of a place had, put back, takes back what the place was given
pub given_back : (p v : ℕ) (t : List ℕ) → code_at p true < length t
    → set (set (given p v t) (code_at p false) (get_or t (code_at p false) 0)) (code_at p true) (get_or t (code_at p true) 0) ≡ t
given_back p v t h =
    ap (λ (u : List ℕ). set u (code_at p true) (get_or t (code_at p true) 0))
    (set_comm (set t (code_at p false) (negated v)) (code_at p true) (code_at p false) v (get_or t (code_at p false) 0) (λ q. omega (arith, q))
    ∙ ap (λ (u : List ℕ). set u (code_at p true) v) (set-set t (code_at p false) (negated v) (get_or t (code_at p false) 0) ∙ set-get_or t (code_at p false) 0))
    ∙ set-set t (code_at p true) v (get_or t (code_at p true) 0)
    ∙ set-get_or t (code_at p true) 0

-- the codes of different places differ
codes_apart : (p q : ℕ) (b c : Bool) → (q ≡ p → ⊥) → code_at q c ≡ code_at p b → ⊥
codes_apart p q true true h e = omega (arith, h, e)
codes_apart p q true false h e = omega (arith, h, e)
codes_apart p q false true h e = omega (arith, h, e)
codes_apart p q false false h e = omega (arith, h, e)

-- the cells of a place after both are stored, and those of the other places
module _ (p x y : ℕ) (t : List ℕ) where
  abbrev pub stored : List ℕ
  stored = set (set t (code_at p false) x) (code_at p true) y

  -- the cell of the positive literal
  pub stored_positive : code_at p true < length t → get_or stored (code_at p true) 0 ≡ y
  stored_positive h = get_or-set_same (set t (code_at p false) x) (code_at p true) y 0 (simp length-set (omega arith))

  -- the cell of the negative literal
  pub stored_negative : code_at p true < length t → get_or stored (code_at p false) 0 ≡ x
  stored_negative h =
      get_or-set_other (set t (code_at p false) x) (code_at p true) (code_at p false) y 0 (λ q. omega (arith, q))
      ∙ get_or-set_same t (code_at p false) x 0 (omega arith)

  -- the cells of another place
  pub stored_other : (q : ℕ) (c : Bool) → (q ≡ p → ⊥) → get_or stored (code_at q c) 0 ≡ get_or t (code_at q c) 0
  stored_other q c h =
      get_or-set_other (set t (code_at p false) x) (code_at p true) (code_at q c) y 0 (codes_apart p q true c h)
      ∙ get_or-set_other t (code_at p false) (code_at q c) x 0 (codes_apart p q false c h)

-- a place that was given a value has the statuses of it
given_here : (p v : ℕ) (b c : Bool) (t : List ℕ) → code_at p true < length t → v ≡ byte_of b → get_or (given p v t) (code_at p c) 0 ≡ status_of c (some b)
given_here p v b true t h e = stored_positive p (negated v) v t h ∙ e ∙ on_status b
  where
    on_status : (x : Bool) → byte_of x ≡ status_of true (some x)
    on_status true = refl
    on_status false = refl
given_here p v b false t h e = stored_negative p (negated v) v t h ∙ ap negated e ∙ off_status b
  where
    off_status : (x : Bool) → negated (byte_of x) ≡ status_of false (some x)
    off_status true = refl
    off_status false = refl

-- ---- nodes
-- a longer node has the same value at every other place
value_other : (s : Node) (b : Bool) (q : ℕ) → (q ≡ suc (length s) → ⊥) → value_at (s ▹ b) q ≡ value_at s q
value_other s b q h = by (le_or_lt q (length s))
  where
    by : (q ≤ length s) ⊎ (length s < q) → value_at (s ▹ b) q ≡ value_at s q
    by (inl k) = value_low s b q k
    by (inr k) = value_high (s ▹ b) q (omega (arith, k, h, length-▹ s b)) ∙ sym (value_high s q k)

-- the statuses one place on
pub statuses_below : (s : Node) (b : Bool) (t : List ℕ) (p v : ℕ) → Statuses s t → suc (length s) ≡ p → code_at p true < length t → v ≡ byte_of b → Statuses (s ▹ b) (given p v t)
statuses_below s b t p v shown next within is = record { at = λ q c. at q c (le_or_lt q p) (le_or_lt p q) }
  where
    other : (q : ℕ) (c : Bool) → (q ≡ p → ⊥) → get_or (given p v t) (code_at q c) 0 ≡ status_of c (value_at (s ▹ b) q)
    other q c h = stored_other p (negated v) v t q c h ∙ shown.at q c ∙ ap (status_of c) (sym (value_other s b q (λ e. h (e ∙ next))))

    here : (q : ℕ) (c : Bool) → p ≡ q → get_or (given p v t) (code_at q c) 0 ≡ status_of c (value_at (s ▹ b) q)
    here q c e =
        subst (λ (r : ℕ). get_or (given p v t) (code_at r c) 0 ≡ status_of c (value_at (s ▹ b) r)) e
        (given_here p v b c t within is ∙ ap (status_of c) (sym (ap (value_at (s ▹ b)) (sym next) ∙ value_top s b)))

    at : (q : ℕ) (c : Bool) → (q ≤ p) ⊎ (p < q) → (p ≤ q) ⊎ (q < p) → get_or (given p v t) (code_at q c) 0 ≡ status_of c (value_at (s ▹ b) q)
    at q c (inl h) (inl k) = here q c (omega (arith, h, k))
    at q c (inr h) k = other q c (λ e. omega (arith, h, e))
    at q c (inl h) (inr k) = other q c (λ e. omega (arith, k, e))

-- ---- literals
-- what a status says, by the sign of the literal
status_says : (v b : Bool) (o : Option Bool) → equals o (beq v b) ≡ eqb (status_of b o) (wanted v)
status_says true b none = refl
status_says false b none = refl
status_says true true (some true) = refl
status_says true true (some false) = refl
status_says true false (some true) = refl
status_says true false (some false) = refl
status_says false true (some true) = refl
status_says false true (some false) = refl
status_says false false (some true) = refl
status_says false false (some false) = refl

-- a literal has the truth value v where its code has the status of it
pub has_status : (D : Prefix) (s : Node) (t : List ℕ) → Statuses s t → (v : Bool) (l : Literal) → has D v s l ≡ eqb (get_or t (code_of D l) 0) (wanted v)
has_status D s t shown v l =
    status_says v (positive l) (value_at s (place D l)) ∙ ap (λ (x : ℕ). eqb x (wanted v)) (sym (shown.at (place D l) (positive l)))

-- all literals have the truth value v where all their codes have the status of it
pub all_status : (D : Prefix) (s : Node) (t : List ℕ) → Statuses s t → (v : Bool) (e : List Literal) → all (has D v s) e ≡ all_are t (wanted v) (codes D e)
all_status D s t shown v [] = refl
all_status D s t shown v (l ∷ e) =
    ap (λ (x : Bool). x && all (has D v s) e) (has_status D s t shown v l)
    ∙ ap (λ (x : Bool). eqb (get_or t (code_of D l) 0) (wanted v) && x) (all_status D s t shown v e)
