-- Tables by code, filled place by place: the statuses at a node from its values by number, and the quantifiers from those by number.
use Prim.Native.Nat.{ℕ, zero, suc, ◌+◌, ◌≤◌, ◌<◌}
use native.Mathlib.Omega.{arith}
use native.Mathlib.Numerals.{add-one}
use mathlib.Core.Path.{◌≡◌, refl, sym, ap, subst, ◌∙◌}
use mathlib.Core.Bool.{Bool, true, false}
use mathlib.Core.Logic.{◌⊎◌, inl, inr}
use mathlib.Core.List.{List, []}
use mathlib.Core.Option.{some}
use lib.ListN.{length, get_or, set, take, replicate, get_or-replicate, length-replicate, get_or-eq_default}
use lib.Seq.{take-suc, length-take-le, take-length}
use Rattle.qbf.specs.Formula.{highest, Quantifier, free, exists, forall, Prefix, Node, value_at, quantifier_at}
use Rattle.qbf.specs.Card.{byte_of}
use Rattle.qbf.specs.Calls.{numbers_are_ok}
use Rattle.theory.proofs.Basics.{value_some, le_or_lt}
use Rattle.theory.proofs.Prefixes.{numbers, place_of_number}
use Rattle.tables.specs.Views.{quantifier_code, value_code, Kinds, Values, Numbers}
use Rattle.tables.specs.Codes.{code_at, Statuses, status_of, given, Quantified}
use Rattle.coding.proofs.Given.{stored_positive, stored_negative, stored_other, statuses_below}

-- a table of zeros has 0 everywhere, past its end too
pub zeros : (n i : ℕ) → ◌≡◌ {A = ℕ} (get_or (replicate n 0) i 0) 0
zeros n i = by (le_or_lt n i)
  where
    by : (n ≤ i) ⊎ (i < n) → ◌≡◌ {A = ℕ} (get_or (replicate n 0) i 0) 0
    by (inl h) = get_or-eq_default (replicate n 0) 0 (omega (arith, h, length-replicate {A = ℕ} n 0))
    by (inr h) = get_or-replicate n i 0 0 h

-- ---- statuses
-- at the root every code is open
pub statuses_root : (n : ℕ) → Statuses [] (replicate n 0)
statuses_root n = record { at = λ p b. zeros n (code_at p b) ∙ none_at b p }
  where
    none_at : (b : Bool) (p : ℕ) → 0 ≡ status_of b (value_at [] p)
    none_at b zero = refl
    none_at b (suc p) = refl

-- the code of a value
value_byte : (b : Bool) → value_code (some b) ≡ byte_of b
value_byte true = refl
value_byte false = refl

-- the value of the place after p, by its number
pub value_by_number : (D : Prefix) (s : Node) (ns vs : List ℕ) → Numbers D ns → Values D s vs → numbers_are_ok highest [] D ≡ true
    → (p : ℕ) → p < length s → length s ≤ length D → get_or vs (get_or ns (p + 1) 0) 0 ≡ byte_of (get_or s p false)
value_by_number D s ns vs numbered valued ok p h k =
    ap (λ (n : ℕ). get_or vs n 0) (ap (λ (q : ℕ). get_or ns q 0) (add-one p) ∙ numbered.at p (omega arith))
    ∙ valued.at (get_or (numbers D) p 0)
    ∙ ap (λ (q : ℕ). value_code (value_at s q)) (place_of_number highest D ok p (omega arith))
    ∙ ap value_code (value_some s p h)
    ∙ value_byte (get_or s p false)

-- the statuses at the first p + 1 values of a node
pub statuses_next : (s : Node) (t : List ℕ) (p v : ℕ) → Statuses (take p s) t → p < length s → code_at (p + 1) true < length t → v ≡ byte_of (get_or s p false) → Statuses (take (p + 1) s) (given (p + 1) v t)
statuses_next s t p v shown h within is =
    subst (λ (u : Node). Statuses u (given (p + 1) v t)) (sym (ap (λ (m : ℕ). take m s) (add-one p) ∙ take-suc s p false h))
    (statuses_below (take p s) (get_or s p false) t (p + 1) v shown (ap suc (length-take-le p s (omega arith)) ∙ sym (add-one p)) within is)

-- all values of the node
pub statuses_all : (s : Node) (t : List ℕ) (p : ℕ) → Statuses (take p s) t → length s ≡ p → Statuses s t
statuses_all s t p shown e = subst (λ (u : Node). Statuses u t) (ap (λ (m : ℕ). take m s) (sym e) ∙ take-length s) shown

-- ---- quantifiers
-- the quantifiers of the first p places
pub record Filled (D : Prefix) (p : ℕ) (t : List ℕ) : Type 0 where
  pub low : (q : ℕ) (b : Bool) → q ≤ p → get_or t (code_at q b) 0 ≡ quantifier_code (quantifier_at D q)

-- of no place: only the place of no variable counts as free
pub filled_none : (D : Prefix) (t : List ℕ) → code_at 0 true < length t → Filled D 0 (set (set t (code_at 0 false) 0) (code_at 0 true) 0)
filled_none D t room = record { low = λ q b h. zero_at q b h }
  where
    zero_at : (q : ℕ) (b : Bool) → q ≤ 0 → get_or (set (set t (code_at 0 false) 0) (code_at 0 true) 0) (code_at q b) 0 ≡ quantifier_code (quantifier_at D q)
    zero_at zero true h = stored_positive 0 0 0 t room
    zero_at zero false h = stored_negative 0 0 0 t room
    zero_at (suc q) b h = absurd (omega (arith, h))

-- the quantifier of the place after p, by its number
pub kind_by_number : (D : Prefix) (ns ks : List ℕ) → Numbers D ns → Kinds D ks → numbers_are_ok highest [] D ≡ true
    → (p : ℕ) → p < length D → get_or ks (get_or ns (p + 1) 0) 0 ≡ quantifier_code (quantifier_at D (p + 1))
kind_by_number D ns ks numbered shown ok p h =
    ap (λ (n : ℕ). get_or ks n 0) (ap (λ (q : ℕ). get_or ns q 0) (add-one p) ∙ numbered.at p h)
    ∙ shown.at (get_or (numbers D) p 0)
    ∙ ap (λ (q : ℕ). quantifier_code (quantifier_at D q)) (place_of_number highest D ok p h ∙ sym (add-one p))

-- a quantifier's code
kind_small : (κ : Quantifier) → quantifier_code κ ≤ 2
kind_small free = omega arith
kind_small exists = omega arith
kind_small forall = omega arith

-- the place after p gets its quantifier r, which is what stands by its number if that is one
pub filled_more : (D : Prefix) (ns ks : List ℕ) → Numbers D ns → Kinds D ks → numbers_are_ok highest [] D ≡ true
    → (p : ℕ) (t : List ℕ) → Filled D p t → p < length D → code_at (p + 1) true < length t
    → {r : ℕ} → (get_or ks (get_or ns (p + 1) 0) 0 ≤ 2 → r ≡ get_or ks (get_or ns (p + 1) 0) 0)
    → Filled D (p + 1) (set (set t (code_at (p + 1) false) r) (code_at (p + 1) true) r)
filled_more D ns ks numbered shown ok p t was h within {r} read = record { low = λ q b k. low q b k (le_or_lt q p) }
  where
    is : r ≡ quantifier_code (quantifier_at D (p + 1))
    is =
        read (subst (λ (k : ℕ). k ≤ 2) (sym (kind_by_number D ns ks numbered shown ok p h)) (kind_small (quantifier_at D (p + 1))))
        ∙ kind_by_number D ns ks numbered shown ok p h

    here : (b : Bool) → get_or (set (set t (code_at (p + 1) false) r) (code_at (p + 1) true) r) (code_at (p + 1) b) 0 ≡ quantifier_code (quantifier_at D (p + 1))
    here true = stored_positive (p + 1) r r t within ∙ is
    here false = stored_negative (p + 1) r r t within ∙ is

    low : (q : ℕ) (b : Bool) → q ≤ p + 1 → (q ≤ p) ⊎ (p < q)
        → get_or (set (set t (code_at (p + 1) false) r) (code_at (p + 1) true) r) (code_at q b) 0 ≡ quantifier_code (quantifier_at D q)
    low q b k (inl m) = stored_other (p + 1) r r t q b (λ e. omega (arith, e, m)) ∙ was.low q b m
    low q b k (inr m) =
        subst (λ (z : ℕ). get_or (set (set t (code_at (p + 1) false) r) (code_at (p + 1) true) r) (code_at z b) 0 ≡ quantifier_code (quantifier_at D z)) (let e : p + 1 ≡ q = omega (arith, k, m) in e)
        (here b)

-- of all places, where the place behind them has none
pub filled_all : (D : Prefix) (p : ℕ) (t : List ℕ) → Filled D p t → length D ≡ p → (p < highest.numbers → (b : Bool) → get_or t (code_at (p + 1) b) 0 ≡ 3) → Quantified D t
filled_all D p t was e last = record {
  at = λ q b h. was.low q b (omega arith);
  end = λ b h. ap (λ (n : ℕ). get_or t (code_at (n + 1) b) 0) e ∙ last (omega (arith, h, e)) b;
}

-- the place behind them gets none
pub filled_end : (D : Prefix) (p : ℕ) (t : List ℕ) → Filled D p t → length D ≡ p → p < highest.numbers → code_at (p + 1) true < length t
    → Quantified D (set (set t (code_at (p + 1) false) 3) (code_at (p + 1) true) 3)
filled_end D p t was e small room = filled_all D p _ (record { low = λ q b k. stored_other (p + 1) 3 3 t q b (λ n. omega (arith, n, k)) ∙ was.low q b k }) e (λ h b. here b)
  where
    here : (b : Bool) → get_or (set (set t (code_at (p + 1) false) 3) (code_at (p + 1) true) 3) (code_at (p + 1) b) 0 ≡ 3
    here true = stored_positive (p + 1) 3 3 t room
    here false = stored_negative (p + 1) 3 3 t room
