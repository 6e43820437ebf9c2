-- The values after both lists: what the reading records of each variable, and whether it is full.
use Prim.Native.Nat.{ℕ, zero, suc, ◌≤◌, ◌<◌}
use native.Mathlib.Nat.{le_of_suc-le-suc, not-suc-le-zero}
use native.Mathlib.Omega.{arith}
use mathlib.Core.Path.{◌≡◌, refl, sym, ap, ◌∙◌}
use mathlib.Core.Logic.{◌⊎◌, inl, inr}
use mathlib.Core.Bool.{Bool, true, false, cond, not, ◌&&◌, ◌||◌, false≢true, true≢false}
use mathlib.Core.List.{List, [], ◌∷◌, map}
use mathlib.Core.Option.{Option, none, some}
use lib.ListN.{length, get_or, get_elem?, set, length-map, length-set, get_or-eq_default}
use lib.Seq.{get_or-set_same, get_or-set_other}
use lib.Dec.{eqb}
use borrow.Author.Tests.{eqb-true, eqb-false}
use Rattle.qbf.specs.Formula.{Limits, Quantifier, free, exists, forall, is_free, Prefix, quantifiers, Literal, Node, number_of, place_of, value_at, is_open}
use Rattle.qbf.specs.Truth.{free_count, free_variables}
use Rattle.qbf.specs.Open.{Reading, names, recorded, reading_of, is_full}
use Rattle.qbf.specs.Calls.{numbers_are_ok, start_node}
use Rattle.theory.proofs.Basics.{dichotomy, le_or_lt}
use Rattle.theory.proofs.Prefixes.{numbers, number_at, place_of_number, place_beyond}
use Rattle.theory.proofs.Starting.{free_fit}
use Rattle.theory.proofs.Queries.{reading_length}
use Rattle.tables.specs.Views.{value_code, Numbers, Places, Recorded, Values}
use Rattle.reading.specs.Marking.{any_barred, named, FullBy}
use Rattle.reading.proofs.Faults.{named_fresh}

-- ---- the values named
module _ (v : ℕ) where
  pub named_length : (values : List ℕ) (ls : List Literal) → length (named v values ls) ≡ length values
  unfolding named
  named_length values [] = refl
  named_length values (l ∷ ls) = named_length (set values (number_of l) v) ls ∙ length-set values (number_of l) v

  named_at : (n : ℕ) (values : List ℕ) (ls : List Literal) → n < length values → get_or (named v values ls) n 0 ≡ cond (names ls n) v (get_or values n 0)
  unfolding named
  named_at n values [] h = refl
  named_at n values (l ∷ ls) h =
      named_at n (set values m v) ls (omega (arith, h, length-set values m v)) ∙ by (dichotomy (eqb n m))
    where
      m : ℕ
      m = number_of l

      both : (b : Bool) → cond {A = ℕ} b v v ≡ v
      both true = refl
      both false = refl

      by : (eqb n m ≡ true) ⊎ (eqb n m ≡ false) → cond (names ls n) v (get_or (set values m v) n 0) ≡ cond (eqb n m || names ls n) v (get_or values n 0)
      by (inl e) =
          let q = eqb-true n m e in
          ap (λ (k : ℕ). cond (names ls n) v k) (ap (λ (k : ℕ). get_or (set values m v) k 0) q ∙ get_or-set_same values m v 0 (omega (arith, q, h)))
          ∙ both (names ls n)
          ∙ sym (ap (λ (b : Bool). cond (b || names ls n) v (get_or values n 0)) e)
      by (inr e) =
          ap (λ (k : ℕ). cond (names ls n) v k) (get_or-set_other values m n v 0 (eqb-false n m e))
          ∙ sym (ap (λ (b : Bool). cond (b || names ls n) v (get_or values n 0)) e)

-- ---- readings
module _ (on off : List Literal) where
  abbrev recorded_of : ℕ → Option Bool
  recorded_of n = recorded (names on n) (names off n)

  reading_at : (D : Prefix) (i : ℕ) → i < free_variables D → get_or (reading_of on off D) i none ≡ recorded_of (get_or (numbers D) i 0)
  reading_at [] i h = absurd (not-suc-le-zero h)
  reading_at (d ∷ D) i h = by d.quantifier i h (reading_at D)
    where
      by : (κ : Quantifier) (j : ℕ) → j < free_count (κ ∷ quantifiers D) → ((k : ℕ) → k < free_variables D → get_or (reading_of on off D) k none ≡ recorded_of (get_or (numbers D) k 0))
          → get_or (cond (is_free κ) (recorded_of d.number ∷ reading_of on off D) []) j none ≡ recorded_of (get_or (d.number ∷ numbers D) j 0)
      by free zero z ih = refl
      by free (suc j) z ih = ih j (le_of_suc-le-suc z)
      by exists j z ih = absurd (not-suc-le-zero z)
      by forall j z ih = absurd (not-suc-le-zero z)

  -- a full reading has the values of the start node
  full_start : (D : Prefix) → is_full (reading_of on off D) ≡ true → reading_of on off D ≡ map some (start_node on D)
  full_start [] e = refl
  full_start (d ∷ D) e = by d.quantifier e (full_start D)
    where
      head : (x y : Bool) → is_full (recorded x y ∷ reading_of on off D) ≡ true → (recorded x y ≡ some x) × (is_full (reading_of on off D) ≡ true)
      head true y f = (refl, f)
      head false true f = (refl, f)
      head false false f = absurd (false≢true f)

      by : (κ : Quantifier) → is_full (cond (is_free κ) (recorded_of d.number ∷ reading_of on off D) []) ≡ true → (is_full (reading_of on off D) ≡ true → reading_of on off D ≡ map some (start_node on D))
          → cond (is_free κ) (recorded_of d.number ∷ reading_of on off D) [] ≡ map some (cond (is_free κ) (names on d.number ∷ start_node on D) [])
      by free f ih = let w = head (names on d.number) (names off d.number) f in λ i. w.0 i ∷ ih w.1 i
      by exists f ih = refl
      by forall f ih = refl

value_some : (s : Node) (p : ℕ) → get_or (none ∷ map some s) p none ≡ value_at s p
value_some s zero = refl
value_some s (suc i) = by s i
  where
    by : (t : Node) (j : ℕ) → get_or (map some t) j none ≡ get_elem? t j
    by [] j = refl
    by (a ∷ t) zero = refl
    by (a ∷ t) (suc j) = by t j

full_if : (os : Reading) → ((i : ℕ) → i < length os → is_open (get_or os i none) ≡ false) → is_full os ≡ true
full_if [] h = refl
full_if (o ∷ os) h = ap (λ (x : Bool). not x && is_full os) (h 0 (omega arith)) ∙ full_if os (λ i z. h (suc i) (omega (arith, z)))

not_full : (os : Reading) (i : ℕ) → i < length os → is_open (get_or os i none) ≡ true → is_full os ≡ false
not_full [] i h e = absurd (not-suc-le-zero h)
not_full (o ∷ os) zero h e = ap (λ (x : Bool). not x && is_full os) e
not_full (o ∷ os) (suc i) h e = ap (λ (x : Bool). not (is_open o) && x) (not_full os i (le_of_suc-le-suc h) e) ∙ never (not (is_open o))
  where
    never : (x : Bool) → (x && false) ≡ false
    never true = refl
    never false = refl

code_open : (o : Option Bool) → eqb (value_code o) 0 ≡ is_open o
code_open none = refl
code_open (some false) = refl
code_open (some true) = refl

-- off comes last, and is not where on is
code_of : (a b : Bool) → (b ≡ true → a ≡ false) → cond b 1 (cond a 2 0) ≡ value_code (recorded a b)
code_of true true h = absurd (true≢false (h refl))
code_of true false h = refl
code_of false true h = refl
code_of false false h = refl

-- ---- the tables of a prefix, and both lists named
module _
    (L : Limits)
    (D : Prefix)
    (ok : numbers_are_ok L [] D ≡ true)
    (places : List ℕ)
    (placed : Places D places)
    (f : ℕ)
    (is : f ≡ free_variables D)
    (values : List ℕ)
    (wide : L.numbers < length values)
    (opened : (n : ℕ) → get_or values n 0 ≡ 0)
    (on off : List Literal)
    (fine : any_barred places f 2 values on ≡ false)
    (fine_too : any_barred places f 1 (named 2 values on) off ≡ false)
  where
    abbrev first : List ℕ
    first = named 2 values on

    -- a variable that is not free is not named
    unnamed : (v : ℕ) (vs : List ℕ) (ls : List Literal) → any_barred places f v vs ls ≡ false → (n : ℕ) → ((i : ℕ) → place_of D n ≡ suc i → f ≤ i) → names ls n ≡ false
    unnamed v vs ls un n h = by (dichotomy (names ls n))
      where
        never : (p : ℕ) → place_of D n ≡ p → (p ≡ 0 → ⊥) → p ≤ f → ⊥
        never zero e z w = z refl
        never (suc i) e z w = omega (arith, w, h i e)

        by : (names ls n ≡ true) ⊎ (names ls n ≡ false) → names ls n ≡ false
        by (inl e) =
            let w = named_fresh places f v vs ls un n e in
            absurd (never (get_or places n 0) (sym (placed.at n)) w.declared w.low)
        by (inr e) = e

    value_of : (n : ℕ) → n < length values → get_or (named 1 first off) n 0 ≡ value_code (recorded_of on off n)
    value_of n low =
        named_at 1 n first off (omega (arith, low, named_length 2 values on))
        ∙ ap (λ (k : ℕ). cond (names off n) 1 k) at_first
        ∙ code_of (names on n) (names off n) apart
      where
        at_first : get_or first n 0 ≡ cond (names on n) 2 0
        at_first = named_at 2 n values on low ∙ ap (λ (k : ℕ). cond (names on n) 2 k) (opened n)

        apart : names off n ≡ true → names on n ≡ false
        apart e = by (names on n) refl
          where
            by : (a : Bool) → names on n ≡ a → a ≡ false
            by false q = refl
            by true q =
                let w = (named_fresh places f 1 first off fine_too n e).opened in
                absurd (omega (arith, sym w ∙ at_first ∙ ap (λ (a : Bool). cond a 2 0) q))

    recorded_none : (n : ℕ) → ((i : ℕ) → place_of D n ≡ suc i → f ≤ i) → recorded_of on off n ≡ none
    recorded_none n h = ap (λ (a : Bool). recorded a (names off n)) (unnamed 2 values on fine n h) ∙ ap (recorded false) (unnamed 1 first off fine_too n h)

    os_long : length (reading_of on off D) ≡ f
    os_long = reading_length on off D ∙ sym is

    -- what is recorded of a number, by its place
    by_place : (n p : ℕ) → place_of D n ≡ p → recorded_of on off n ≡ get_or (none ∷ reading_of on off D) p none
    by_place n zero e = recorded_none n (λ i z. omega (arith, e, z))
    by_place n (suc i) e = by (le_or_lt f i)
      where
        by : (f ≤ i) ⊎ (i < f) → recorded_of on off n ≡ get_or (reading_of on off D) i none
        by (inl h) = recorded_none n (λ j z. omega (arith, e, z, h)) ∙ sym (get_or-eq_default (reading_of on off D) none {n = i} (omega (arith, h, os_long)))
        by (inr h) = sym (reading_at on off D i (omega (arith, h, is)) ∙ ap (recorded_of on off) (number_at D n i e).1)

    pub both_recorded : Recorded D (reading_of on off D) (named 1 first off)
    both_recorded = record { at = λ n. by n (le_or_lt (length values) n) }
      where
        by : (n : ℕ) → (length values ≤ n) ⊎ (n < length values) → get_or (named 1 first off) n 0 ≡ value_code (get_or (none ∷ reading_of on off D) (place_of D n) none)
        by n (inl h) =
            get_or-eq_default (named 1 first off) 0 {n = n} (omega (arith, h, named_length 1 first off, named_length 2 values on))
            ∙ sym (ap (λ (p : ℕ). value_code (get_or (none ∷ reading_of on off D) p none)) (place_beyond L D ok n (omega (arith, h, wide))))
        by n (inr h) = value_of n h ∙ ap value_code (by_place n (place_of D n) refl)

-- ---- the numbers of the first places, by a table that shows the reading
module _
    (L : Limits)
    (D : Prefix)
    (ok : numbers_are_ok L [] D ≡ true)
    (ns : List ℕ)
    (numbered : Numbers D ns)
    (f : ℕ)
    (is : f ≡ free_variables D)
    (on off : List Literal)
    (values : List ℕ)
    (shown : Recorded D (reading_of on off D) values)
  where
    abbrev os : Reading
    os = reading_of on off D

    open_at : (i : ℕ) → i < f → eqb (get_or values (get_or ns (suc i) 0) 0) 0 ≡ is_open (get_or os i none)
    open_at i h =
        ap (λ (n : ℕ). eqb (get_or values n 0) 0) (numbered.at i low)
        ∙ ap (λ (k : ℕ). eqb k 0) (shown.at (get_or (numbers D) i 0) ∙ ap (λ (p : ℕ). value_code (get_or (none ∷ os) p none)) (place_of_number L D ok i low))
        ∙ code_open (get_or os i none)
      where
        low : i < length D
        low = omega (arith, h, is, free_fit (quantifiers D), length-map D (λ d. d.quantifier))

    pub full_told : (full : Bool) → FullBy values ns f full → full ≡ is_full os
    full_told true h = sym (full_if os (λ i z. let w : i < f = omega (arith, z, reading_length on off D, is) in sym (open_at i w) ∙ h i w))
    full_told false h = sym (not_full os h.0 (omega (arith, h.1, reading_length on off D, is)) (sym (open_at h.0 h.1) ∙ h.2))

    pub full_values : is_full os ≡ true → Values D (start_node on D) values
    full_values e =
        record { at = λ n. shown.at n ∙ ap value_code (ap (λ (z : Reading). get_or (none ∷ z) (place_of D n) none) (full_start on off D e) ∙ value_some (start_node on D) (place_of D n)) }
