-- The flags of a QDIMACS text are declared without a fault, and no group declares one of them.
use Prim.Native.Nat.{ℕ, zero, suc, ◌+◌, ◌≤◌, ◌<◌, zero-le}
use native.Mathlib.Nat.{le_refl}
use mathlib.Core.Path.{◌≡◌, refl, sym, ap, ◌∙◌, subst}
use mathlib.Core.Logic.{inl, inr}
use mathlib.Core.Bool.{Bool, true, false, cond, not, ◌&&◌, ◌||◌, true≢false}
use mathlib.Core.List.{List, [], ◌∷◌, ◌++◌, map, append_assoc, append-nil, map-append}
use mathlib.Core.Option.{Option, none}
use native.Mathlib.Omega.{arith}
use borrow.Author.Tests.{ne_eqb, eq-eqb, le-ltb, lt-leb}
use lib.ListN.{length, length-append, length-map}
use lib.Dec.{eqb, leb, ltb}
use Rattle.qbf.specs.Formula.{Limits, most_free, Quantifier, free, is_free, Prefix, quantifiers, any, place_from, place_of}
use Rattle.qbf.specs.Truth.{free_variables}
use Rattle.qbf.specs.Card.{Mem}
use Rattle.qbf.specs.Calls.{given, numbers_are_ok, ◌or_else◌}
use Rattle.theory.proofs.Basics.{and_left, and_right, and_both, or_false, or_false_left, or_false_right, or_right}
use Rattle.theory.proofs.Starting.{free_fit}
use Rattle.theory.proofs.Prefixes.{numbers}
use Rattle.layout.specs.Opening.{variable, crowded, declare_fault}
use Rattle.layout_laws.proofs.Blocks.{in_range, number_declared}
use Rattle.qdimacs_form.specs.Opening.{flags_up_to, flag_variables, group_fault}

-- ---- which numbers are declared
abbrev declares : ℕ → Prefix → Bool
declares n D = any (λ d. eqb n d.number) D

place_test : (p n : ℕ) (D : Prefix) → eqb (place_from (suc p) n D) 0 ≡ not (declares n D)
place_test p n [] = refl
place_test p n (d ∷ D) = by (eqb n d.number) (place_test (suc p) n D)
  where
    by : (t : Bool) → eqb (place_from (suc (suc p)) n D) 0 ≡ not (declares n D) → eqb (cond t (suc p) (place_from (suc (suc p)) n D)) 0 ≡ not (t || declares n D)
    by true h = ne_eqb (suc p) 0 (λ e. omega (arith, e))
    by false h = h

pub declared_test : (D : Prefix) (n : ℕ) → eqb (place_of D n) 0 ≡ not (declares n D)
unfolding place_of
declared_test D n = place_test 0 n D

any_append : {A : Type 0} (f : A → Bool) (xs ys : List A) → any f (xs ++ ys) ≡ (any f xs || any f ys)
any_append f [] ys = refl
any_append f (x ∷ xs) ys = by (f x) (any_append f xs ys)
  where
    by : (t : Bool) → any f (xs ++ ys) ≡ (any f xs || any f ys) → (t || any f (xs ++ ys)) ≡ (t || any f xs || any f ys)
    by true h = refl
    by false h = h

declares_mem : (n : ℕ) (D : Prefix) → Mem n (numbers D) → declares n D ≡ true
declares_mem n [] m = absurd m
declares_mem n (d ∷ D) (inl p) = rw (eq-eqb n d.number p)
declares_mem n (d ∷ D) (inr m) = or_right (eqb n d.number) (declares n D) (declares_mem n D m)

-- ---- flags
-- a flag is none of the numbers that fail a test which every flag passes
module _ (D : Prefix) (n : ℕ) where
  flags_lack : (v : ℕ) → ((m : ℕ) → 1 ≤ m → m ≤ v → eqb (place_of D m) 0 ≡ true → n ≡ m → ⊥) → declares n (flag_variables D v) ≡ false
  flags_lack zero h = refl
  flags_lack (suc v) h =
      ap (declares n) (map-append (variable free) (flags_up_to D v) (cond (eqb (place_of D (suc v)) 0) (suc v ∷ []) []))
      ∙ any_append (λ d. eqb n d.number) (flag_variables D v) (map (variable free) (cond (eqb (place_of D (suc v)) 0) (suc v ∷ []) []))
      ∙ or_false (declares n (flag_variables D v)) (declares n (map (variable free) (cond (eqb (place_of D (suc v)) 0) (suc v ∷ []) [])))
      (flags_lack v (λ m a b c e. h m a (omega (arith, b)) c e)) (last (eqb (place_of D (suc v)) 0) refl)
    where
      last : (t : Bool) → eqb (place_of D (suc v)) 0 ≡ t → declares n (map (variable free) (cond t (suc v ∷ []) [])) ≡ false
      last true q = rw (ne_eqb n (suc v) (λ e. h (suc v) (omega arith) (omega arith) q e))
      last false q = refl

-- a number of a group is no flag
pub group_lacks : (D : Prefix) (v n : ℕ) → Mem n (numbers D) → declares n (flag_variables D v) ≡ false
group_lacks D v n m =
    flags_lack D n v (λ k a b c e. true≢false (sym c ∙ declared_test D k ∙ ap not (subst (λ (x : ℕ). declares x D ≡ true) e (declares_mem n D m))))

-- a number above the count is no flag
above_lacks : (D : Prefix) (v n : ℕ) → v < n → declares n (flag_variables D v) ≡ false
above_lacks D v n h = flags_lack D n v (λ k a b c e. omega (arith, h, b, e))

-- the next number is none yet
pub flag_new : (D : Prefix) (v : ℕ) → eqb (place_of (flag_variables D v) (suc v)) 0 ≡ true
flag_new D v = declared_test (flag_variables D v) (suc v) ∙ ap not (above_lacks D v (suc v) (omega arith))

-- it becomes one where no group declares it
module _ (D : Prefix) (v : ℕ) where
  pub flags_more : place_of D (suc v) ≡ 0 → flag_variables D (suc v) ≡ flag_variables D v ++ (variable free (suc v) ∷ [])
  flags_more e =
      ap (λ (t : Bool). map (variable free) (flags_up_to D v ++ cond t (suc v ∷ []) [])) (eq-eqb (place_of D (suc v)) 0 e) ∙ map-append (variable free) (flags_up_to D v) (suc v ∷ [])

  pub flags_same : (place_of D (suc v) ≡ 0 → ⊥) → flag_variables D (suc v) ≡ flag_variables D v
  flags_same e = ap (λ (t : Bool). map (variable free) (flags_up_to D v ++ cond t (suc v ∷ []) [])) (ne_eqb (place_of D (suc v)) 0 e) ∙ ap (map (variable free)) (append-nil (flags_up_to D v))

-- ---- the flags' line
declare_append : (L : Limits) (κ : Quantifier) (D : Prefix) (xs ys : List ℕ) → declare_fault L κ D (xs ++ ys) ≡ (declare_fault L κ D xs or_else declare_fault L κ (D ++ map (variable κ) xs) ys)
declare_append L κ D [] ys = rw (append-nil D)
declare_append L κ D (x ∷ xs) ys =
    by (eqb x 0 || ltb L.numbers x) (not (eqb (place_of D x) 0)) (crowded κ D) (declare_fault L κ (D ++ map (variable κ) (x ∷ xs)) ys)
    (declare_append L κ D' xs ys ∙ ap (λ (E : Prefix). declare_fault L κ D' xs or_else declare_fault L κ E ys) (append_assoc D (variable κ x ∷ []) (map (variable κ) xs)))
  where
    D' : Prefix
    D' = D ++ (variable κ x ∷ [])

    by : (s t c : Bool) (o : Option ℕ) → declare_fault L κ D' (xs ++ ys) ≡ (declare_fault L κ D' xs or_else o) → (given s 3 or_else given t 4 or_else given c 33 or_else declare_fault L κ D' (xs ++ ys)) ≡ ((given s 3 or_else given t 4 or_else given c 33 or_else declare_fault L κ D' xs) or_else o)
    by true t c o h = refl
    by false true c o h = refl
    by false false true o h = refl
    by false false false o h = h

-- there are no more flags than numbers up to the count
pub flags_most : (D : Prefix) (v : ℕ) → length (flags_up_to D v) ≤ v
flags_most D zero = zero-le
flags_most D (suc v) = omega (arith, length-append (flags_up_to D v) (cond (eqb (place_of D (suc v)) 0) (suc v ∷ []) []), flags_most D v, one (eqb (place_of D (suc v)) 0))
  where
    one : (t : Bool) → length (cond t (suc v ∷ []) []) ≤ 1
    one true = le_refl 1
    one false = zero-le

-- and fewer than there may be find room for one more
flags_room : (D : Prefix) (v : ℕ) → length (flags_up_to D v) < most_free → crowded free (flag_variables D v) ≡ false
flags_room D v h =
    lt-leb most_free (free_variables (flag_variables D v))
    (omega (
      arith,
      h,
      free_fit (quantifiers (flag_variables D v)),
      length-map (flag_variables D v) (λ d. d.quantifier),
      length-map (flags_up_to D v) (variable free),
    ))

-- No more flags than there may be are declared without a fault.
pub flags_none : (L : Limits) (D : Prefix) (v : ℕ) → length (flags_up_to D v) ≤ most_free → v ≤ L.numbers → declare_fault L free [] (flags_up_to D v) ≡ none
flags_none L D zero few h = refl
flags_none L D (suc v) few h =
    declare_append L free [] (flags_up_to D v) (cond (eqb (place_of D (suc v)) 0) (suc v ∷ []) [])
    ∙ ap (λ (o : Option ℕ). o or_else declare_fault L free (flag_variables D v) (cond (eqb (place_of D (suc v)) 0) (suc v ∷ []) [])) (flags_none L D v (omega (arith, together)) (omega (arith, h)))
    ∙ last (eqb (place_of D (suc v)) 0) together
  where
    together : length (flags_up_to D v) + length (cond (eqb (place_of D (suc v)) 0) (suc v ∷ []) []) ≤ most_free
    together = omega (arith, few, length-append (flags_up_to D v) (cond (eqb (place_of D (suc v)) 0) (suc v ∷ []) []))

    last : (t : Bool) → length (flags_up_to D v) + length (cond t (suc v ∷ []) []) ≤ most_free → declare_fault L free (flag_variables D v) (cond t (suc v ∷ []) []) ≡ none
    last true room = rw (or_false (eqb (suc v) 0) (ltb L.numbers (suc v)) (ne_eqb (suc v) 0 (λ e. omega (arith, e))) (le-ltb L.numbers (suc v) h), flag_new D v) (ap (λ (c : Bool). given c 33 or_else none) (flags_room D v (omega (arith, room))))
    last false room = refl

-- ---- flags and groups together
-- numbers are judged alike after lists that hold the same of them
seen_same : (L : Limits) (s t : List ℕ) (D : Prefix) → ((n : ℕ) → Mem n (numbers D) → any (eqb n) s ≡ any (eqb n) t) → numbers_are_ok L s D ≡ numbers_are_ok L t D
seen_same L s t [] h = refl
seen_same L s t (d ∷ D) h =
    rw (h d.number (inl refl))
    (ap (λ (x : Bool). leb 1 d.number && leb d.number L.numbers && not (any (eqb d.number) t) && x)
    (seen_same L (d.number ∷ s) (d.number ∷ t) D (λ n m. ap (λ (x : Bool). eqb n d.number || x) (h n (inr m)))))

numbers_join : (L : Limits) (s : List ℕ) (F D : Prefix) → numbers_are_ok L s F ≡ true → numbers_are_ok L [] D ≡ true → ((n : ℕ) → Mem n (numbers D) → (any (eqb n) s ≡ false) × (declares n F ≡ false))
    → numbers_are_ok L s (F ++ D) ≡ true
numbers_join L s [] D f d h = seen_same L s [] D (λ n m. (h n m).0) ∙ d
numbers_join L s (x ∷ F) D f d h =
    and_both own (numbers_are_ok L (x.number ∷ s) (F ++ D)) (and_left own (numbers_are_ok L (x.number ∷ s) F) f)
    (numbers_join L (x.number ∷ s) F D (and_right own (numbers_are_ok L (x.number ∷ s) F) f) d
    (λ n m.
    let q = h n m in (
      or_false (eqb n x.number) (any (eqb n) s) (or_false_left (eqb n x.number) (declares n F) q.1) q.0,
      or_false_right (eqb n x.number) (declares n F) q.1,
    )))
  where
    own : Bool
    own = leb 1 x.number && leb x.number L.numbers && not (any (eqb x.number) s)

-- the numbers of the flags, however many there are
flag_numbers : (L : Limits) (D : Prefix) (v : ℕ) → v ≤ L.numbers → numbers_are_ok L [] (flag_variables D v) ≡ true
flag_numbers L D zero h = refl
flag_numbers L D (suc v) h = by (eqb (place_of D (suc v)) 0) (flag_numbers L D v (omega (arith, h)))
  where
    by : (t : Bool) → numbers_are_ok L [] (flag_variables D v) ≡ true → numbers_are_ok L [] (map (variable free) (flags_up_to D v ++ cond t (suc v ∷ []) [])) ≡ true
    by true ih =
        ap (numbers_are_ok L []) (map-append (variable free) (flags_up_to D v) (suc v ∷ []))
        ∙ number_declared L free (flag_variables D v) (suc v) ih
        (in_range L (flag_variables D v) (suc v) (or_false (eqb (suc v) 0) (ltb L.numbers (suc v)) (ne_eqb (suc v) 0 (λ e. omega (arith, e))) (le-ltb L.numbers (suc v) h)) (ap not (flag_new D v)))
    by false ih = ap (λ (ns : List ℕ). numbers_are_ok L [] (map (variable free) ns)) (append-nil (flags_up_to D v)) ∙ ih

-- the numbers of a completed prefix
pub completed_numbers : (L : Limits) (D : Prefix) (v : ℕ) → v ≤ L.numbers → numbers_are_ok L [] D ≡ true → numbers_are_ok L [] (flag_variables D v ++ D) ≡ true
completed_numbers L D v few d = numbers_join L [] (flag_variables D v) D (flag_numbers L D v few) d (λ n m. (refl, group_lacks D v n m))

-- ---- a group's line
-- a group of numbers up to the count, none of which is a flag, is judged as our own group after the flags
pub group_same : (L : Limits) (v : ℕ) (κ : Quantifier) → is_free κ ≡ false → (F D : Prefix) (ns : List ℕ) → ((n : ℕ) → Mem n ns → (n ≤ v) × (declares n F ≡ false)) → group_fault L v κ D ns ≡ declare_fault L κ (F ++ D) ns
group_same L v κ bound F D [] h = refl
group_same L v κ bound F D (n ∷ ns) h =
    rw (le-ltb v n (h n (inl refl)).0, place_same)
    (ap (λ (o : Option ℕ). given (eqb n 0 || ltb L.numbers n) 3 or_else given (not (eqb (place_of (F ++ D) n) 0)) 4 or_else o)
    (ap (λ (t : Bool). given (t && leb most_free (free_variables (F ++ D))) 33 or_else group_fault L v κ (D ++ (variable κ n ∷ [])) ns) (sym bound))
    ∙ ap (λ (o : Option ℕ). given (eqb n 0 || ltb L.numbers n) 3 or_else given (not (eqb (place_of (F ++ D) n) 0)) 4 or_else given (crowded κ (F ++ D)) 33 or_else o)
    (group_same L v κ bound F (D ++ (variable κ n ∷ [])) ns (λ m q. h m (inr q)) ∙ ap (λ (E : Prefix). declare_fault L κ E ns) (sym (append_assoc F D (variable κ n ∷ [])))))
  where
    place_same : eqb (place_of D n) 0 ≡ eqb (place_of (F ++ D) n) 0
    place_same =
        declared_test D n ∙ ap not (sym (any_append (λ d. eqb n d.number) F D ∙ ap (λ (t : Bool). t || declares n D) (h n (inl refl)).1)) ∙ sym (declared_test (F ++ D) n)
