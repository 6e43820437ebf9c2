-- Blocks: a block without a fault keeps a prefix well formed, and its first numbers decide its fault.
use Prim.Native.Nat.{ℕ, zero, suc, ◌+◌, ◌≤◌, ◌<◌}
use mathlib.Core.Path.{◌≡◌, refl, sym, ap, ◌∙◌, subst}
use mathlib.Core.Bool.{Bool, true, false, cond, not, ◌&&◌, ◌||◌, false≢true}
use mathlib.Core.List.{List, [], ◌∷◌, ◌++◌, map, append_assoc, append-nil}
use mathlib.Core.Option.{Option, none}
use native.Mathlib.Omega.{arith}
use borrow.Author.Tests.{eqb-true, eqb-false, ltb-false, le-leb, lt-leb}
use lib.ListN.{length, take, length-append, length-map}
use lib.Dec.{eqb, leb, ltb}
use Rattle.qbf.specs.Formula.{Limits, most_free, Quantifier, free, exists, forall, is_free, Variable, Prefix, quantifiers, any, all, place_from, place_of}
use Rattle.qbf.specs.Truth.{free_variables}
use Rattle.qbf.specs.Calls.{given, no_free, free_first, free_is_ok, numbers_are_ok, prefix_is_ok, ◌or_else◌}
use Rattle.theory.proofs.FreeCount.{free_more}
use Rattle.theory.proofs.Basics.{and_left, and_right, and_both, or_false_left, or_false_right, not_false}
use Rattle.theory.proofs.AcceptedRule.{given_none}
use Rattle.theory.proofs.Widths.{prefix_width}
use Rattle.theory.proofs.Starting.{free_fit}
use Rattle.layout.specs.Opening.{variable, crowded, declare_fault}

-- ---- one more declared number
-- a number that is not declared from place p on, and not among those before, may be declared
numbers_more : (L : Limits) (p : ℕ) (seen : List ℕ) (D : Prefix) (n : ℕ) (κ : Quantifier) → 1 ≤ n → n ≤ L.numbers → any (eqb n) seen ≡ false → place_from (suc p) n D ≡ 0
    → numbers_are_ok L seen D ≡ true → numbers_are_ok L seen (D ++ (variable κ n ∷ [])) ≡ true
numbers_more L p seen [] n κ a b c e h = rw (le-leb 1 n a, le-leb n L.numbers b, c)
numbers_more L p seen (x ∷ D) n κ a b c e h =
    by (eqb n x.number) refl e (λ s q. numbers_more L (suc p) (x.number ∷ seen) D n κ a b s q (and_right own (numbers_are_ok L (x.number ∷ seen) D) h))
  where
    own : Bool
    own = leb 1 x.number && leb x.number L.numbers && not (any (eqb x.number) seen)

    by : (t : Bool) → eqb n x.number ≡ t → cond t (suc p) (place_from (suc (suc p)) n D) ≡ 0
        → ((eqb n x.number || any (eqb n) seen) ≡ false → place_from (suc (suc p)) n D ≡ 0 → numbers_are_ok L (x.number ∷ seen) (D ++ (variable κ n ∷ [])) ≡ true)
        → (own && numbers_are_ok L (x.number ∷ seen) (D ++ (variable κ n ∷ []))) ≡ true
    by true q z ih = absurd (let y : suc p ≡ 0 = z in omega arith)
    by false q z ih = and_both own (numbers_are_ok L (x.number ∷ seen) (D ++ (variable κ n ∷ []))) (and_left own (numbers_are_ok L (x.number ∷ seen) D) h) (ih (rw q c) z)

pub quantifiers_append : (D : Prefix) (x : Variable) → quantifiers (D ++ (x ∷ [])) ≡ quantifiers D ++ (x.quantifier ∷ [])
quantifiers_append [] x = refl
quantifiers_append (y ∷ D) x = ap (λ (l : List Quantifier). y.quantifier ∷ l) (quantifiers_append D x)

none_more : (ks : List Quantifier) (κ : Quantifier) → is_free κ ≡ false → no_free ks ≡ true → no_free (ks ++ (κ ∷ [])) ≡ true
none_more [] κ f h = rw f
none_more (free ∷ ks) κ f h = absurd (false≢true h)
none_more (exists ∷ ks) κ f h = none_more ks κ f h
none_more (forall ∷ ks) κ f h = none_more ks κ f h

first_one : (κ : Quantifier) → free_first (κ ∷ []) ≡ true
first_one free = refl
first_one exists = refl
first_one forall = refl

first_more : (ks : List Quantifier) (κ : Quantifier) → is_free κ ≡ false → free_first ks ≡ true → free_first (ks ++ (κ ∷ [])) ≡ true
first_more [] κ f h = first_one κ
first_more (free ∷ ks) κ f h = first_more ks κ f h
first_more (exists ∷ ks) κ f h = none_more ks κ f h
first_more (forall ∷ ks) κ f h = none_more ks κ f h

all_free : (ks : List Quantifier) → all is_free ks ≡ true → (free_first (ks ++ (free ∷ [])) ≡ true) × (all is_free (ks ++ (free ∷ [])) ≡ true)
all_free [] h = (refl, refl)
all_free (free ∷ ks) h = all_free ks h
all_free (exists ∷ ks) h = absurd (false≢true h)
all_free (forall ∷ ks) h = absurd (false≢true h)

-- what stands before a block of a quantifier: before free variables, free ones
unfoldable pub Before : Quantifier → List Quantifier → Type 0
Before free ks = all is_free ks ≡ true
Before exists ks = Unit {0}
Before forall ks = Unit {0}

pub before_more : (κ : Quantifier) (ks : List Quantifier) → Before κ ks → free_first ks ≡ true → (free_first (ks ++ (κ ∷ [])) ≡ true) × Before κ (ks ++ (κ ∷ []))
unfolding Before
before_more free ks h f = all_free ks h
before_more exists ks h f = (first_more ks exists refl f, tt)
before_more forall ks h f = (first_more ks forall refl f, tt)

-- ---- blocks
-- what a number without a fault is
pub record Declarable (L : Limits) (D : Prefix) (n : ℕ) : Type 0 where
  pub low : 1 ≤ n
  pub high : n ≤ L.numbers
  pub fresh : place_of D n ≡ 0

pub in_range : (L : Limits) (D : Prefix) (n : ℕ) → (eqb n 0 || ltb L.numbers n) ≡ false → not (eqb (place_of D n) 0) ≡ false → Declarable L D n
in_range L D n p q = record { low = low; high = ltb-false L.numbers n (or_false_right (eqb n 0) (ltb L.numbers n) p); fresh = eqb-true (place_of D n) 0 (not_false (eqb (place_of D n) 0) q) }
  where
    low : 1 ≤ n
    low = let z : n ≡ 0 → ⊥ = eqb-false n 0 (or_false_left (eqb n 0) (ltb L.numbers n) p) in omega (arith, z)

pub declarable : (L : Limits) (κ : Quantifier) (D : Prefix) (n : ℕ) (ns : List ℕ) → declare_fault L κ D (n ∷ ns) ≡ none
    → Declarable L D n × (declare_fault L κ (D ++ (variable κ n ∷ [])) ns ≡ none)
declarable L κ D n ns e = (in_range L D n three.0 four.0, (given_none (crowded κ D) 33 rest four.1).1)
  where
    out : Bool
    out = eqb n 0 || ltb L.numbers n

    rest : Option ℕ
    rest = declare_fault L κ (D ++ (variable κ n ∷ [])) ns

    three : (out ≡ false) × ((given (not (eqb (place_of D n) 0)) 4 or_else given (crowded κ D) 33 or_else rest) ≡ none)
    three = given_none out 3 (given (not (eqb (place_of D n) 0)) 4 or_else given (crowded κ D) 33 or_else rest) e

    four : (not (eqb (place_of D n) 0) ≡ false) × ((given (crowded κ D) 33 or_else rest) ≡ none)
    four = given_none (not (eqb (place_of D n) 0)) 4 (given (crowded κ D) 33 or_else rest) three.1

-- .. and there was room for it
pub uncrowded : (L : Limits) (κ : Quantifier) (D : Prefix) (n : ℕ) (ns : List ℕ) → declare_fault L κ D (n ∷ ns) ≡ none → crowded κ D ≡ false
uncrowded L κ D n ns e = (given_none (crowded κ D) 33 rest four).0
  where
    out : Bool
    out = eqb n 0 || ltb L.numbers n

    rest : Option ℕ
    rest = declare_fault L κ (D ++ (variable κ n ∷ [])) ns

    four : (given (crowded κ D) 33 or_else rest) ≡ none
    four = (given_none (not (eqb (place_of D n) 0)) 4 (given (crowded κ D) 33 or_else rest) (given_none out 3 (given (not (eqb (place_of D n) 0)) 4 or_else given (crowded κ D) 33 or_else rest) e).1).1

pub prefix_more : (L : Limits) (κ : Quantifier) (D : Prefix) (n : ℕ) → prefix_is_ok L D ≡ true → Before κ (quantifiers D) → Declarable L D n
    → (prefix_is_ok L (D ++ (variable κ n ∷ [])) ≡ true) × Before κ (quantifiers (D ++ (variable κ n ∷ [])))
unfolding place_of
prefix_more L κ D n h g d = (
  and_both (numbers_are_ok L [] new) (free_first (quantifiers new))
      (numbers_more L 0 [] D n κ d.low d.high refl d.fresh (and_left (numbers_are_ok L [] D) (free_first (quantifiers D)) h))
      (ap free_first (quantifiers_append D (variable κ n)) ∙ k.0),
  subst (Before κ) (sym (quantifiers_append D (variable κ n))) k.1,
)
  where
    new : Prefix
    new = D ++ (variable κ n ∷ [])

    k : (free_first (quantifiers D ++ (κ ∷ [])) ≡ true) × Before κ (quantifiers D ++ (κ ∷ []))
    k = before_more κ (quantifiers D) g (and_right (numbers_are_ok L [] D) (free_first (quantifiers D)) h)

pub block_prefix : (L : Limits) (κ : Quantifier) (D : Prefix) (ns : List ℕ) → prefix_is_ok L D ≡ true → Before κ (quantifiers D) → declare_fault L κ D ns ≡ none
    → prefix_is_ok L (D ++ map (variable κ) ns) ≡ true
block_prefix L κ D [] h g e = rw append-nil h
block_prefix L κ D (n ∷ ns) h g e =
    let d = declarable L κ D n ns e in
    let m = prefix_more L κ D n h g d.0 in
    subst (λ (E : Prefix). prefix_is_ok L E ≡ true) (append_assoc D (variable κ n ∷ []) (map (variable κ) ns))
    (block_prefix L κ (D ++ (variable κ n ∷ [])) ns m.0 m.1 d.1)

-- ---- free variables
-- a block without a fault leaves no more free variables than there may be
pub block_free : (L : Limits) (κ : Quantifier) (D : Prefix) (ns : List ℕ) → free_is_ok D ≡ true → declare_fault L κ D ns ≡ none → free_is_ok (D ++ map (variable κ) ns) ≡ true
block_free L κ D [] h e = rw append-nil h
block_free L κ D (n ∷ ns) h e =
    subst (λ (E : Prefix). free_is_ok E ≡ true) (append_assoc D (variable κ n ∷ []) (map (variable κ) ns))
    (block_free L κ (D ++ (variable κ n ∷ [])) ns (free_more D (variable κ n) (uncrowded L κ D n ns e) h) (declarable L κ D n ns e).1)

-- ---- the first numbers decide
pub number_declared : (L : Limits) (κ : Quantifier) (D : Prefix) (n : ℕ) → numbers_are_ok L [] D ≡ true → Declarable L D n → numbers_are_ok L [] (D ++ (variable κ n ∷ [])) ≡ true
unfolding place_of
number_declared L κ D n h d = numbers_more L 0 [] D n κ d.low d.high refl d.fresh h

pub block_numbers : (L : Limits) (κ : Quantifier) (D : Prefix) (ns : List ℕ) → numbers_are_ok L [] D ≡ true → declare_fault L κ D ns ≡ none → numbers_are_ok L [] (D ++ map (variable κ) ns) ≡ true
block_numbers L κ D [] h e = rw append-nil h
block_numbers L κ D (n ∷ ns) h e =
    let d = declarable L κ D n ns e in
    subst (λ (E : Prefix). numbers_are_ok L [] E ≡ true) (append_assoc D (variable κ n ∷ []) (map (variable κ) ns)) (block_numbers L κ (D ++ (variable κ n ∷ [])) ns (number_declared L κ D n h d.0) d.1)

-- Under limits of no more numbers than there may be flags a number that may be declared finds room: 33 never comes.
pub none_crowded : (L : Limits) → L.numbers ≤ most_free → (κ : Quantifier) (D : Prefix) (n : ℕ) → numbers_are_ok L [] D ≡ true → Declarable L D n → crowded κ D ≡ false
none_crowded L h κ D n e d =
    ap (λ (b : Bool). is_free κ && b)
    (lt-leb most_free (free_variables D)
    (omega (
      arith,
      h,
      prefix_width L (D ++ (variable κ n ∷ [])) (number_declared L κ D n e d),
      ap length (quantifiers_append D (variable κ n)),
      length-append (quantifiers D) (κ ∷ []),
      free_fit (quantifiers D),
    )))
    ∙ never (is_free κ)
  where
    never : (b : Bool) → (b && false) ≡ false
    never true = refl
    never false = refl

-- a block without a fault has room
pub block_width : (L : Limits) (κ : Quantifier) (D : Prefix) (ns : List ℕ) → numbers_are_ok L [] D ≡ true → declare_fault L κ D ns ≡ none → length D + length ns ≤ L.numbers
block_width L κ D ns h e =
    omega (arith, prefix_width L (D ++ map (variable κ) ns) (block_numbers L κ D ns h e), length-map (D ++ map (variable κ) ns) (λ d. d.quantifier), length-append D (map (variable κ) ns), length-map ns (variable κ))

first_numbers : (L : Limits) (κ : Quantifier) (k : ℕ) (D : Prefix) (ns : List ℕ) → L.numbers < k + length D → numbers_are_ok L [] D ≡ true
    → declare_fault L κ D (take k ns) ≡ declare_fault L κ D ns
first_numbers L κ zero D ns long h = absurd (omega (arith, long, prefix_width L D h, length-map D (λ d. d.quantifier)))
first_numbers L κ (suc k) D [] long h = refl
first_numbers L κ (suc k) D (n ∷ ns) long h =
    by (eqb n 0 || ltb L.numbers n) refl (not (eqb (place_of D n) 0)) refl
    (λ d. first_numbers L κ k (D ++ (variable κ n ∷ [])) ns (omega (arith, long, length-append D (variable κ n ∷ []))) (number_declared L κ D n h d))
  where
    D' : Prefix
    D' = D ++ (variable κ n ∷ [])

    with_room : (z : Bool) (o o' : Option ℕ) → o ≡ o' → (given z 33 or_else o) ≡ (given z 33 or_else o')
    with_room true o o' e = refl
    with_room false o o' e = e

    by : (x : Bool) → (eqb n 0 || ltb L.numbers n) ≡ x → (y : Bool) → not (eqb (place_of D n) 0) ≡ y
        → (Declarable L D n → declare_fault L κ D' (take k ns) ≡ declare_fault L κ D' ns)
        → (given x 3 or_else given y 4 or_else given (crowded κ D) 33 or_else declare_fault L κ D' (take k ns)) ≡ (given x 3 or_else given y 4 or_else given (crowded κ D) 33 or_else declare_fault L κ D' ns)
    by true p y q ih = refl
    by false p true q ih = refl
    by false p false q ih = with_room (crowded κ D) (declare_fault L κ D' (take k ns)) (declare_fault L κ D' ns) (ih (in_range L D n p q))

-- Of a block's numbers the first ones decide, one more than there may be: among so many one is declared twice or out of range.
pub first_decide_of : (L : Limits) (κ : Quantifier) (k : ℕ) (D : Prefix) (ns : List ℕ) → L.numbers < k → numbers_are_ok L [] D ≡ true → declare_fault L κ D (take k ns) ≡ declare_fault L κ D ns
first_decide_of L κ k D ns long h = first_numbers L κ k D ns (omega (arith, long)) h

pub first_decide : (L : Limits) (κ : Quantifier) (D : Prefix) (ns : List ℕ) → numbers_are_ok L [] D ≡ true → declare_fault L κ D (take (suc L.numbers) ns) ≡ declare_fault L κ D ns
first_decide L κ D ns h = first_numbers L κ (suc L.numbers) D ns (omega arith) h
