-- Declarations and rules of a well-formed formula have no fault when they are read again.
use Prim.Native.Nat.{ℕ, zero, suc, ◌<◌, ◌≤◌, zero-le, suc-le-suc}
use mathlib.Core.Path.{◌≡◌, refl, sym, ap, ◌∙◌, subst}
use mathlib.Core.Logic.{inl, inr}
use mathlib.Core.Bool.{Bool, true, false, ◌&&◌, false≢true}
use mathlib.Core.List.{List, [], ◌∷◌, ◌++◌, map, append_assoc, map-append, append-nil}
use mathlib.Core.Option.{none}
use native.Mathlib.Omega.{arith}
use borrow.Author.Tests.{eq-eqb, ne_eqb, le-ltb, leb-true, lt-leb}
use lib.ListN.{length, length-append}
use lib.Dec.{eqb, leb, ltb}
use Rattle.qbf.specs.Formula.{Limits, most_free, Quantifier, free, exists, forall, is_free, Prefix, quantifiers, Literal, number_of, Clause, Formula, any, place_of, place}
use Rattle.qbf.specs.Learning.{insert, union}
use Rattle.qbf.specs.Card.{Mem}
use Rattle.qbf.specs.Truth.{free_count, free_variables}
use Rattle.qbf.specs.Calls.{given, ◌or_else◌, no_free, free_first, free_is_ok, literal_fault, rule_fault, clause_of, clause_ok, in_order, numbers_are_ok}
use Rattle.theory.proofs.Basics.{and_left, and_right, or_false, →any_false}
use Rattle.theory.proofs.Widths.{prefix_width}
use Rattle.theory.proofs.Starting.{free_fit}
use Rattle.theory.proofs.Game.{Rising}
use Rattle.theory.proofs.WellFormed.{rising→}
use Rattle.theory.proofs.Prefixes.{numbers, Distinct, fine, number_at, place_undeclared, number_range}
use Rattle.layout.specs.Opening.{variable, crowded, declare_fault}

-- ---- declarations
apart : (xs : List ℕ) (y : ℕ) (ys : List ℕ) → Distinct (xs ++ (y ∷ ys)) → Mem y xs → ⊥
apart [] y ys d m = m
apart (x ∷ xs) y ys d (inl p) = d.0 y (later xs) p
  where
    later : (zs : List ℕ) → Mem y (zs ++ (y ∷ ys))
    later [] = inl refl
    later (z ∷ zs) = inr (later zs)
apart (x ∷ xs) y ys d (inr m) = apart xs y ys d.1 m

mem_middle : (xs : List ℕ) (y : ℕ) (ys : List ℕ) → Mem y (xs ++ (y ∷ ys))
mem_middle [] y ys = inl refl
mem_middle (x ∷ xs) y ys = inr (mem_middle xs y ys)

-- wherever a prefix has a variable there was room for it
abbrev pub Roomy : Quantifier → Prefix → Type 0
Roomy κ W = (D : Prefix) (n : ℕ) (E : Prefix) → D ++ (variable κ n ∷ E) ≡ W → crowded κ D ≡ false

-- the numbers of a well-formed prefix are declared without a fault
pub declare_none : (L : Limits) (κ : Quantifier) (D : Prefix) (ns : List ℕ) (E : Prefix) → numbers_are_ok L [] (D ++ (map (variable κ) ns ++ E)) ≡ true → Roomy κ (D ++ (map (variable κ) ns ++ E)) → declare_fault L κ D ns ≡ none
declare_none L κ D [] E h room = refl
declare_none L κ D (n ∷ ns) E h room =
    rw (or_false (eqb n 0) (ltb L.numbers n) (ne_eqb n 0 (λ e. omega (arith, e, r.0))) (le-ltb L.numbers n r.1), eq-eqb (place_of D n) 0 fresh)
    (ap (λ (c : Bool). given c 33 or_else declare_fault L κ (D ++ (variable κ n ∷ [])) ns) (room D n (map (variable κ) ns ++ E) refl)
    ∙ declare_none L κ (D ++ (variable κ n ∷ [])) ns E (rw (append_assoc D (variable κ n ∷ []) (map (variable κ) ns ++ E)) h)
    (λ D' m E' e. room D' m E' (e ∙ append_assoc D (variable κ n ∷ []) (map (variable κ) ns ++ E))))
  where
    rest : Prefix
    rest = map (variable κ) ns ++ E

    spread : numbers (D ++ (variable κ n ∷ rest)) ≡ numbers D ++ (n ∷ numbers rest)
    spread = map-append (λ d. d.number) D (variable κ n ∷ rest)

    r : (1 ≤ n) × (n ≤ L.numbers)
    r = (fine L [] (D ++ (variable κ n ∷ rest)) h).ranged n (subst (Mem n) (sym spread) (mem_middle (numbers D) n (numbers rest)))

    fresh : place_of D n ≡ 0
    fresh = place_undeclared D n (apart (numbers D) n (numbers rest) (subst Distinct spread (fine L [] (D ++ (variable κ n ∷ rest)) h).distinct))

-- ---- room for flags
none_after : (ks rest : List Quantifier) → no_free (ks ++ (free ∷ rest)) ≡ true → ⊥
none_after [] rest h = false≢true h
none_after (free ∷ ks) rest h = false≢true h
none_after (exists ∷ ks) rest h = none_after ks rest h
none_after (forall ∷ ks) rest h = none_after ks rest h

fewer_before : (ks : List Quantifier) (κ : Quantifier) (rest : List Quantifier) → is_free κ ≡ true → free_first (ks ++ (κ ∷ rest)) ≡ true → free_count ks < free_count (ks ++ (κ ∷ rest))
fewer_before [] free rest f h = suc-le-suc zero-le
fewer_before [] exists rest f h = absurd (false≢true f)
fewer_before [] forall rest f h = absurd (false≢true f)
fewer_before (free ∷ ks) κ rest f h = suc-le-suc (fewer_before ks κ rest f h)
fewer_before (exists ∷ ks) free rest f h = absurd (none_after ks rest h)
fewer_before (exists ∷ ks) exists rest f h = absurd (false≢true f)
fewer_before (exists ∷ ks) forall rest f h = absurd (false≢true f)
fewer_before (forall ∷ ks) free rest f h = absurd (none_after ks rest h)
fewer_before (forall ∷ ks) exists rest f h = absurd (false≢true f)
fewer_before (forall ∷ ks) forall rest f h = absurd (false≢true f)

-- in a well-formed prefix
pub formed_roomy : (κ : Quantifier) (W : Prefix) → free_first (quantifiers W) ≡ true → free_is_ok W ≡ true → Roomy κ W
formed_roomy κ W h few D n E e = by (is_free κ) refl
  where
    spread : quantifiers W ≡ quantifiers D ++ (κ ∷ quantifiers E)
    spread = ap quantifiers (sym e) ∙ map-append (λ d. d.quantifier) D (variable κ n ∷ E)

    by : (t : Bool) → is_free κ ≡ t → crowded κ D ≡ false
    by true f =
        ap (λ (b : Bool). b && leb most_free (free_variables D)) f
        ∙ lt-leb most_free (free_variables D)
        (omega (
          arith,
          fewer_before (quantifiers D) κ (quantifiers E) f (subst (λ (ks : List Quantifier). free_first ks ≡ true) spread h),
          ap free_count spread,
          leb-true (free_variables W) most_free few,
        ))
    by false f = ap (λ (b : Bool). b && leb most_free (free_variables D)) f

-- and under limits of no more numbers than there may be flags
pub few_roomy : (L : Limits) → L.numbers ≤ most_free → (κ : Quantifier) (W : Prefix) → numbers_are_ok L [] W ≡ true → Roomy κ W
few_roomy L low κ W h D n E e = by (is_free κ) refl
  where
    fit : length (quantifiers W) ≤ L.numbers
    fit = prefix_width L W h

    by : (t : Bool) → is_free κ ≡ t → crowded κ D ≡ false
    by true f =
        ap (λ (b : Bool). b && leb most_free (free_variables D)) f
        ∙ lt-leb most_free (free_variables D)
        (omega (
          arith,
          low,
          fit,
          free_fit (quantifiers D),
          length-append (quantifiers D) (κ ∷ quantifiers E),
          ap length (ap quantifiers (sym e) ∙ map-append (λ d. d.quantifier) D (variable κ n ∷ E)),
        ))
    by false f = ap (λ (b : Bool). b && leb most_free (free_variables D)) f

-- ---- rules
-- a declared number is in range
pub declared_range : (L : Limits) (D : Prefix) → numbers_are_ok L [] D ≡ true → (n : ℕ) → 0 < place_of D n → (1 ≤ n) × (n ≤ L.numbers)
declared_range L D ok n h = by (place_of D n) refl h
  where
    by : (p : ℕ) → place_of D n ≡ p → 0 < p → (1 ≤ n) × (n ≤ L.numbers)
    by zero e q = absurd (omega (arith, q))
    by (suc i) e q = let w = number_at D n i e in subst (λ (m : ℕ). (1 ≤ m) × (m ≤ L.numbers)) w.1 (number_range L D ok i w.0)

literals_none : (L : Limits) (D : Prefix) → numbers_are_ok L [] D ≡ true → (d : ℕ) (seen : List ℕ) (ls : List Literal) → ((n : ℕ) → Mem n seen → place_of D n ≤ d) → Rising D d ls
    → literal_fault L D seen ls ≡ none
literals_none L D ok d seen [] h up = refl
literals_none L D ok d seen (l ∷ ls) h up =
    rw (or_false (eqb n 0) (ltb L.numbers n) (ne_eqb n 0 (λ e. omega (arith, e, r.0))) (le-ltb L.numbers n r.1), ne_eqb (place_of D n) 0 (λ e. omega (arith, e, up.0)), new)
    (literals_none L D ok (place D l) (n ∷ seen) ls lower up.1)
  where
    n : ℕ
    n = number_of l

    r : (1 ≤ n) × (n ≤ L.numbers)
    r = declared_range L D ok n (omega (arith, up.0))

    new : any (eqb n) seen ≡ false
    new = →any_false (eqb n) seen (λ m q. ne_eqb n m (λ e. omega (arith, h m q, up.0, ap (place_of D) e)))

    lower : (m : ℕ) → Mem m (n ∷ seen) → place_of D m ≤ place_of D n
    lower m (inl p) = omega (arith, ap (place_of D) p)
    lower m (inr q) = omega (arith, h m q, up.0)

-- what is in place order is put in order as it stands
module _ (D : Prefix) where
  insert_last : (l : Literal) (E : List Literal) → ((k : Literal) → Mem k E → place D k < place D l) → insert D l E ≡ E ++ (l ∷ [])
  insert_last l [] h = refl
  insert_last l (k ∷ E) h =
      rw (le-ltb (place D l) (place D k) (omega (arith, h k (inl refl))), ne_eqb (place D l) (place D k) (λ e. omega (arith, e, h k (inl refl))))
      (ap (λ (F : List Literal). k ∷ F) (insert_last l E (λ x m. h x (inr m))))

  union_rising : (d : ℕ) (ls E : List Literal) → ((k : Literal) → Mem k E → place D k ≤ d) → Rising D d ls → union D ls E ≡ E ++ ls
  union_rising d [] E h up = sym (append-nil E)
  union_rising d (l ∷ ls) E h up =
      ap (union D ls) (insert_last l E (λ k m. omega (arith, h k m, up.0)))
      ∙ union_rising (place D l) ls (E ++ (l ∷ [])) (λ k m. low k E m h) up.1
      ∙ append_assoc E (l ∷ []) ls
    where
      low : (k : Literal) (F : List Literal) → Mem k (F ++ (l ∷ [])) → ((x : Literal) → Mem x F → place D x ≤ d) → place D k ≤ place D l
      low k [] (inl p) g = omega (arith, ap (place D) p)
      low k [] (inr z) g = absurd z
      low k (x ∷ F) (inl p) g = omega (arith, ap (place D) p, g x (inl refl), up.0)
      low k (x ∷ F) (inr m) g = low k F m (λ y q. g y (inr q))

pub clause_fixed : (D : Prefix) (r : Clause) → Rising D 0 r → clause_of D r ≡ r
clause_fixed D r up = union_rising D 0 r [] (λ k m. absurd m) up

-- a clause that is well formed has no fault where one more may stand
pub rule_none : (b : Formula) (r : Clause) → numbers_are_ok b.limits [] b.prefix ≡ true → clause_ok b.limits b.prefix r ≡ true → length b.clauses < b.limits.clauses
    → (rule_fault b r ≡ none) × (clause_of b.prefix r ≡ r)
rule_none b r ok c room = (none_found, clause_fixed D r up)
  where
    L : Limits
    L = b.limits

    D : Prefix
    D = b.prefix

    sized : (leb 1 (length r) && leb (length r) L.literals) ≡ true
    sized = and_left (leb 1 (length r) && leb (length r) L.literals) (in_order D 0 r) c

    up : Rising D 0 r
    up = rising→ D 0 r (and_right (leb 1 (length r) && leb (length r) L.literals) (in_order D 0 r) c)

    some_literal : 1 ≤ length r
    some_literal = leb-true 1 (length r) (and_left (leb 1 (length r)) (leb (length r) L.literals) sized)

    few : length r ≤ L.literals
    few = leb-true (length r) L.literals (and_right (leb 1 (length r)) (leb (length r) L.literals) sized)

    none_found : rule_fault b r ≡ none
    none_found =
        rw (lt-leb b.limits.clauses (length b.clauses) room, or_false (eqb (length r) 0) (ltb b.limits.literals (length r)) (ne_eqb (length r) 0 (λ e. omega (arith, e, some_literal))) (le-ltb L.literals (length r) few))
        (literals_none L D ok 0 [] r (λ n m. absurd m) up)
