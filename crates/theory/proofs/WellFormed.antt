-- Well-formed formulas, stores and states: the tests, and what they say.
use Prim.Native.Nat.{ℕ, suc, ◌+◌, ◌≤◌, zero-le}
use native.Mathlib.Nat.{suc_inj}
use native.Mathlib.Omega.{arith}
use mathlib.Core.Path.{◌≡◌, refl, sym, ap, subst}
use mathlib.Core.Logic.{inl, inr}
use mathlib.Core.Bool.{Bool, true, false, cond, not, ◌&&◌, false≢true}
use mathlib.Core.List.{List, [], ◌∷◌}
use lib.ListN.{length}
use lib.Dec.{eqb, leb, ltb, ltb→lt, lt→ltb}
use borrow.Author.Tests.{le-leb, leb-true}
use Rattle.qbf.specs.Formula.{Clause, Formula, Limits, Literal, Prefix, Quantifier, all, exists, forall, free, highest, most_free, number_of, place, place_from, place_of, quantifier_at, quantifiers}
use Rattle.qbf.specs.Truth.{free_variables}
use Rattle.qbf.specs.Learning.{Constraint, Store, constraints, dropped, last_place}
use Rattle.qbf.specs.Card.{Mem}
use Rattle.qbf.specs.Calls.{State, clause_ok, clauses_are_ok, constraint_ok, formula_is_ok, free_first, free_is_ok, in_order, limits_are_ok, no_free, numbers_are_ok, prefix_is_ok, records_are_ok, store_is_ok, well_formed}
use Rattle.theory.proofs.Basics.{T→≡, ≡→T, and_left, and_right, and_both, all→, →all, eqb_true, not_true, true_eqb}
use Rattle.theory.proofs.Game.{Rising}
use Rattle.theory.proofs.Verdict.{NoFree}
use Rattle.theory.proofs.Stores.{Recorded, RecordedStore, ShapedStore, recorded_length}
use Rattle.theory.proofs.Shape.{Formed}
use Rattle.theory.proofs.Search.{FreeFirst}

pub rising→ : (D : Prefix) (d : ℕ) (ls : List Literal) → in_order D d ls ≡ true → Rising D d ls
rising→ D d [] e = tt
rising→ D d (l ∷ ls) e = (
  ltb→lt d (place D l) (≡→T (ltb d (place D l)) (and_left (ltb d (place D l)) (in_order D (place D l) ls) e)),
  rising→ D (place D l) ls (and_right (ltb d (place D l)) (in_order D (place D l) ls) e),
)

pub →rising : (D : Prefix) (d : ℕ) (ls : List Literal) → Rising D d ls → in_order D d ls ≡ true
→rising D d [] h = refl
→rising D d (l ∷ ls) h =
    and_both (ltb d (place D l)) (in_order D (place D l) ls) (T→≡ (ltb d (place D l)) (lt→ltb d (place D l) h.0)) (→rising D (place D l) ls h.1)

no_free_lem : (ks : List Quantifier) → no_free ks ≡ true → NoFree ks
no_free_lem [] e = tt
no_free_lem (free ∷ ks) e = absurd (false≢true e)
no_free_lem (exists ∷ ks) e = no_free_lem ks e
no_free_lem (forall ∷ ks) e = no_free_lem ks e

none_first : (ks : List Quantifier) → NoFree ks → FreeFirst ks
none_first [] h = tt
none_first (free ∷ ks) h = absurd h
none_first (exists ∷ ks) h = (h, none_first ks h)
none_first (forall ∷ ks) h = (h, none_first ks h)

pub free_first_lem : (ks : List Quantifier) → free_first ks ≡ true → FreeFirst ks
free_first_lem [] e = tt
free_first_lem (free ∷ ks) e = (tt, free_first_lem ks e)
free_first_lem (exists ∷ ks) e = (no_free_lem ks e, none_first ks (no_free_lem ks e))
free_first_lem (forall ∷ ks) e = (no_free_lem ks e, none_first ks (no_free_lem ks e))

-- ---- a place is at most the count of the declarations
place_from_lem : (p n : ℕ) (ds : Prefix) → place_from (suc p) n ds ≤ p + length (quantifiers ds)
place_from_lem p n [] = zero-le
place_from_lem p n (d ∷ ds) = by (eqb n d.number) (place_from_lem (suc p) n ds)
  where
    by : (x : Bool) → place_from (suc (suc p)) n ds ≤ suc p + length (quantifiers ds) → cond x (suc p) (place_from (suc (suc p)) n ds) ≤ p + suc (length (quantifiers ds))
    by true h = omega arith
    by false h = omega (arith, h)

pub inside : (D : Prefix) (l : Literal) → place D l ≤ length (quantifiers D)
unfolding place_of
inside D l = omega (arith, place_from_lem 0 (number_of l) D)

-- ---- formulas
pub record FormulaFacts (b : Formula) : Type 0 where
  pub limits_ok : limits_are_ok b.limits ≡ true
  pub free_ok : free_is_ok b.prefix ≡ true
  pub prefix_ok : prefix_is_ok b.limits b.prefix ≡ true
  pub clauses_ok : clauses_are_ok b.limits b.prefix b.clauses ≡ true

module _ (b : Formula) where
  abbrev lim : Bool
  lim = limits_are_ok b.limits

  abbrev fre : Bool
  fre = free_is_ok b.prefix

  abbrev dec : Bool
  dec = prefix_is_ok b.limits b.prefix

  abbrev rls : Bool
  rls = clauses_are_ok b.limits b.prefix b.clauses

  pub formula_facts : formula_is_ok b ≡ true → FormulaFacts b
  formula_facts e =
      let more = and_right lim (fre && (dec && rls)) e in
      let rest = and_right fre (dec && rls) more in
      record { limits_ok = and_left lim (fre && (dec && rls)) e; free_ok = and_left fre (dec && rls) more; prefix_ok = and_left dec rls rest; clauses_ok = and_right dec rls rest }

  pub facts_formula : FormulaFacts b → formula_is_ok b ≡ true
  facts_formula h = and_both lim (fre && (dec && rls)) h.limits_ok (and_both fre (dec && rls) h.free_ok (and_both dec rls h.prefix_ok h.clauses_ok))

  abbrev high : Bool
  high = leb b.limits.numbers highest.numbers && leb b.limits.clauses highest.clauses

  module _ (h : FormulaFacts b) where
    pub capacity : 1 ≤ b.limits.constraints
    capacity = leb-true 1 b.limits.constraints (and_left (leb 1 b.limits.constraints) high h.limits_ok)

    -- "capped at these"
    pub numbers_capped : b.limits.numbers ≤ highest.numbers
    numbers_capped = leb-true b.limits.numbers highest.numbers (and_left (leb b.limits.numbers highest.numbers) (leb b.limits.clauses highest.clauses) (and_right (leb 1 b.limits.constraints) high h.limits_ok))

    pub clauses_capped : b.limits.clauses ≤ highest.clauses
    clauses_capped = leb-true b.limits.clauses highest.clauses (and_right (leb b.limits.numbers highest.numbers) (leb b.limits.clauses highest.clauses) (and_right (leb 1 b.limits.constraints) high h.limits_ok))

    -- "flags stay at most 40"
    pub free_few : free_variables b.prefix ≤ most_free
    free_few = leb-true (free_variables b.prefix) most_free h.free_ok

    pub numbers_ok : numbers_are_ok b.limits [] b.prefix ≡ true
    numbers_ok = and_left (numbers_are_ok b.limits [] b.prefix) (free_first (quantifiers b.prefix)) h.prefix_ok

    pub free_before : FreeFirst (quantifiers b.prefix)
    free_before = free_first_lem (quantifiers b.prefix) (and_right (numbers_are_ok b.limits [] b.prefix) (free_first (quantifiers b.prefix)) h.prefix_ok)

    pub clause_count_lem : length b.clauses ≤ b.limits.clauses
    clause_count_lem =
        leb-true (length b.clauses) b.limits.clauses (and_left (leb (length b.clauses) b.limits.clauses) (all (clause_ok b.limits b.prefix) b.clauses) h.clauses_ok)

    pub each_clause : all (clause_ok b.limits b.prefix) b.clauses ≡ true
    each_clause = and_right (leb (length b.clauses) b.limits.clauses) (all (clause_ok b.limits b.prefix) b.clauses) h.clauses_ok

pub clauses_rising : (b : Formula) → FormulaFacts b → (r : Clause) → Mem r b.clauses → Rising b.prefix 0 r
clauses_rising b h r m =
    rising→ b.prefix 0 r (and_right (leb 1 (length r) && leb (length r) b.limits.literals) (in_order b.prefix 0 r) (all→ (clause_ok b.limits b.prefix) b.clauses (each_clause b h) r m))

-- ---- stores
module _ (D : Prefix) (v : Bool) (E : Constraint) where
  constraint_formed : constraint_ok D v E ≡ true → Formed D v E
  constraint_formed e =
      record {
        rising = rising→ D 0 E (and_left (in_order D 0 E) (not (dropped v (quantifier_at D (last_place D E)))) e);
        reduced = not_true (dropped v (quantifier_at D (last_place D E))) (and_right (in_order D 0 E) (not (dropped v (quantifier_at D (last_place D E)))) e);
      }

  formed_constraint : Formed D v E → constraint_ok D v E ≡ true
  formed_constraint g = and_both (in_order D 0 E) (not (dropped v (quantifier_at D (last_place D E)))) (→rising D 0 E g.rising) (ap not g.reduced)

module _ (L : Limits) (D : Prefix) (st : Store) where
  abbrev fits : Bool → Bool
  fits v = leb (length (constraints v st)) L.constraints

  abbrev each_ok : Bool → Bool
  each_ok v = all (constraint_ok D v) (constraints v st)

  -- the four tests, by polarity
  tests : store_is_ok L D st ≡ true → (v : Bool) → (fits v ≡ true) × (each_ok v ≡ true)
  tests e = by (four (fits false) (fits true) (each_ok false) (each_ok true) e)
    where
      four : (a b c d : Bool) → (a && b && c && d) ≡ true → (a ≡ true) × (b ≡ true) × (c ≡ true) × (d ≡ true)
      four true true true d h = (refl, refl, refl, h)
      four true true false d h = absurd (false≢true h)
      four true false c d h = absurd (false≢true h)
      four false b c d h = absurd (false≢true h)

      by : (fits false ≡ true) × (fits true ≡ true) × (each_ok false ≡ true) × (each_ok true ≡ true) → (v : Bool) → (fits v ≡ true) × (each_ok v ≡ true)
      by w true = (w.1, w.3)
      by w false = (w.0, w.2)

  pub store_shaped : store_is_ok L D st ≡ true → ShapedStore L D st
  store_shaped e =
      record {
        each = λ v E m. constraint_formed D v E (all→ (constraint_ok D v) (constraints v st) (tests e v).1 E m);
        bounded = λ v. leb-true (length (constraints v st)) L.constraints (tests e v).0;
      }

  pub shaped_store : ShapedStore L D st → store_is_ok L D st ≡ true
  shaped_store h =
      and_both (fits false && fits true && each_ok false) (each_ok true)
      (and_both (fits false && fits true) (each_ok false) (and_both (fits false) (fits true) (room false) (room true)) (each_formed false)) (each_formed true)
    where
      room : (v : Bool) → fits v ≡ true
      room v = le-leb (length (constraints v st)) L.constraints (h.bounded v)

      each_formed : (v : Bool) → each_ok v ≡ true
      each_formed v = →all (constraint_ok D v) (constraints v st) (λ E m. formed_constraint D v E (h.each v E m))

-- ---- records
-- each learned clause has a record, of at most n
abbrev pub Fits : ℕ → ℕ → Constraint → Type 0
Fits n k E = k ≤ n

abbrev pub FitStore : ℕ → Store → Type 0
FitStore n st = RecordedStore (Fits n) st

module _ (n : ℕ) where
  fits_lists : (ks : List ℕ) (es : List Constraint) → length ks ≡ length es → ((k : ℕ) → Mem k ks → k ≤ n) → Recorded (Fits n) ks es
  fits_lists [] [] e h = tt
  fits_lists [] (E ∷ es) e h = omega (arith, e)
  fits_lists (k ∷ ks) [] e h = omega (arith, e)
  fits_lists (k ∷ ks) (E ∷ es) e h = (h k (inl refl), fits_lists ks es (suc_inj e) (λ j m. h j (inr m)))

  lists_fit : (ks : List ℕ) (es : List Constraint) → Recorded (Fits n) ks es → (k : ℕ) → Mem k ks → k ≤ n
  lists_fit [] es h k m = absurd m
  lists_fit (j ∷ ks) [] h k m = absurd h
  lists_fit (j ∷ ks) (E ∷ es) h k (inl p) = subst (λ (i : ℕ). i ≤ n) (sym p) h.0
  lists_fit (j ∷ ks) (E ∷ es) h k (inr m) = lists_fit ks es h.1 k m

  pub records_fit : (st : Store) → records_are_ok n st ≡ true → FitStore n st
  records_fit st e =
      let same = eqb (length st.records) (length st.clauses) in
      let low = all (λ k. leb k n) st.records in
      fits_lists st.records st.clauses (eqb_true (length st.records) (length st.clauses) (and_left same low e))
      (λ k m. leb-true k n (all→ (λ k. leb k n) st.records (and_right same low e) k m))

  pub fit_records : (st : Store) → FitStore n st → records_are_ok n st ≡ true
  fit_records st h =
      and_both (eqb (length st.records) (length st.clauses)) (all (λ k. leb k n) st.records)
      (true_eqb (length st.records) (length st.clauses) (recorded_length (Fits n) st.records st.clauses h))
      (→all (λ k. leb k n) st.records (λ k m. le-leb k n (lists_fit st.records st.clauses h k m)))

-- ---- states
pub record StateFacts (x : State) : Type 0 where
  pub formula_ok : FormulaFacts x.formula
  pub store_ok : ShapedStore x.formula.limits x.formula.prefix x.store
  pub records_ok : FitStore (length x.formula.clauses) x.store

module _ (x : State) where
  abbrev book : Bool
  book = formula_is_ok x.formula

  abbrev kept : Bool
  kept = store_is_ok x.formula.limits x.formula.prefix x.store

  abbrev fit : Bool
  fit = records_are_ok (length x.formula.clauses) x.store

  pub state_facts : well_formed x ≡ true → StateFacts x
  state_facts e =
      record {
        formula_ok = formula_facts x.formula (and_left book (kept && fit) e);
        store_ok = store_shaped x.formula.limits x.formula.prefix x.store (and_left kept fit (and_right book (kept && fit) e));
        records_ok = records_fit (length x.formula.clauses) x.store (and_right kept fit (and_right book (kept && fit) e));
      }

  pub facts_state : StateFacts x → well_formed x ≡ true
  facts_state h =
      and_both book (kept && fit) (facts_formula x.formula h.formula_ok)
      (and_both kept fit (shaped_store x.formula.limits x.formula.prefix x.store h.store_ok) (fit_records (length x.formula.clauses) x.store h.records_ok))
