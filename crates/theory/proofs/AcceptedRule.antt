-- An accepted rule: its literals have places, and the formula with its clause is well formed again.
use Prim.Native.Nat.{ℕ, suc, ◌+◌, ◌≤◌, ◌<◌, suc-le-suc, zero-le}
use native.Mathlib.Nat.{le_refl}
use native.Mathlib.Omega.{arith}
use mathlib.Core.Path.{◌≡◌, refl, sym, ap, ◌∙◌, subst}
use mathlib.Core.Logic.{◌⊎◌, inl, inr}
use mathlib.Core.Bool.{Bool, true, false, cond, not, ◌&&◌, ◌||◌, true≢false}
use mathlib.Core.List.{List, [], ◌∷◌, ◌++◌}
use mathlib.Core.Option.{Option, none, some}
use lib.ListN.{length, length-append}
use lib.Dec.{eqb, leb, ltb, nleb→lt, nltb→le}
use borrow.Author.Tests.{le-leb}
use Rattle.qbf.specs.Formula.{Clause, Formula, Limits, Literal, Prefix, all, any, number_of, place}
use Rattle.qbf.specs.Learning.{Constraint, insert, union}
use Rattle.qbf.specs.Card.{Mem}
use Rattle.qbf.specs.Calls.{◌or_else◌, clause_of, clause_ok, given, in_order, literal_fault, rule_fault, with_rule}
use Rattle.theory.proofs.Basics.{≡→T, false_eqb, and_both, or_false_right, all→, →all}
use Rattle.theory.proofs.Sets.{union_rising}
use Rattle.theory.proofs.Stores.{mem_append}
use Rattle.theory.proofs.WellFormed.{FormulaFacts, each_clause, →rising}

-- ---- a rule without a fault
pub some_none : {n : ℕ} → ◌≡◌ {A = Option ℕ} (some n) none → ⊥
some_none e = subst code e tt
  where
    code : Option ℕ → Type 0
    code none = ⊥
    code (some k) = Unit {0}

pub given_none : (x : Bool) (n : ℕ) (o : Option ℕ) → (given x n or_else o) ≡ none → (x ≡ false) × (o ≡ none)
given_none true n o e = absurd (some_none e)
given_none false n o e = (refl, e)

fault_free : (L : Limits) (D : Prefix) (seen : List ℕ) (ls : List Literal) → literal_fault L D seen ls ≡ none → (l : Literal) → Mem l ls → 0 < place D l
fault_free L D seen [] e l m = absurd m
fault_free L D seen (k ∷ ls) e l m = by m (λ q n. fault_free L D (number_of k ∷ seen) ls q l n)
  where
    three : (given (eqb (place D k) 0) 5 or_else given (any (eqb (number_of k)) seen) 6 or_else literal_fault L D (number_of k ∷ seen) ls) ≡ none
    three = (given_none (eqb (number_of k) 0 || ltb L.numbers (number_of k)) 3 (given (eqb (place D k) 0) 5 or_else given (any (eqb (number_of k)) seen) 6 or_else literal_fault L D (number_of k ∷ seen) ls) e).1

    five : (eqb (place D k) 0 ≡ false) × ((given (any (eqb (number_of k)) seen) 6 or_else literal_fault L D (number_of k ∷ seen) ls) ≡ none)
    five = given_none (eqb (place D k) 0) 5 (given (any (eqb (number_of k)) seen) 6 or_else literal_fault L D (number_of k ∷ seen) ls) three

    rest : literal_fault L D (number_of k ∷ seen) ls ≡ none
    rest = (given_none (any (eqb (number_of k)) seen) 6 (literal_fault L D (number_of k ∷ seen) ls) five.1).1

    by : Mem l (k ∷ ls) → (literal_fault L D (number_of k ∷ seen) ls ≡ none → Mem l ls → 0 < place D l) → 0 < place D l
    by (inl p) ih = subst (λ (x : Literal). 0 < place D x) (sym p) (positive (place D k) (false_eqb (place D k) 0 five.0))
      where
        positive : (n : ℕ) → (n ≡ 0 → ⊥) → 0 < n
        positive n h = omega (arith, h)
    by (inr n) ih = ih rest n

-- ---- lengths of what is put in order
module _ (D : Prefix) where
  insert_length : (l : Literal) (E : Constraint) → (length E ≤ length (insert D l E)) × (length (insert D l E) ≤ suc (length E))
  insert_length l [] = (zero-le, le_refl 1)
  insert_length l (k ∷ E) = by (ltb (place D l) (place D k)) (eqb (place D l) (place D k)) (insert_length l E)
    where
      by : (x y : Bool) → (length E ≤ length (insert D l E)) × (length (insert D l E) ≤ suc (length E))
          → (suc (length E) ≤ length (cond x (l ∷ k ∷ E) (cond y (k ∷ E) (k ∷ insert D l E)))) × (length (cond x (l ∷ k ∷ E) (cond y (k ∷ E) (k ∷ insert D l E))) ≤ suc (suc (length E)))
      by true y h = omega arith
      by false true h = omega arith
      by false false h = (suc-le-suc h.0, suc-le-suc h.1)

  unite_length : (a b : Constraint) → (length b ≤ length (union D a b)) × (length (union D a b) ≤ length a + length b)
  unite_length [] b = omega arith
  unite_length (k ∷ a) b = omega (arith, (unite_length a (insert D k b)).0, (unite_length a (insert D k b)).1, (insert_length k b).0, (insert_length k b).1)

  clause_length : (n : ℕ) (ls : List Literal) → (eqb (length ls) 0 || ltb n (length ls)) ≡ false → (1 ≤ length (clause_of D ls)) × (length (clause_of D ls) ≤ n)
  clause_length n [] e = absurd (true≢false e)
  clause_length n (k ∷ ls) e =
      let u = unite_length ls (k ∷ []) in
      (u.0, omega (arith, u.1, nltb→le n (length (k ∷ ls)) (≡→T (not (ltb n (length (k ∷ ls)))) (ap not (or_false_right (eqb (length (k ∷ ls)) 0) (ltb n (length (k ∷ ls))) e)))))

-- ---- the formula
pub rule_formula : (b : Formula) (ls : List Literal) → FormulaFacts b → (o : Option ℕ) → rule_fault b ls ≡ o → FormulaFacts (with_rule o b ls)
rule_formula b ls h (some n) e = h
rule_formula b ls h none e =
    record {
      limits_ok = h.limits_ok;
      free_ok = h.free_ok;
      prefix_ok = h.prefix_ok;
      clauses_ok =
          and_both (leb (length R') L.clauses) (all (clause_ok L D) R')
          (le-leb (length R') L.clauses
          (omega (arith, nleb→lt b.limits.clauses (length b.clauses) (≡→T (not (leb b.limits.clauses (length b.clauses))) (ap not twenty.0)), length-append b.clauses (clause_of D ls ∷ []))))
          (→all (clause_ok L D) R' (λ r m. each r (mem_append b.clauses (clause_of D ls ∷ []) r m)));
    }
  where
    L : Limits
    L = b.limits

    D : Prefix
    D = b.prefix

    R' : List Clause
    R' = b.clauses ++ (clause_of D ls ∷ [])

    bad : Bool
    bad = eqb (length ls) 0 || ltb b.limits.literals (length ls)

    twenty : (leb b.limits.clauses (length b.clauses) ≡ false) × ((given bad 7 or_else literal_fault L D [] ls) ≡ none)
    twenty = given_none (leb b.limits.clauses (length b.clauses)) 20 (given bad 7 or_else literal_fault L D [] ls) e

    seven : (bad ≡ false) × (literal_fault L D [] ls ≡ none)
    seven = given_none bad 7 (literal_fault L D [] ls) twenty.1

    new : clause_ok L D (clause_of D ls) ≡ true
    new =
        let u = clause_length D b.limits.literals ls seven.0 in
        and_both (leb 1 (length (clause_of D ls)) && leb (length (clause_of D ls)) b.limits.literals) (in_order D 0 (clause_of D ls))
        (and_both (leb 1 (length (clause_of D ls))) (leb (length (clause_of D ls)) b.limits.literals) (le-leb 1 (length (clause_of D ls)) u.0) (le-leb (length (clause_of D ls)) b.limits.literals u.1))
        (→rising D 0 (clause_of D ls) (union_rising D 0 ls [] (fault_free L D [] ls seven.1) tt))

    each : (r : Clause) → Mem r b.clauses ⊎ Mem r (clause_of D ls ∷ []) → clause_ok L D r ≡ true
    each r (inl m) = all→ (clause_ok L D) b.clauses (each_clause b h) r m
    each r (inr (inl p)) = ap (clause_ok L D) p ∙ new
    each r (inr (inr z)) = absurd z
