-- Flags that stand as variables of exists: a clause is judged and added on them as on flags, since only the places count.
use Prim.Native.Nat.{ℕ, zero, suc}
use mathlib.Core.Path.{◌≡◌, refl, ap, ◌∙◌}
use mathlib.Core.Bool.{true, cond, false≢true, ◌||◌}
use mathlib.Core.List.{List, [], ◌∷◌, ◌++◌, map}
use mathlib.Core.Option.{Option, none}
use lib.Dec.{eqb, leb, ltb}
use lib.ListN.{length}
use Rattle.qbf.specs.Formula.{Limits, Quantifier, free, exists, forall, Prefix, quantifiers, any, Literal, number_of, Clause, Formula, place_from, place_of}
use Rattle.qbf.specs.Truth.{free_count, free_variables}
use Rattle.qbf.specs.Learning.{insert, union}
use Rattle.qbf.specs.Calls.{given, no_free, literal_fault, rule_fault, with_rule, ◌or_else◌}
use Rattle.layout.specs.Opening.{variable}
use Rattle.qdimacs_opening.specs.Stands.{freed, with_freed}

-- ---- places
place_from_freed : (k p n : ℕ) (D : Prefix) → place_from p n (freed k D) ≡ place_from p n D
place_from_freed zero p n D = refl
place_from_freed (suc k) p n [] = refl
place_from_freed (suc k) p n (d ∷ D) = ap (cond (eqb n d.number) p) (place_from_freed k (suc p) n D)

place_freed : (k : ℕ) (D : Prefix) (n : ℕ) → place_of (freed k D) n ≡ place_of D n
unfolding place_of
place_freed k D n = place_from_freed k 1 n D

-- ---- prefixes that give each number the same place
module _ (D E : Prefix) (h : (n : ℕ) → place_of D n ≡ place_of E n) where
  literal_same : (L : Limits) (seen : List ℕ) (ls : List Literal) → literal_fault L D seen ls ≡ literal_fault L E seen ls
  literal_same L seen [] = refl
  literal_same L seen (l ∷ ls) =
      ap (λ (p : ℕ). given (eqb (number_of l) 0 || ltb L.numbers (number_of l)) 3 or_else given (eqb p 0) 5 or_else given (any (eqb (number_of l)) seen) 6 or_else literal_fault L D (number_of l ∷ seen) ls) (h (number_of l))
      ∙ ap (λ (o : Option ℕ). given (eqb (number_of l) 0 || ltb L.numbers (number_of l)) 3 or_else given (eqb (place_of E (number_of l)) 0) 5 or_else given (any (eqb (number_of l)) seen) 6 or_else o) (literal_same L (number_of l ∷ seen) ls)

  insert_same : (l : Literal) (c : Clause) → insert D l c ≡ insert E l c
  insert_same l [] = refl
  insert_same l (m ∷ ms) =
      (λ i. cond (ltb (h (number_of l) i) (h (number_of m) i)) (l ∷ m ∷ ms) (cond (eqb (h (number_of l) i) (h (number_of m) i)) (m ∷ ms) (m ∷ insert_same l ms i)))

  union_same : (a b : Clause) → union D a b ≡ union E a b
  union_same [] b = refl
  union_same (l ∷ a) b = ap (union D a) (insert_same l b) ∙ union_same a (insert E l b)

-- ---- a clause
module _ (k : ℕ) (b : Formula) (ls : List Literal) where
  pub rule_freed : rule_fault (with_freed k b) ls ≡ rule_fault b ls
  rule_freed =
      ap (λ (o : Option ℕ). given (leb b.limits.clauses (length b.clauses)) 20 or_else given (eqb (length ls) 0 || ltb b.limits.literals (length ls)) 7 or_else o)
      (literal_same (freed k b.prefix) b.prefix (place_freed k b.prefix) b.limits [] ls)

  pub rule_added : with_rule none (with_freed k b) ls ≡ with_freed k (with_rule none b ls)
  rule_added =
      ap (λ (c : Clause). record { limits = b.limits; prefix = freed k b.prefix; clauses = b.clauses ++ (c ∷ []) })
      (union_same (freed k b.prefix) b.prefix (place_freed k b.prefix) ls [])

-- ---- flags before groups
pub freed_flags : (κ : Quantifier) (ns : List ℕ) (D : Prefix) → freed (length ns) (map (variable κ) ns ++ D) ≡ map (variable free) ns ++ D
freed_flags κ [] D = refl
freed_flags κ (n ∷ ns) D = ap (λ (E : Prefix). variable free n ∷ E) (freed_flags κ ns D)

none_counted : (ks : List Quantifier) → no_free ks ≡ true → free_count ks ≡ 0
none_counted [] h = refl
none_counted (free ∷ ks) h = absurd (false≢true h)
none_counted (exists ∷ ks) h = refl
none_counted (forall ∷ ks) h = refl

pub no_variable_free : (D : Prefix) → no_free (quantifiers D) ≡ true → free_variables D ≡ 0
no_variable_free D h = none_counted (quantifiers D) h

pub flags_counted : (ns : List ℕ) (D : Prefix) → no_free (quantifiers D) ≡ true → free_variables (map (variable free) ns ++ D) ≡ length ns
flags_counted [] D h = none_counted (quantifiers D) h
flags_counted (n ∷ ns) D h = ap suc (flags_counted ns D h)
