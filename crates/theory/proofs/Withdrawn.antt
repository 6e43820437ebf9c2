-- A withdrawn rule: the formula without its last clause is well formed, and what the first clauses decide stays decided.
use Prim.Native.Nat.{ℕ, zero, suc, ◌-◌, ◌≤◌}
use native.Mathlib.Omega.{arith}
use mathlib.Core.Logic.{inl, inr}
use mathlib.Core.List.{List, [], ◌∷◌}
use mathlib.Core.Option.{Option, none, some}
use lib.ListN.{length, take}
use lib.Dec.{leb}
use borrow.Author.Tests.{le-leb}
use Rattle.qbf.specs.Formula.{Clause, Formula, all}
use Rattle.qbf.specs.Card.{Mem}
use Rattle.qbf.specs.Calls.{clause_ok, without_last}
use Rattle.theory.proofs.Basics.{and_both, all→, →all}
use Rattle.theory.proofs.WellFormed.{FormulaFacts, clause_count_lem, each_clause}

-- ---- the first elements of a list
pub mem_take : {A : Type 0} (n : ℕ) (xs : List A) (x : A) → Mem x (take n xs) → Mem x xs
mem_take zero xs x m = absurd m
mem_take (suc n) [] x m = absurd m
mem_take (suc n) (y ∷ xs) x (inl p) = inl p
mem_take (suc n) (y ∷ xs) x (inr m) = inr (mem_take n xs x m)

pub take_less : {A : Type 0} (n : ℕ) (xs : List A) → length (take n xs) ≤ length xs
take_less zero xs = omega arith
take_less (suc n) [] = omega arith
take_less (suc n) (x ∷ xs) = omega (arith, take_less n xs)

-- ---- the formula
pub withdraw_formula : (b : Formula) → FormulaFacts b → (o : Option ℕ) → FormulaFacts (without_last o b)
withdraw_formula b h (some n) = h
withdraw_formula b h none =
    record {
      limits_ok = h.limits_ok;
      free_ok = h.free_ok;
      prefix_ok = h.prefix_ok;
      clauses_ok =
          and_both (leb (length R') b.limits.clauses) (all (clause_ok b.limits b.prefix) R')
          (le-leb (length R') b.limits.clauses (omega (arith, clause_count_lem b h, take_less (length b.clauses - 1) b.clauses)))
          (→all (clause_ok b.limits b.prefix) R' (λ r m. all→ (clause_ok b.limits b.prefix) b.clauses (each_clause b h) r (mem_take (length b.clauses - 1) b.clauses r m)));
    }
  where
    R' : List Clause
    R' = take (length b.clauses - 1) b.clauses
