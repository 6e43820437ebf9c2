-- How many rules an exactly-one form stands for.
use Prim.Native.Nat.{ℕ, zero, suc, ◌+◌, ◌*◌, ◌-◌}
use native.Mathlib.Nat.{mul_comm}
use native.Mathlib.Omega.{arith}
use mathlib.Core.Path.{◌≡◌, refl, ap, ◌∙◌}
use mathlib.Core.List.{List, [], ◌∷◌}
use lib.ListN.{length, length-append, length-map}
use Rattle.qbf.specs.Formula.{Literal, Prefix}
use Rattle.qbf.specs.Calls.{clause_of, one_rules}
use Rattle.qbf.specs.One.{pairs_with, pairs, one_forms, one_count}

pairs_with_lem : (l : Literal) (ms : List Literal) → length (pairs_with l ms) ≡ length ms
pairs_with_lem l [] = refl
pairs_with_lem l (m ∷ ms) = ap suc (pairs_with_lem l ms)

-- n + 1 literals have n pairs more than n
next_product : (n : ℕ) → suc n * (suc n - 1) ≡ n * (n - 1) + 2 * n
next_product zero = refl
next_product (suc n) =
    let a : suc n - 1 ≡ n = omega arith in
    let b : suc (suc n) - 1 ≡ suc n = omega arith in
    ap (λ (k : ℕ). suc (suc n) * k) b ∙ omega (arith, ap (λ (k : ℕ). suc n * k) a, mul_comm (suc n) n, mul_comm (suc n) (suc n))

twice : (ls : List Literal) → 2 * length (pairs ls) ≡ length ls * (length ls - 1)
twice [] = refl
twice (l ∷ ls) = omega (arith, length-append (pairs_with l ls) (pairs ls), pairs_with_lem l ls, twice ls, next_product (length ls))

pub forms_count : (ls : List Literal) → length (one_forms ls) ≡ one_count (length ls)
forms_count ls = omega (arith, twice ls)

pub rules_count : (D : Prefix) (ls : List Literal) → length (one_rules D ls) ≡ one_count (length ls)
rules_count D ls = length-map (one_forms ls) (clause_of D) ∙ forms_count ls
