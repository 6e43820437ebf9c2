-- Codes copied into the first cells of a table.
use Prim.Native.Nat.{ℕ, suc, ◌≤◌, ◌<◌}
use native.Mathlib.Omega.{arith}
use mathlib.Core.Path.{◌≡◌, sym, subst}
use mathlib.Core.Logic.{◌⊎◌, inl, inr}
use mathlib.Core.List.{List}
use lib.ListN.{length, get_or, set}
use lib.Seq.{get_or-set_same, get_or-set_other}
use Rattle.theory.proofs.Basics.{le_or_lt}

-- a code below k is written behind codes below k
pub low_more : (cells : List ℕ) (i x k : ℕ) → i < length cells → ((j : ℕ) → j < i → get_or cells j 0 < k) → x < k → (j : ℕ) → j < suc i → get_or (set cells i x) j 0 < k
low_more cells i x k h low small j m = by (le_or_lt i j)
  where
    by : (i ≤ j) ⊎ (j < i) → get_or (set cells i x) j 0 < k
    by (inl q) = let e : j ≡ i = omega arith in subst (λ (n : ℕ). get_or (set cells i x) n 0 < k) (sym e) (rw (get_or-set_same cells i x 0 h) small)
    by (inr q) = rw (get_or-set_other cells i j x 0 (λ e. omega (arith, e, q))) (low j q)
