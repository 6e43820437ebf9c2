-- A code's place and its sign: half of it, and what that leaves.
use Prim.Native.Nat.{ℕ, ◌+◌, ◌/◌, ◌%◌}
use native.Mathlib.Omega.{arith}
use native.Mathlib.Nat.{mul-add-div_right, mul-add-mod_self_right}
use mathlib.Core.Path.{◌≡◌, sym, ap, ◌∙◌}
use mathlib.Core.Bool.{Bool, true, false}
use Rattle.tables.specs.Codes.{sign, code_at}

-- half of a code is its place
pub half_code : (p : ℕ) (b : Bool) → code_at p b / 2 ≡ p
half_code p true = mul-add-div_right {m = 2} (omega arith) p 1 ∙ (let e : p + 0 ≡ p = omega arith in e)
half_code p false = mul-add-div_right {m = 2} (omega arith) p 0 ∙ (let e : p + 0 ≡ p = omega arith in e)

-- a code has one place
pub code_place : (p q : ℕ) (a b : Bool) → code_at p a ≡ code_at q b → p ≡ q
code_place p q a b e = sym (half_code p a) ∙ ap (λ (c : ℕ). c / 2) e ∙ half_code q b

-- a code is odd where its literal is positive
pub odd_code : (p : ℕ) (b : Bool) → code_at p b % 2 ≡ sign b
odd_code p true = mul-add-mod_self_right p 2 1
odd_code p false = mul-add-mod_self_right p 2 0
