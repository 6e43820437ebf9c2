-- The codes of literals inside a search, and the tables by code. A code is twice the literal's place, and one more where it is positive.
use Rattle.std.specs.Prelude.{ℕ, ◌+◌, ◌*◌, ◌≤◌, ◌<◌, ◌≡◌, Bool, true, false, cond, List, [], ◌∷◌, map, length, get_or, set, eqb}
use Rattle.std.specs.Bool.{beq}
use Rattle.std.proofs.Math.Option.{Option, none, some}
use Rattle.qbf.specs.Formula.{highest, Prefix, Literal, Node, place, positive, all, quantifier_at, value_at}
use Rattle.tables.specs.Views.{quantifier_code, negated}

abbrev pub sign : Bool → ℕ
sign true = 1
sign false = 0

-- of the literal of a place, positive or not
abbrev pub code_at : ℕ → Bool → ℕ
code_at p b = p * 2 + sign b

abbrev pub code_of : Prefix → Literal → ℕ
code_of D l = code_at (place D l) (positive l)

abbrev pub codes : Prefix → List Literal → List ℕ
codes D e = map (code_of D) e

-- the last code, 0 where there is none
abbrev pub last_from : ℕ → List ℕ → ℕ
last_from d [] = d
last_from d (c ∷ cs) = last_from c cs

abbrev pub last_code : List ℕ → ℕ
last_code cs = last_from 0 cs

-- ---- statuses: what the literal of each code is at a node, 0 open, 1 false, 2 true
abbrev pub status_of : Bool → Option Bool → ℕ
status_of b none = 0
status_of b (some a) = cond (beq a b) 2 1

pub record Statuses (s : Node) (t : List ℕ) : Type 0 where
  pub at : (p : ℕ) (b : Bool) → get_or t (code_at p b) 0 ≡ status_of b (value_at s p)

-- the status of a literal that has the truth value v
abbrev pub wanted : Bool → ℕ
wanted true = 2
wanted false = 1

abbrev pub all_are : List ℕ → ℕ → List ℕ → Bool
all_are t w cs = all (λ c. eqb (get_or t c 0) w) cs

-- a place gets a value, 0 open, 1 off, 2 on: the status of its positive literal, and the opposite for the negative one
abbrev pub given : ℕ → ℕ → List ℕ → List ℕ
given p v t = set (set t (code_at p false) (negated v)) (code_at p true) v

-- ---- the quantifier of each code's variable; 3 at the place behind the last variable's
pub record Quantified (D : Prefix) (t : List ℕ) : Type 0 where
  pub at : (p : ℕ) (b : Bool) → p ≤ length D → get_or t (code_at p b) 0 ≡ quantifier_code (quantifier_at D p)
  pub end : (b : Bool) → length D < highest.numbers → get_or t (code_at (length D + 1) b) 0 ≡ 3
