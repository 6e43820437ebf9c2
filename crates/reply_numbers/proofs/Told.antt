-- The answers of rule and forget are told apart by what they say, since no two refusals have one number.
use Prim.Native.Nat.{ℕ}
use mathlib.Core.Path.{◌≡◌, refl, sym, ap, ◌∙◌}
use mathlib.Core.List.{[]}
use Rattle.std.specs.Prelude.{Result, Ok, Err}
use Rattle.std.proofs.Math.Option.{none, some}
use Rattle.theory.proofs.AcceptedRule.{some_none}
use Rattle.refusal.specs.declared.Refusal.{Refusal}
use Rattle.refusal.specs.Refusal.{number_of}
use Rattle.refusal.proofs.Apart.{number_apart}
use Rattle.serving.specs.Serves.{Said, said, number}
use Rattle.rule_calls.specs.ServesAt.{change_said}

-- .. whatever tells a refusal, if no two refusals have one number
abbrev pub change_by : {R : Type 0} → (R → ℕ) → Result Unit R → Said
change_by num (Ok a) = said none 0 0 0 []
change_by num (Err r) = said (some (num r)) 0 0 0 []

pub change_apart_by : {R : Type 0} (num : R → ℕ) → ((q r : R) → num q ≡ num r → q ≡ r) → (c d : Result Unit R) → change_by num c ≡ change_by num d → c ≡ d
change_apart_by num apart (Ok a) (Ok b) e = refl
change_apart_by num apart (Ok a) (Err s) e = absurd (some_none (sym (ap (λ (x : Said). x.refusal) e)))
change_apart_by num apart (Err r) (Ok b) e = absurd (some_none (ap (λ (x : Said). x.refusal) e))
change_apart_by num apart (Err r) (Err s) e = ap Err (apart r s (ap (λ (x : Said). number x.refusal) e))

change_as : (c : Result Unit Refusal) → change_said c ≡ change_by number_of c
change_as (Ok a) = refl
change_as (Err r) = refl

pub change_apart : (c d : Result Unit Refusal) → change_said c ≡ change_said d → c ≡ d
change_apart c d e = change_apart_by number_of number_apart c d (sym (change_as c) ∙ e ∙ change_as d)
