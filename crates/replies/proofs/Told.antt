-- The answers of query and card by what they say, and told apart by it.
use Prim.Native.Nat.{ℕ}
use native.Mathlib.Omega.{arith}
use mathlib.Core.Path.{◌≡◌, refl, sym, ap, ◌∙◌}
use mathlib.Core.List.{List, []}
use Rattle.std.specs.Prelude.{Result, Ok, Err}
use Rattle.std.proofs.Math.Option.{none, some}
use Rattle.refusal.specs.declared.Refusal.{Refusal}
use Rattle.refusal.specs.Refusal.{number_of}
use Rattle.refusal.proofs.Apart.{number_apart}
use Rattle.theory.proofs.AcceptedRule.{some_none}
use Rattle.serving.specs.Serves.{Said, said, number}
use Rattle.replies.specs.declared.Ruling.{Ruling}
use Rattle.replies.specs.declared.Ruling.TheVariants as ruling
use Rattle.replies.specs.Replies.{ruling_number, ruling_said, card_said}

pub card_said_lem : (p : Result ℕ Refusal) (k : ℕ) (tb : List ℕ) → card_said p k tb ≡ said (card_said p 0 []).refusal 0 (card_said p 0 []).lines k tb
card_said_lem (Ok n) k tb = refl
card_said_lem (Err r) k tb = refl

-- ---- two answers that say the same are the same
number_of_ruling : (q r : Ruling) → ruling_number q ≡ ruling_number r → q ≡ r
number_of_ruling ruling.Swap ruling.Swap e = refl
number_of_ruling ruling.Swap ruling.Keep e = absurd (omega (arith, e))
number_of_ruling ruling.Swap ruling.Unsettled e = absurd (omega (arith, e))
number_of_ruling ruling.Keep ruling.Swap e = absurd (omega (arith, e))
number_of_ruling ruling.Keep ruling.Keep e = refl
number_of_ruling ruling.Keep ruling.Unsettled e = absurd (omega (arith, e))
number_of_ruling ruling.Unsettled ruling.Swap e = absurd (omega (arith, e))
number_of_ruling ruling.Unsettled ruling.Keep e = absurd (omega (arith, e))
number_of_ruling ruling.Unsettled ruling.Unsettled e = refl

-- .. whatever tells a refusal, if no two refusals have one number
abbrev pub ruling_by : {R : Type 0} → (R → ℕ) → Result Ruling R → ℕ → Said
ruling_by num (Ok r) k = said none (ruling_number r) 0 k []
ruling_by num (Err r) k = said (some (num r)) 0 0 k []

abbrev pub card_by : {R : Type 0} → (R → ℕ) → Result ℕ R → ℕ → List ℕ → Said
card_by num (Ok n) k tb = said none 0 n k tb
card_by num (Err r) k tb = said (some (num r)) 0 0 k tb

pub ruling_apart_by : {R : Type 0} (num : R → ℕ) → ((q r : R) → num q ≡ num r → q ≡ r) → (q r : Result Ruling R) (j k : ℕ) → ruling_by num q j ≡ ruling_by num r k → (q ≡ r) × (j ≡ k)
ruling_apart_by num apart (Ok q) (Ok r) j k e = (ap (λ (x : Ruling). Ok x) (number_of_ruling q r (ap (λ (a : Said). a.verdict) e)), ap (λ (a : Said). a.visits) e)
ruling_apart_by num apart (Ok q) (Err r) j k e = absurd (some_none (sym (ap (λ (a : Said). a.refusal) e)))
ruling_apart_by num apart (Err q) (Ok r) j k e = absurd (some_none (ap (λ (a : Said). a.refusal) e))
ruling_apart_by num apart (Err q) (Err r) j k e = (ap Err (apart q r (ap (λ (a : Said). number a.refusal) e)), ap (λ (a : Said). a.visits) e)

pub printed_apart_by : {R : Type 0} (num : R → ℕ) → ((q r : R) → num q ≡ num r → q ≡ r) → (p q : Result ℕ R) (j k : ℕ) (tb ub : List ℕ) → card_by num p j tb ≡ card_by num q k ub → (p ≡ q) × (j ≡ k) × (tb ≡ ub)
printed_apart_by num apart (Ok m) (Ok n) j k tb ub e = (ap (λ (a : Said). Ok a.lines) e, ap (λ (a : Said). a.visits) e, ap (λ (a : Said). a.table) e)
printed_apart_by num apart (Ok m) (Err r) j k tb ub e = absurd (some_none (sym (ap (λ (a : Said). a.refusal) e)))
printed_apart_by num apart (Err r) (Ok n) j k tb ub e = absurd (some_none (ap (λ (a : Said). a.refusal) e))
printed_apart_by num apart (Err q) (Err r) j k tb ub e = (ap Err (apart q r (ap (λ (a : Said). number a.refusal) e)), ap (λ (a : Said). a.visits) e, ap (λ (a : Said). a.table) e)

ruling_as : (q : Result Ruling Refusal) (k : ℕ) → ruling_said q k ≡ ruling_by number_of q k
ruling_as (Ok r) k = refl
ruling_as (Err r) k = refl

card_as : (p : Result ℕ Refusal) (k : ℕ) (tb : List ℕ) → card_said p k tb ≡ card_by number_of p k tb
card_as (Ok n) k tb = refl
card_as (Err r) k tb = refl

pub ruling_apart : (q r : Result Ruling Refusal) (j k : ℕ) → ruling_said q j ≡ ruling_said r k → (q ≡ r) × (j ≡ k)
ruling_apart q r j k e = ruling_apart_by number_of number_apart q r j k (sym (ruling_as q j) ∙ e ∙ ruling_as r k)

pub printed_apart : (p q : Result ℕ Refusal) (j k : ℕ) (tb ub : List ℕ) → card_said p j tb ≡ card_said q k ub → (p ≡ q) × (j ≡ k) × (tb ≡ ub)
printed_apart p q j k tb ub e = printed_apart_by number_of number_apart p q j k tb ub (sym (card_as p j tb) ∙ e ∙ card_as q k ub)
