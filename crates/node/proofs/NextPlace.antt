-- The quantifier of the next place, by the tables: a code is that of one quantifier only, and a place that has one is of the prefix.
use Prim.Native.Nat.{ℕ, suc, ◌+◌, ◌≤◌, ◌<◌}
use native.Mathlib.Omega.{arith}
use mathlib.Core.Path.{◌≡◌, refl, ap, ◌∙◌}
use mathlib.Core.Logic.{◌⊎◌, inl, inr}
use mathlib.Core.Bool.{false}
use mathlib.Core.List.{List}
use lib.ListN.{length, get_or}
use Rattle.qbf.specs.Formula.{highest, Quantifier, free, exists, forall, Prefix, quantifier_at}
use Rattle.theory.proofs.Basics.{le_or_lt}
use Rattle.tables.specs.Views.{quantifier_code}
use Rattle.tables.specs.Codes.{code_at, Quantified}
use Rattle.node.specs.Node.{NextKind}

pub one_code : (a b : Quantifier) → quantifier_code a ≡ quantifier_code b → a ≡ b
one_code free free e = refl
one_code free exists e = absurd (omega (arith, e))
one_code free forall e = absurd (omega (arith, e))
one_code exists free e = absurd (omega (arith, e))
one_code exists exists e = refl
one_code exists forall e = absurd (omega (arith, e))
one_code forall free e = absurd (omega (arith, e))
one_code forall exists e = absurd (omega (arith, e))
one_code forall forall e = refl

pub code_small : (κ : Quantifier) → quantifier_code κ < 3
code_small free = omega arith
code_small exists = omega arith
code_small forall = omega arith

pub code_known : (κ : Quantifier) (k : ℕ) → k ≡ quantifier_code κ → (k ≡ 1 → ⊥) → (k ≡ 2 → ⊥) → (k ≡ 0 → ⊥) → ⊥
code_known free k e a b c = c e
code_known exists k e a b c = a e
code_known forall k e a b c = b e

-- a place is left where the table has a quantifier for it
pub more_places : (kd : List ℕ) (at k : ℕ) → NextKind kd at k → k < 3 → at < highest.numbers
more_places kd at k h low = by (le_or_lt highest.numbers at)
  where
    by : (highest.numbers ≤ at) ⊎ (at < highest.numbers) → at < highest.numbers
    by (inl le) = absurd (omega (arith, h.none le))
    by (inr lt) = lt

module _ (D : Prefix) (kd : List ℕ) (shown : Quantified D kd) (at k : ℕ) (next : NextKind kd at k) where
  -- it is one of the prefix
  pub next_inside : at ≤ length D → k < 3 → at < length D
  next_inside within low = by (le_or_lt (length D) at)
    where
      lt : at < highest.numbers
      lt = more_places kd at k next low

      by : (length D ≤ at) ⊎ (at < length D) → at < length D
      by (inl le) =
          absurd (omega (arith, low, next.more lt, ap (λ (n : ℕ). get_or kd (code_at n false) 0) (let e : suc at ≡ length D + 1 = omega (arith, le, within) in e), shown.end false (omega (arith, le, lt))))
      by (inr in_d) = in_d

  pub kind_here : at < length D → length D ≤ highest.numbers → k ≡ quantifier_code (quantifier_at D (suc at))
  kind_here in_d few = next.more (omega (arith, in_d, few)) ∙ shown.at (suc at) false (omega (arith, in_d))
