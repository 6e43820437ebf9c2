-- A number in decimal: its last digit after the digits of its tenth.
use Prim.Native.Nat.{ℕ, ◌+◌, ◌/◌, ◌%◌, ◌<◌, ◌≤◌}
use mathlib.Core.Path.{sym, subst, ◌∙◌}
use mathlib.Core.List.{[], ◌∷◌}
use Rattle.layout.specs.Words.{Bytes}
use Rattle.layout.specs.Output.{decimal}
use Rattle.layout_laws.proofs.Decimal.{decimal_one, decimal_more}
use Rattle.writer.specs.Wrote.{Wrote}
use Rattle.writer.specs.declared.Output.{Output}
use Rattle.writer.specs.Appended.{Appended}
use Rattle.writer.proofs.Appending.{wrote_then}

pub wrote_one : {d₀ d : Bytes} {at r : ℕ} (n : ℕ) → n < 10 → Wrote d₀ at ((48 + n) ∷ []) d r → Wrote d₀ at (decimal n) d r
wrote_one {d₀} {d} {at} {r} n h p = subst (λ (t : Bytes). Wrote d₀ at t d r) (sym (decimal_one n h)) p

pub wrote_digit : {d₀ d₁ d₂ : Bytes} {at r₁ r₂ : ℕ} (n : ℕ) → 10 ≤ n → Wrote d₀ at (decimal (n / 10)) d₁ r₁ → Wrote d₁ r₁ ((48 + n % 10) ∷ []) d₂ r₂ → Wrote d₀ at (decimal n) d₂ r₂
wrote_digit {d₀} {d₁} {d₂} {at} {r₁} {r₂} n h p q = subst (λ (t : Bytes). Wrote d₀ at t d₂ r₂) (sym (decimal_more n h)) (wrote_then p q)

-- ---- .. appended to an output
pub appended_one : {a b : Output} (n : ℕ) → n < 10 → Appended a ((48 + n) ∷ []) b → Appended a (decimal n) b
appended_one n h p = record { same = p.same; wrote = wrote_one n h p.wrote }

pub appended_digit : {a b c : Output} (n : ℕ) → 10 ≤ n → Appended a (decimal (n / 10)) b → Appended b ((48 + n % 10) ∷ []) c → Appended a (decimal n) c
appended_digit n h p q = record { same = q.same ∙ p.same; wrote = wrote_digit n h p.wrote q.wrote }
