-- Appending, where it fits and where it does not.
use Prim.Native.Nat.{ℕ, ◌-◌}
use mathlib.Core.Path.{◌≡◌, refl, sym, ap, subst, ◌∙◌}
use mathlib.Core.List.{[], ◌++◌, append_assoc, append-nil}
use native.Mathlib.Omega.{arith}
use lib.ListN.{length, take, drop, length-append, length-drop}
use lib.Seq.{take_all}
use Rattle.layout.specs.Words.{Bytes}
use Rattle.edition_tags.specs.Appended.{Appended}

pub appended_none : (d : Bytes) (n : ℕ) → Appended d n [] d n
appended_none d n = record { size = refl; next = omega arith; is = λ h. sym (append-nil (take n d)) }

pub appended_then : {d₀ x d₁ y d₂ : Bytes} {at r₁ r₂ : ℕ} → Appended d₀ at x d₁ r₁ → Appended d₁ r₁ y d₂ r₂ → Appended d₀ at (x ++ y) d₂ r₂
appended_then {d₀} {x} {d₁} {y} {d₂} {at} {r₁} {r₂} p q =
    record {
      size = q.size ∙ p.size;
      next = omega (arith, p.next, q.next, length-append x y);
      is = λ h. q.is (omega (arith, h, p.size)) ∙ ap (λ (l : Bytes). l ++ y) (p.is (omega (arith, h, q.next))) ∙ append_assoc (take at d₀) x y;
    }

pub appended_as : {d₀ d t u : Bytes} {at r : ℕ} → t ≡ u → Appended d₀ at t d r → Appended d₀ at u d r
appended_as {d₀} {d} {t} {u} {at} {r} e w = subst (λ (x : Bytes). Appended d₀ at x d r) e w

-- the bytes from a place on
pub rest_all : (l : Bytes) (from : ℕ) → take (length l - from) (drop from l) ≡ drop from l
rest_all l from = take_all (length l - from) (drop from l) (omega (arith, length-drop from l))
