-- Appending: nothing, a byte, one text after another, and a text part by part.
use Prim.Native.Nat.{ℕ, ◌+◌, ◌<◌}
use mathlib.Core.Path.{◌≡◌, refl, sym, ap, subst, ◌∙◌}
use mathlib.Core.List.{[], ◌∷◌, ◌++◌, append_assoc, append-nil}
use native.Mathlib.Omega.{arith}
use native.Mathlib.Numerals.{add-one}
use lib.ListN.{length, take, set, length-set, length-append}
use lib.Seq.{take-suc-set}
use Rattle.layout.specs.Words.{Bytes}
use Rattle.writer.specs.declared.Output.{Output}
use Rattle.writer.specs.Wrote.{Wrote}
use Rattle.writer.specs.Appended.{Appended, Room}

pub wrote_none : (d : Bytes) (at : ℕ) → Wrote d at [] d at
wrote_none d at = record { size = refl; next = omega arith; is = sym (append-nil (take at d)) }

pub wrote_byte : {d : Bytes} {at : ℕ} (b : ℕ) → at < length d → Wrote d at (b ∷ []) (set d at b) (at + 1)
wrote_byte {d} {at} b h = record { size = length-set d at b; next = omega arith; is = ap (λ (k : ℕ). take k (set d at b)) (add-one at) ∙ take-suc-set d at b h }

pub wrote_then : {d₀ x d₁ y d₂ : Bytes} {at r₁ r₂ : ℕ} → Wrote d₀ at x d₁ r₁ → Wrote d₁ r₁ y d₂ r₂ → Wrote d₀ at (x ++ y) d₂ r₂
wrote_then {d₀} {x} {d₁} {y} {d₂} {at} {r₁} {r₂} p q =
    record {
      size = q.size ∙ p.size;
      next = omega (arith, p.next, q.next, length-append x y);
      is = q.is ∙ ap (λ (l : Bytes). l ++ y) p.is ∙ append_assoc (take at d₀) x y;
    }

-- .. and two more texts at once
pub wrote_two : {d₀ x d₁ d₂ : Bytes} {at r₁ r₂ : ℕ} (y z : Bytes) → Wrote d₀ at x d₁ r₁ → Wrote d₁ r₁ (y ++ z) d₂ r₂ → Wrote d₀ at (x ++ y ++ z) d₂ r₂
wrote_two {d₀} {x} {d₁} {d₂} {at} {r₁} {r₂} y z p q = subst (λ (t : Bytes). Wrote d₀ at t d₂ r₂) (sym (append_assoc x y z)) (wrote_then p q)

-- ---- outputs
pub appended_none : (o : Output) → Appended o [] o
appended_none o = record { same = refl; wrote = wrote_none o.bytes.now o.at }

pub appended_then : {a b c : Output} {x y : Bytes} → Appended a x b → Appended b y c → Appended a (x ++ y) c
appended_then p q = record { same = q.same ∙ p.same; wrote = wrote_then p.wrote q.wrote }

-- .. and two more texts at once
pub appended_two : {a b c : Output} {x : Bytes} (y z : Bytes) → Appended a x b → Appended b (y ++ z) c → Appended a (x ++ y ++ z) c
appended_two {a} {b} {c} {x} y z p q = subst (λ (t : Bytes). Appended a t c) (sym (append_assoc x y z)) (appended_then p q)

-- what was appended to a table that was lent
pub wrote_lent : {d₀ d₁ d t : Bytes} {at r : ℕ} → Wrote d₀ at t d₁ r → d ≡ d₁ → Wrote d₀ at t d r
wrote_lent {d₀} {t = t} {at} {r} w e = subst (λ (d : Bytes). Wrote d₀ at t d r) (sym e) w

-- ---- of the text t behind o, the part `rest` is still to be written
pub record Left (o : Output) (t rest : Bytes) (n : Output) : Type 0 where
  pub done : Bytes
  pub is : t ≡ done ++ rest
  pub wrote : Appended o done n

pub left_all : (o : Output) (t : Bytes) → Left o t t o
left_all o t = record { done = []; is = refl; wrote = appended_none o }

pub left_room : {o n : Output} {t : Bytes} (x rest : Bytes) → Left o t (x ++ rest) n → Room o t → Room n x
left_room x rest p room = omega (arith, ap length p.is, length-append p.done (x ++ rest), length-append x rest)

pub left_more : {o n m : Output} {t x rest : Bytes} → Left o t (x ++ rest) n → Appended n x m → Left o t rest m
left_more {x} {rest} p w = record { done = p.done ++ x; is = p.is ∙ sym (append_assoc p.done x rest); wrote = appended_then p.wrote w }

pub left_none : {o n : Output} {t : Bytes} → Left o t [] n → Appended o t n
left_none {o} {n} p = subst (λ (s : Bytes). Appended o s n) (sym (p.is ∙ append-nil p.done)) p.wrote

pub left_as : {o n : Output} {t x y : Bytes} → x ≡ y → Left o t x n → Left o t y n
left_as {o} {n} {t} e p = subst (λ (s : Bytes). Left o t s n) e p
