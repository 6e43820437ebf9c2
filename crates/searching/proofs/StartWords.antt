-- The words of the literals at a node, place by place.
use Prim.Native.Nat.{ℕ, zero, suc, ◌+◌, ◌≤◌, ◌<◌}
use native.Mathlib.Omega.{arith}
use mathlib.Core.Path.{◌≡◌, sym, ap, ◌∙◌, subst}
use mathlib.Core.Logic.{◌⊎◌, inl, inr}
use mathlib.Core.Bool.{Bool, beq}
use mathlib.Core.Option.{none, some}
use lib.Bits.{bit_and, bit_or}
use lib.ListN.{length}
use Rattle.qbf.specs.Formula.{Node, value_at}
use Rattle.theory.proofs.Basics.{le_or_lt, value_high}
use Rattle.tables.specs.Codes.{code_at}
use Rattle.shelf.specs.Masks.{bit}
use Rattle.shelf.proofs.Masking.{within_more, within_new}
use Rattle.inner.specs.Inner.{Worded}

-- the word has the bits of the literals of the first k places
pub record WordedTo (s : Node) (v : Bool) (k word : ℕ) : Type 0 where
  pub has : (p : ℕ) (b : Bool) → p ≤ k → value_at s p ≡ some b → bit_and (bit (code_at p (beq b v))) word ≡ bit (code_at p (beq b v))

none_some : {b : Bool} → none ≡ some b → ⊥
none_some {b} e = let z : ◌≡◌ {A = ℕ} 0 1 = cc in omega arith

pub to_none : (s : Node) (v : Bool) → WordedTo s v 0 0
to_none s v = record { has = by }
  where
    by : (p : ℕ) (b : Bool) → p ≤ 0 → value_at s p ≡ some b → bit_and (bit (code_at p (beq b v))) 0 ≡ bit (code_at p (beq b v))
    by zero b h e = absurd (none_some e)
    by (suc p) b h e = absurd (omega (arith, h))

pub to_more : {s : Node} {v : Bool} {k word : ℕ} → WordedTo s v k word → {x c : ℕ} → x ≡ bit c → ((b : Bool) → value_at s (k + 1) ≡ some b → c ≡ code_at (k + 1) (beq b v))
    → WordedTo s v (k + 1) (bit_or word x)
to_more {s} {v} {k} {word} w {x} {c} is code = record { has = λ p b h e. by p b h e (le_or_lt p k) }
  where
    by : (p : ℕ) (b : Bool) → p ≤ k + 1 → value_at s p ≡ some b → (p ≤ k) ⊎ (k < p) → bit_and (bit (code_at p (beq b v))) (bit_or word x) ≡ bit (code_at p (beq b v))
    by p b h e (inl l) = within_more word x (bit (code_at p (beq b v))) (w.has p b l e)
    by p b h e (inr l) =
        let last : p ≡ k + 1 = omega (arith, h, l) in
        let same : bit (code_at p (beq b v)) ≡ x = ap (λ (q : ℕ). bit (code_at q (beq b v))) last ∙ sym (is ∙ ap bit (code b (ap (value_at s) (sym last) ∙ e))) in
        subst (λ (y : ℕ). bit_and y (bit_or word x) ≡ y) (sym same) (within_new word x)

-- behind the last place there is none
pub to_all : {s : Node} {v : Bool} {k word : ℕ} → WordedTo s v k word → length s ≤ k → Worded s v word
to_all {s} {v} {k} {word} w long = record { has = λ p b e. by p b e (le_or_lt p (length s)) }
  where
    by : (p : ℕ) (b : Bool) → value_at s p ≡ some b → (p ≤ length s) ⊎ (length s < p) → bit_and (bit (code_at p (beq b v))) word ≡ bit (code_at p (beq b v))
    by p b e (inl l) = w.has p b (omega (arith, l, long)) e
    by p b e (inr l) = absurd (none_some (sym (value_high s p l) ∙ e))
