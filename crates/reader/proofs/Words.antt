-- Equal words.
use mathlib.Core.Path.{◌≡◌, refl, ap, ◌∙◌}
use mathlib.Core.Bool.{Bool, true, false, ◌&&◌, false≢true}
use mathlib.Core.List.{[], ◌∷◌}
use Prim.Native.Nat.{ℕ, suc}
use borrow.Author.Tests.{eqb-true}
use lib.Dec.{eqb}
use lib.ListN.{length}
use Rattle.std.specs.Cmp.Lexicographic.{pointwise}
use Rattle.layout.specs.Words.{Bytes, same}

-- what `==` says of two words
pub pointwise_same : (w v : Bytes) → pointwise eqb w v ≡ same w v
unfolding same
pointwise_same [] [] = refl
pointwise_same [] (b ∷ v) = refl
pointwise_same (a ∷ w) [] = refl
pointwise_same (a ∷ w) (b ∷ v) = ap (λ (t : Bool). eqb a b && t) (pointwise_same w v)

and_false : (x : Bool) → (x && false) ≡ false
and_false true = refl
and_false false = refl

pub same_ne : (w v : Bytes) → (length w ≡ length v → ⊥) → same w v ≡ false
unfolding same
same_ne [] [] h = absurd (h refl)
same_ne [] (b ∷ v) h = refl
same_ne (a ∷ w) [] h = refl
same_ne (a ∷ w) (b ∷ v) h = rw (same_ne w v (λ e. h (ap suc e))) (and_false (eqb a b))

pub same_true : (w v : Bytes) → same w v ≡ true → w ≡ v
unfolding same
same_true [] [] e = refl
same_true [] (b ∷ v) e = absurd (false≢true e)
same_true (a ∷ w) [] e = absurd (false≢true e)
same_true (a ∷ w) (b ∷ v) e = by (eqb a b) refl e (same_true w v)
  where
    by : (x : Bool) → eqb a b ≡ x → (x && same w v) ≡ true → (same w v ≡ true → w ≡ v) → a ∷ w ≡ b ∷ v
    by true q h ih = ap (λ (c : ℕ). c ∷ w) (eqb-true a b q) ∙ ap (λ (l : Bytes). b ∷ l) (ih h)
    by false q h ih = absurd (false≢true h)
