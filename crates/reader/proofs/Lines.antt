-- A line: its first word, the words after it, and its brackets.
use Prim.Native.Nat.{ℕ, ◌+◌, ◌<◌, ◌≤◌, ◌-◌}
use mathlib.Core.Path.{◌≡◌, refl, sym, ap, ◌∙◌}
use mathlib.Core.Bool.{Bool, true, false, cond}
use mathlib.Core.List.{List, [], ◌∷◌}
use mathlib.Core.Option.{Option, none, some}
use native.Mathlib.Omega.{arith}
use borrow.Author.Tests.{eq-eqb, ne_eqb}
use lib.Dec.{eqb}
use lib.ListN.{length, get_or, take, drop, length-drop}
use lib.Seq.{get_or-drop}
use Rattle.std.specs.Prelude.{Option as Answer, Some, None}
use Rattle.qbf.specs.Formula.{Literal}
use Rattle.layout.specs.Words.{Bytes, split, space, closed, inside}
use Rattle.layout.specs.Forms.{then, items, form_from, form_of}
use Rattle.std.specs.Borrow.{Bor}
use Rattle.reader.specs.Pieces.{pieces, Cut}

-- ---- the first word, and those after it
-- What a line's words make is what the first of them, a keyword w with or without signs, makes of the items after it.
abbrev pub made : {A W : Type 0} → (W → Bool) → (W → List Literal → Option A) → List Bytes → Answer W → Option A
made signs with ws None = none
made signs with ws (Some w) = then (items (signs w) ws) (with w)

module _ {A W : Type 0} (from : List Bytes → Option A) (word : Bytes → Answer W) (signs : W → Bool) (with : W → List Literal → Option A)
    (by_word_lem : (v : Bytes) (vs : List Bytes) → from (v ∷ vs) ≡ made signs with vs (word v)) where
  pub by_first : {s w : Bytes} {left : Answer (Bor Bytes)} → Cut space s w left → {o : Answer W} → o ≡ word w → from (split space s) ≡ made signs with (pieces space left) o
  by_first {s} {w} {left} p {o} is = ap from p.is ∙ by_word_lem w (pieces space left) ∙ ap (made signs with (pieces space left)) (sym is)

-- ---- brackets
module _ (l : Bytes) where
  pub inside_short : length l < 2 → inside l ≡ none
  unfolding inside closed
  inside_short h = by l h
    where
      by : (l : Bytes) → length l < 2 → cond (eqb (get_or l 0 0) 40) (cond (eqb (get_or (drop 1 l) (length (drop 1 l) - 1) 0) 41) (some (take (length (drop 1 l) - 1) (drop 1 l))) none) none ≡ none
      by [] h = refl
      by (b ∷ []) h = rest_of (eqb b 40)
        where
          rest_of : (t : Bool) → ◌≡◌ {A = Option Bytes} (cond t none none) none
          rest_of true = refl
          rest_of false = refl
      by (b ∷ c ∷ m) h = absurd (omega arith)

  pub inside_open : (get_or l 0 0 ≡ 40 → ⊥) → inside l ≡ none
  unfolding inside
  inside_open h = rw (ne_eqb (get_or l 0 0) 40 h)

  module _ (long : 2 ≤ length l) (opens : get_or l 0 0 ≡ 40) where
    size : length (drop 1 l) - 1 ≡ length l - 1 - 1
    size = simp length-drop

    last_byte : get_or (drop 1 l) (length (drop 1 l) - 1) 0 ≡ get_or l (length l - 1) 0
    last_byte = get_or-drop 1 l (length (drop 1 l) - 1) 0 ∙ ap (λ (k : ℕ). get_or l k 0) here
      where
        here : 1 + (length (drop 1 l) - 1) ≡ length l - 1
        here = omega (arith, length-drop 1 l)

    pub inside_last : get_or l (length l - 1) 0 ≡ 41 → inside l ≡ some (take (length l - 1 - 1) (drop 1 l))
    unfolding inside closed
    inside_last h = rw (eq-eqb (get_or l 0 0) 40 opens, last_byte, eq-eqb (get_or l (length l - 1) 0) 41 h, size)

    pub inside_other : (get_or l (length l - 1) 0 ≡ 41 → ⊥) → inside l ≡ none
    unfolding inside closed
    inside_other h = rw (eq-eqb (get_or l 0 0) 40 opens, last_byte, ne_eqb (get_or l (length l - 1) 0) 41 h)

  pub form_out : inside l ≡ none → form_of l ≡ none
  unfolding form_of
  form_out h = rw h

  pub form_in : {s : Bytes} → inside l ≡ some s → form_of l ≡ form_from (split space s)
  unfolding form_of
  form_in h = rw h
