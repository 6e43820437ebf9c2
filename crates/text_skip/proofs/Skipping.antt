-- The bytes of a text one after another.
use Prim.Native.Nat.{ℕ, zero, suc, ◌+◌, ◌≤◌, ◌<◌}
use mathlib.Core.Path.{◌≡◌, refl, sym, ap, ◌∙◌}
use mathlib.Core.Bool.{Bool, true, cond}
use mathlib.Core.List.{[], ◌∷◌}
use native.Mathlib.Omega.{arith}
use native.Mathlib.Numerals.{add-one}
use borrow.Author.Tests.{eq-eqb, ne_eqb}
use lib.Dec.{eqb}
use lib.ListN.{length, get_or, drop}
use Rattle.layout.specs.Words.{Bytes, newline}
use Rattle.layout.specs.Session.{end_line}
use Rattle.text_skip.specs.Skip.{next_seen, skip_from}
use Rattle.text_skip.specs.declared.Skipped.{Skipped}
use Rattle.text_skip.specs.declared.Skipped.TheVariants as skipped

front_suc : (s : Bytes) (i : ℕ) → i < length s → drop i s ≡ get_or s i 0 ∷ drop (suc i) s
front_suc [] i h = absurd (omega (arith, h))
front_suc (b ∷ s) zero h = refl
front_suc (b ∷ s) (suc i) h = front_suc s i (omega (arith, h))

front : (s : Bytes) (i : ℕ) → i < length s → drop i s ≡ get_or s i 0 ∷ drop (i + 1) s
front s i h = front_suc s i h ∙ ap (λ (n : ℕ). get_or s i 0 ∷ drop n s) (sym (add-one i))

none_left : (s : Bytes) (i : ℕ) → length s ≤ i → drop i s ≡ []
none_left [] zero h = refl
none_left [] (suc i) h = refl
none_left (b ∷ s) zero h = absurd (omega (arith, h))
none_left (b ∷ s) (suc i) h = none_left s i (omega (arith, h))

module _ (s : Bytes) (i k : ℕ) where
  abbrev stepped : Bool → Bool → Skipped
  stepped t u = cond t (cond u (skipped.Ended (i + 1)) (skip_from (i + 1) 0 (drop (i + 1) s))) (skip_from (i + 1) (next_seen k (get_or s i 0)) (drop (i + 1) s))

  step_is : i < length s → skip_from i k (drop i s) ≡ stepped (eqb (get_or s i 0) newline) (eqb k (length end_line))
  unfolding skip_from
  step_is h = ap (skip_from i k) (front s i h)

  -- a byte of the line
  pub skip_byte : (h : ℕ) → i < length s → (get_or s i 0 ≡ newline → ⊥) → h ≡ next_seen k (get_or s i 0) → skip_from i k (drop i s) ≡ skip_from (i + 1) h (drop (i + 1) s)
  skip_byte h lt e is =
      step_is lt ∙ ap (λ (t : Bool). stepped t (eqb k (length end_line))) (ne_eqb (get_or s i 0) newline e)
      ∙ ap (λ (n : ℕ). skip_from (i + 1) n (drop (i + 1) s)) (sym is)

  -- the end of the line `(end)`
  pub skip_end : i < length s → get_or s i 0 ≡ newline → k ≡ length end_line → skip_from i k (drop i s) ≡ skipped.Ended (i + 1)
  skip_end lt e u =
      step_is lt ∙ ap (λ (t : Bool). stepped t (eqb k (length end_line))) (eq-eqb (get_or s i 0) newline e) ∙ ap (stepped true) (eq-eqb k (length end_line) u)

  -- the end of another one
  pub skip_line : (h : ℕ) → i < length s → get_or s i 0 ≡ newline → (k ≡ length end_line → ⊥) → h ≡ 0 → skip_from i k (drop i s) ≡ skip_from (i + 1) h (drop (i + 1) s)
  skip_line h lt e u is =
      step_is lt ∙ ap (λ (t : Bool). stepped t (eqb k (length end_line))) (eq-eqb (get_or s i 0) newline e) ∙ ap (stepped true) (ne_eqb k (length end_line) u)
      ∙ ap (λ (n : ℕ). skip_from (i + 1) n (drop (i + 1) s)) (sym is)

  -- no byte is left
  pub skip_over : length s ≤ i → skip_from i k (drop i s) ≡ skipped.Inside k
  unfolding skip_from
  skip_over h = ap (skip_from i k) (none_left s i h)
