-- The places of a day one after another.
use Prim.Native.Nat.{ℕ, zero, suc, ◌+◌, ◌≤◌, ◌<◌}
use mathlib.Core.Path.{◌≡◌, refl, sym, ap, ◌∙◌}
use mathlib.Core.List.{List, [], ◌∷◌, ◌++◌}
use native.Mathlib.Omega.{arith}
use native.Mathlib.Numerals.{add-one}
use lib.ListN.{length, get_or, drop}
use Rattle.day_text.specs.Output.{share_text, left_at, shares_from}

front : (us : List ℕ) (i : ℕ) → i < length us → drop i us ≡ get_or us i 0 ∷ drop (suc i) us
front [] i h = absurd (omega (arith, h))
front (u ∷ us) zero h = refl
front (u ∷ us) (suc i) h = front us i (omega (arith, h))

-- a place, with what is left there, and those behind it
pub places_step : (T : ℕ) (us : List ℕ) (i a : ℕ) → i < length us → a ≡ left_at T us i
    → shares_from T us i (drop i us) ≡ share_text (i + 1) (get_or us i 0) a ++ shares_from T us (i + 1) (drop (i + 1) us)
unfolding shares_from
places_step T us i a h e =
    ap (shares_from T us i) (front us i h)
    ∙ ap (λ (j : ℕ). share_text j (get_or us i 0) (left_at T us i) ++ shares_from T us j (drop j us)) (sym (add-one i))
    ∙ ap (λ (m : ℕ). share_text (i + 1) (get_or us i 0) m ++ shares_from T us (i + 1) (drop (i + 1) us)) (sym e)

pub places_end : (T : ℕ) (us : List ℕ) (i : ℕ) → length us ≤ i → shares_from T us i (drop i us) ≡ []
unfolding shares_from
places_end T us i h = ap (shares_from T us i) (none_left us i h)
  where
    none_left : (vs : List ℕ) (k : ℕ) → length vs ≤ k → drop k vs ≡ []
    none_left [] zero h = refl
    none_left [] (suc k) h = refl
    none_left (v ∷ vs) zero h = absurd (omega (arith, h))
    none_left (v ∷ vs) (suc k) h = none_left vs k (omega (arith, h))
