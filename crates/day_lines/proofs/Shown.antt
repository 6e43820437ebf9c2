-- The cards answered last at the places of a day.
use Prim.Native.Nat.{ℕ, zero, suc, ◌<◌}
use native.Mathlib.Nat.{le_of_suc-le-suc, not-suc-le-zero}
use mathlib.Core.Path.{◌≡◌, refl, ap}
use mathlib.Core.List.{List, [], ◌∷◌}
use mathlib.Core.Option.{Option, none}
use lib.ListN.{length, get_or, set}
use Rattle.layout.specs.Words.{Bytes}
use Rattle.sessions.specs.Session.{Card}
use Rattle.answer_text.specs.declared.shown.Shown.{Shown}
use Rattle.answer_text.specs.Shown.{card_in}
use Rattle.day_lines.specs.Served.{shown_in}

pub shown_set : (ss : List Shown) (ts : List Bytes) (i : ℕ) (s : Shown) (t : Bytes) → shown_in (set ss i s) (set ts i t) ≡ set (shown_in ss ts) i (card_in s t)
shown_set [] ts i s t = refl
shown_set (r ∷ ss) [] zero s t = refl
shown_set (r ∷ ss) [] (suc i) s t = refl
shown_set (r ∷ ss) (u ∷ ts) zero s t = refl
shown_set (r ∷ ss) (u ∷ ts) (suc i) s t = ap (λ (l : List (Option Card)). card_in r u ∷ l) (shown_set ss ts i s t)

pub shown_get : (ss : List Shown) (ts : List Bytes) (i : ℕ) (d : Shown) (e : Bytes) → i < length ss → i < length ts → get_or (shown_in ss ts) i none ≡ card_in (get_or ss i d) (get_or ts i e)
shown_get [] ts i d e h k = absurd (not-suc-le-zero h)
shown_get (s ∷ ss) [] i d e h k = absurd (not-suc-le-zero k)
shown_get (s ∷ ss) (t ∷ ts) zero d e h k = refl
shown_get (s ∷ ss) (t ∷ ts) (suc i) d e h k = shown_get ss ts i d e (le_of_suc-le-suc h) (le_of_suc-le-suc k)
