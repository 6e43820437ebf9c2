-- A text has a first piece.
use Prim.Native.Nat.{ℕ}
use mathlib.Core.Path.{◌≡◌, refl, ap}
use mathlib.Core.Bool.{Bool, true, false, cond}
use mathlib.Core.List.{List, [], ◌∷◌}
use lib.Dec.{eqb}
use Rattle.layout.specs.Words.{Bytes, on_first, split}

pub split_some : (c : ℕ) (s : Bytes) → (w : Bytes) × (ws : List Bytes) × (split c s ≡ w ∷ ws)
unfolding split
split_some c [] = ([], [], refl)
split_some c (b ∷ s) = by (eqb b c) (split_some c s)
  where
    by : (t : Bool) → (w : Bytes) × (ws : List Bytes) × (split c s ≡ w ∷ ws) → (w : Bytes) × (ws : List Bytes) × (cond t ([] ∷ split c s) (on_first b (split c s)) ≡ w ∷ ws)
    by true r = ([], split c s, refl)
    by false r = (b ∷ r.0, r.1, ap (on_first b) r.2)
