-- Where a text that is skipped ends, among its bytes.
use Prim.Native.Nat.{ℕ, suc, ◌+◌, ◌≤◌}
use mathlib.Core.Path.{◌≡◌, sym, ap, subst, ◌∙◌}
use mathlib.Core.Bool.{Bool, true, false, cond}
use mathlib.Core.List.{[], ◌∷◌}
use native.Mathlib.Omega.{arith}
use lib.Dec.{eqb}
use lib.ListN.{length, take, length-take}
use Rattle.layout.specs.Words.{Bytes, newline}
use Rattle.layout.specs.Session.{end_line}
use Rattle.text_skip.specs.Skip.{next_seen, skip_from}
use Rattle.text_skip.specs.declared.Skipped.{Skipped}
use Rattle.text_skip.specs.declared.Skipped.TheVariants as skipped

abbrev end_in : Skipped → ℕ
end_in (skipped.Ended m) = m
end_in (skipped.Inside k) = 0

end_within : (s : Bytes) (i k : ℕ) → end_in (skip_from i k s) ≤ i + length s
unfolding skip_from
end_within [] i k = omega arith
end_within (b ∷ s) i k = by (eqb b newline) (eqb k (length end_line)) (end_within s (i + 1) 0) (end_within s (i + 1) (next_seen k b))
  where
    by : (x y : Bool) → end_in (skip_from (i + 1) 0 s) ≤ i + 1 + length s → end_in (skip_from (i + 1) (next_seen k b) s) ≤ i + 1 + length s
        → end_in (cond x (cond y (skipped.Ended (i + 1)) (skip_from (i + 1) 0 s)) (skip_from (i + 1) (next_seen k b) s)) ≤ i + suc (length s)
    by true true f g = omega arith
    by true false f g = omega (arith, f)
    by false y f g = omega (arith, g)

pub skip_within : (s : Bytes) (k m : ℕ) → skip_from 0 k s ≡ skipped.Ended m → m ≡ length (take m s)
skip_within s k m e = omega (arith, end_within s 0 k, ap end_in e, length-take m s)
