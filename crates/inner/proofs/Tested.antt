-- Whether the least number that passes lies below the bound tells whether some does.
use mathlib.Core.Path.{◌≡◌, sym, ◌∙◌}
use mathlib.Core.Logic.{⊎_elim}
use mathlib.Core.Bool.{Bool}
use Prim.Native.Nat.{ℕ}
use native.Mathlib.Omega.{arith}
use lib.Dec.{ltb}
use borrow.Author.Tests.{lt-ltb, le-ltb}
use Rattle.bitset.specs.Rows.{least_below, some_below}
use Rattle.bitset.proofs.Below.{least, lt_or_ge, some_at, some_none}

pub some_least : (f : ℕ → Bool) (n : ℕ) → ltb (least_below f n) n ≡ some_below f n
some_least f n =
    let l = least f n in
    ⊎_elim
    (λ h. lt-ltb (least_below f n) n h ∙ sym (some_at f n (least_below f n) h (l.at h)))
    (λ h. le-ltb (least_below f n) n h ∙ sym (some_none f n (λ i p. l.before i (omega (arith, p, h)))))
    (lt_or_ge (least_below f n) n)
