-- How long the texts of a day are.
use Prim.Native.Nat.{ℕ, ◌+◌}
use mathlib.Core.Path.{◌≡◌}
use native.Mathlib.Omega.{arith}
use lib.ListN.{length, length-append}
use Rattle.layout.specs.Output.{decimal}
use Rattle.day_text.specs.Output.{at_text, share_text}

pub at_length : (k : ℕ) → length (at_text k) ≡ length (decimal k) + 6
unfolding at_text
at_length k = simp length-append (omega arith)

pub share_length : (k u a : ℕ) → length (share_text k u a) ≡ length (decimal k) + length (decimal u) + length (decimal a) + 25
unfolding share_text
share_length k u a = simp length-append (omega arith)
