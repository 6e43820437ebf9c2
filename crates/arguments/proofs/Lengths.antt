-- How long the line of a program's usage is.
use Prim.Native.Nat.{◌+◌}
use mathlib.Core.Path.{◌≡◌}
use native.Mathlib.Omega.{arith}
use lib.ListN.{length, length-append}
use Rattle.layout.specs.Words.{Bytes}
use Rattle.arguments.specs.Arguments.{usage_text}

pub usage_length : (name : Bytes) → length (usage_text name) ≡ length name + 24
unfolding usage_text
usage_length name = simp length-append (omega arith)
