-- The reading of the arguments of the call for the closest reading.
use Rattle.std.specs.Prelude.{ℕ, ◌+◌, ◌-◌, ◌≤◌, ◌≡◌, List, map, take, drop, Option, Some, None}
use Rattle.std.proofs.Math.Option.{none, some}
use Rattle.qbf.specs.Formula.{most_free, Prefix, Literal, Formula}
use Rattle.qbf.specs.Truth.{free_variables}
use Rattle.qbf.specs.Card.{byte_of}
use Rattle.qbf.specs.Calls.{closest_fault, start_node}

-- refused with 8, or the values of all flags, behind the first cell
abbrev pub FullAs : Prefix → List Literal → List Literal → Option ℕ → List ℕ → Type 0
FullAs D on off None given = (b : Formula) → b.prefix ≡ D → closest_fault b on off ≡ some 8
FullAs D on off (Some free) given =
    ((b : Formula) → b.prefix ≡ D → closest_fault b on off ≡ none)
    × (free ≡ free_variables D)
    × (free ≤ most_free)
    × (take (free + 1 - 1) (drop 1 given) ≡ map byte_of (start_node on D))
