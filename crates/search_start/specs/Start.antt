-- What decides the start node, as `leaf` of qbf has it, without its constraint.
use Rattle.std.specs.Prelude.{◌≡◌, Bool, true, false, ◌||◌, List, [], leb}
use Rattle.std.proofs.Math.Option.{Option, none, some}
use Rattle.qbf.specs.Formula.{Prefix, Clause, Node, any, all, dead, satisfied}
use Rattle.qbf.specs.Truth.{Outcome, decided}
use Rattle.qbf.specs.Learning.{Constraint, leaf}
use Rattle.search_start.specs.Match.{matching}
use Rattle.search_start.specs.declared.Start.{Start}
use Rattle.search_start.specs.declared.Start.TheVariants.{No, Yes, Open}

-- steps 1 and 2, and steps 3 and 4
abbrev pub is_no : Prefix → Node → List Clause → List Constraint → Bool
is_no D s R cs = any (dead D s) R || any (matching D false s) cs

abbrev pub is_yes : Prefix → Node → List Clause → List Constraint → Bool
is_yes D s R qs = all (satisfied D s) R || any (matching D true s) qs

-- the answer is the outcome's verdict
abbrev pub Starts : Start → Option (Outcome Constraint) → Type 0
Starts No o = (e : Constraint) × (o ≡ some (decided false e))
Starts Yes o = (e : Constraint) × (o ≡ some (decided true e))
Starts Open o = o ≡ none

abbrev pub Concludes : Prefix → Node → List Clause → List Constraint → List Constraint → Start → Type 0
Concludes D s R cs qs r = Starts r (leaf D R leb s (record { clauses = cs; records = []; cubes = qs }))
