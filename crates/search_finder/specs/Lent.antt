-- Tables that anybody lends: whether the clauses that stand lie within theirs.
use Rattle.std.specs.Prelude.{Bool, true, false, List, ℕ, ℤ}
use Rattle.qbf.specs.Formula.{paper}
use Rattle.tables.specs.Views.{Standing}

abbrev pub Tells : Bool → List ℤ → List ℕ → Type 0
Tells true clauses sizes = Standing paper.literals clauses sizes
Tells false clauses sizes = Standing paper.literals clauses sizes → ⊥
