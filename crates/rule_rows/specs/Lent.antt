-- What accepted rules leave in the tables of the clauses: each where it was.
use Rattle.std.specs.Prelude.{ℕ, ◌≡◌, List}
use Rattle.qbf.specs.Formula.{Literal}
use Rattle.rule_rows.specs.declared.standing.Clauses.{Clauses}
use Rattle.rule_rows.specs.Accepted.{Added}

pub record AddedTo (t : Clauses) (cs : List (List Literal)) (places : List ℕ) (t' : Clauses) : Type 0 where
  pub same_most : t'.most ≡ t.most
  pub same_cells : t'.cells.ghost_name ≡ t.cells.ghost_name
  pub same_sizes : t'.sizes.ghost_name ≡ t.sizes.ghost_name
  pub added : Added t.most t.cells.now t.sizes.now cs places t'.cells.now t'.sizes.now
