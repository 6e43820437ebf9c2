-- When a formula and what is learned of it are well formed for a search, whose tables have room for the highest limits: a formula under any limits is.
use Rattle.std.specs.Prelude.{◌≡◌, true, List}
use Rattle.qbf.specs.Formula.{highest, Prefix, Clause}
use Rattle.qbf.specs.Learning.{Store}
use Rattle.qbf.specs.Calls.{prefix_is_ok, free_is_ok, clauses_are_ok, store_is_ok}

pub record Formed (D : Prefix) (R : List Clause) (st : Store) : Type 0 where
  pub prefix_ok : prefix_is_ok highest D ≡ true
  pub free_ok : free_is_ok D ≡ true
  pub clauses_ok : clauses_are_ok highest D R ≡ true
  pub store_ok : store_is_ok highest D st ≡ true
