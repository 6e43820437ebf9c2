-- `open_run::searched` meets its contract: the derived tables show what the formula's show.
use Prim.Native.Nat.{suc}
use Prim.Native.Nat.{ℕ}
use mathlib.Core.List.{List}
use mathlib.Core.Path.{subst}
use Rattle.open_run.specs.OpenRun.{Below}
use Rattle.qbf.specs.Formula.{highest}
use Rattle.open_run.proofs.Walking.{searched_found}
use Rattle.open_run.proofs.searched.Goals as goal

pub returns : goal.returns
returns c = (
  c.below.ensures.0,
  searched_found (suc highest.numbers) _ _ c.quantifiers_of.ensures c.load_clauses.ensures.1 c.cell_at.ensures c.by_place.ensures c.cell_at-2.ensures c.below.result
      (subst (λ (x : List ℕ). Below c.load_clauses.new.matrix.sets c.cell_at-2.result x c.by_place.new.recorded c.args.budget c.below.result) c.load_clauses.ensures.0 c.below.ensures.1),
)
