-- `add_clauses` meets its contract: after k turns the first k clauses are in their rows and in the sets.
use native.Mathlib.Omega.{arith}
use Prim.Native.Nat.{ℕ}
use mathlib.Core.List.{List}
use mathlib.Core.Path.{refl, subst, ◌∙◌}
use lib.IntN.{ℤ}
use Rattle.loading_clauses.specs.Coded.{Filled}
use Rattle.loading_clauses.proofs.Matrix.{filled_more, filled_none, matrix_shown}
use Rattle.loading_clauses.proofs.add_clauses.Goals as goal

pub loop-k-init : goal.loop-k-init
loop-k-init c = (c.requires.2, refl, refl, filled_none)

pub loop-k-preserved : goal.loop-k-preserved
loop-k-preserved c = (
  c.load_clause.ensures.1.room ∙ c.loop-k.invariant.0,
  c.load_clause.ensures.1.added.long ∙ c.loop-k.invariant.1,
  c.load_clause.ensures.0 ∙ c.loop-k.invariant.2,
  filled_more c.loop-k.invariant.3 c.requires.0 c.requires.1 (omega (arith, c.loop-k-test.true, c.count-count.ensures)) (omega (arith, c.loop-k-test.true, c.count-count.ensures, c.requires.3.number))
      (subst (λ (r : List ℤ). Filled r c.args.places.now c.args.matrix.now.quantifiers c.args.words c.loop-k.k c.loop-k.matrix.rows c.loop-k.matrix.sets c.load_clause.new.matrix.rows c.load_clause.new.matrix.sets) c.row.ensures
      (subst (λ (q : List ℕ). Filled c.row.result.now c.args.places.now q c.args.words c.loop-k.k c.loop-k.matrix.rows c.loop-k.matrix.sets c.load_clause.new.matrix.rows c.load_clause.new.matrix.sets)
      c.loop-k.invariant.2 c.load_clause.ensures.1)),
)

pub returns : goal.returns
returns c = (c.loop-k.invariant.2, matrix_shown c.loop-k.invariant.3 c.requires.0 c.requires.1 (omega (arith, c.loop-k-test.false, c.loop-k.auto.k-end, c.count-count.ensures)))
