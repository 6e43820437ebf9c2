-- `loading_clauses::add_clause` meets its contract: the rows of its codes, then that of the opposite of the last code left.
use borrow.Author.Rules.{rules}
use Prim.Native.Nat.{ℕ}
use native.Mathlib.Omega.{arith}
use mathlib.Core.Path.{subst}
use Rattle.tables.specs.Shelves.{code_count}
use Rattle.coding.proofs.Coded.{last_below}
use Rattle.loading_clauses.specs.Coded.{Opposite}
use Rattle.loading_clauses.proofs.Filling.{added, opposed}
use Rattle.loading_clauses.proofs.add_clause.Goals as goal

pub opposite-other-requires : goal.opposite-other-requires
opposite-other-requires c = omega (arith, last_below c.args.row.now c.args.left code_count (omega arith) c.requires.2 (λ i h. c.requires.1 i (omega (arith, h, c.requires.2))))

pub returns : goal.returns
returns c = added c.add_satisfying.ensures c.requires.0.number (subst (λ (x : ℕ). Opposite x c.opposite-other.result) (search rules) (opposed c.opposite-other.ensures.low c.opposite-other.ensures.there c.opposite-other.ensures.back)) c.insert.ensures
