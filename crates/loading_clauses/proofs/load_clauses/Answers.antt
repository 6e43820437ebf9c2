-- `load_clauses` meets its contract: the rows of the codes that the places have lie within the sets, and are empty before the first clause.
use Prim.Native.Nat.{◌*◌, ◌+◌}
use native.Mathlib.Omega.{arith}
use mathlib.Core.Path.{ap, ◌∙◌}
use Rattle.bitset.proofs.Parts.{cleared_first}
use Rattle.tables.specs.Matrices.{words_of}
use Rattle.loading_clauses.proofs.Filling.{sets_cleared}
use Rattle.loading_clauses.proofs.Matrix.{codes_within, matrix_words}
use Rattle.loading_clauses.proofs.load_clauses.Goals as goal

pub returns : goal.returns
returns c =
    let used = (c.args.last + 1) * 2 * 2 * c.words_of-words.result in
    let cleared = cleared_first used c.args.matrix.now.sets c.clear.new.row (omega (arith, codes_within ((c.args.last + 1) * 2) c.count.result c.words_of-words.result c.words_of-words.ensures (omega (arith, c.count.ensures, c.requires.0.few)) (omega (arith, c.requires.2)))) c.clear.ensures in
    (c.add_clauses.ensures.0, λ D p q few. matrix_words (c.words_of-words.ensures ∙ ap words_of c.count.ensures) (c.add_clauses.ensures.1 D p q (omega (arith, few, c.requires.2)) (sets_cleared D cleared few)))
