-- `Clauses::append` meets its contract: the row is written behind those that stand.
use mathlib.Core.Path.{refl}
use Rattle.rule_rows.proofs.Appending.{appending}
use Rattle.rule_rows.proofs.standing.Clauses.append.Goals as goal

pub returns : goal.returns
returns c = (refl, refl, refl, appending c.args.self.now.most c.args.self.now.cells.now c.args.self.now.sizes.now c.args.self.now.table c.args.row.now _ c.requires.0 c.requires.1 c.write.ensures)
