-- `make` meets its contract: the tables that it is lent are of the programs' sizes.
use Prim.Native.Nat.{ℕ}
use native.Mathlib.Omega.{arith}
use mathlib.Core.Path.{◌≡◌, subst}
use lib.ListN.{length}
use Rattle.qbf.specs.Formula.{capped}
use Rattle.layout.specs.Program.{table_bytes}
use Rattle.editions.specs.Opening.{both, open_editions}
use Rattle.text_cards.specs.Making.{CardMade}
use Rattle.text_cards.proofs.Ample.{pages_ample}
use Rattle.pages.proofs.make.Goals as goal

pub returns : goal.returns
returns c =
    let size_is : length c.args.table.now ≡ table_bytes = omega arith in
    subst (λ (size : ℕ). CardMade size (open_editions both (capped c.args.limits.numbers c.args.limits.clauses) c.args.text.now) c.make_card.result c.make_card.new.table) size_is
    (pages_ample c.args.limits.numbers c.args.limits.clauses c.args.cells.now c.args.literals.now (omega arith) (omega arith) c.args.text.now (length c.args.table.now) c.make_card.result c.make_card.new.table c.make_card.ensures)
