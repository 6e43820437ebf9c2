-- `lookup` meets its contract: the bounds of the row that the shelf found by its last code.
use Prim.Native.Nat.{ℕ}
use mathlib.Core.Path.{refl, sym, ap, subst, ◌∙◌}
use mathlib.Core.Option.{some}
use Rattle.std.specs.Prelude as code
use Rattle.tables.specs.Shelves.{first_match}
use Rattle.shelf.specs.Standing.{Found, rows}
use Rattle.inner.proofs.Lookups.{noted_word, found_row, found_nothing, row_part}
use Rattle.inner.proofs.found.lookup.Goals as goal

pub returns-in-Some : goal.returns-in-Some
returns-in-Some c = λ D s n es cls area shown given worded inner same.
    let found =
    subst (λ (o : code.Option ℕ). Found c.args.shelf.now o (first_match c.last_in.result c.args.statuses.now c.wanted.result (rows c.args.shelf.now))) c.in-Some.is
    (c.find.ensures.found (noted_word shown worded c.wanted.ensures)) in
    let row = found_row c.args.cube c.last_in.ensures.1 c.wanted.ensures refl D s es shown given inner same (found ∙ ap some (sym c.row_in-row.ensures.0)) in
    (row.0, row.1, row_part c.args.shelf.now.cells.now c.in-Some.slot c.row_in-row.result.now c.row_in-row.ensures.0 ∙ row.2)

pub returns-in-None : goal.returns-in-None
returns-in-None c = λ D s n es cls area shown given worded inner same.
    found_nothing c.args.cube c.last_in.ensures.1 c.wanted.ensures refl D s es shown given inner same
    (subst (λ (o : code.Option ℕ). Found c.args.shelf.now o (first_match c.last_in.result c.args.statuses.now c.wanted.result (rows c.args.shelf.now))) c.in-None.is (c.find.ensures.found (noted_word shown worded c.wanted.ensures)))
