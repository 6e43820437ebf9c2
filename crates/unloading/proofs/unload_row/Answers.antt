-- `unloading::unload_row` meets its contract: the row in the slot is the one that stands at index k.
use Prim.Native.Nat.{ℕ, ◌+◌, ◌-◌, ◌*◌, ◌%◌, ◌≤◌}
use native.Mathlib.Omega.{arith}
use mathlib.Core.Path.{sym, ap, subst, ◌∙◌}
use mathlib.Core.List.{List}
use lib.ListN.{length}
use Rattle.qbf.specs.Formula.{paper, highest}
use Rattle.tables.specs.Shelves.{row_at}
use Rattle.tables.proofs.Laws.{before}
use Rattle.unloading.proofs.unload_row.Goals as goal

pub decode-requires : goal.decode-requires
decode-requires c = let narrow : length c.row_in-row.result.now ≤ c.args.table.now.width = subst (λ (xs : List ℕ). length xs ≤ c.args.table.now.width)
    (sym (c.row_in-row.ensures.0 ∙ ap (row_at highest.numbers c.args.shelf.now.cells.now) (c.slot_at.ensures.0 ∙ ap (λ (n : ℕ). (n - paper.constraints + c.args.k) % paper.constraints) c.newest.ensures)))
    c.requires.1 in
    let within : c.args.k * c.args.table.now.width + c.args.table.now.width ≤ paper.constraints * c.args.table.now.width = before c.args.table.now.width c.args.k paper.constraints (omega (arith, c.requires.0)) in
    omega (arith, within, narrow, c.args.table.now.room)
