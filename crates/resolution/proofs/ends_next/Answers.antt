-- `ends_next` meets its contract: the last place is that of the last code.
use native.Mathlib.Omega.{arith}
use mathlib.Core.Path.{sym, ◌∙◌}
use Rattle.resolution.proofs.Coded.{next_test, ends_some, ends_place}
use Rattle.resolution.proofs.ends_next.Goals as goal

pub returns : goal.returns
returns c = let row = c.args.row.now in
    let next = next_test c.place_of.result c.args.at c.saturating_add.result (omega (arith, c.place_of.ensures, c.last_code.type_inv)) c.saturating_add.ensures in (
      λ h. ends_some row c.args.at c.last_code.ensures c.place_of.ensures (sym next ∙ h),
      λ D e h. next ∙ ends_place row c.args.at c.last_code.ensures c.place_of.ensures D e h,
    )
