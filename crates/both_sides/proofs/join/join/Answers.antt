-- `join` meets its contract, by whether the on side's constraint ends at the place.
use native.Mathlib.Omega.{arith}
use mathlib.Core.Path.{◌≡◌, ap, subst, ◌∙◌}
use mathlib.Core.Bool.{Bool, true}
use Rattle.qbf.specs.Learning.{resolvent}
use Rattle.tables.specs.Codes.{codes}
use lib.ListN.{take, length-take}
use Prim.Native.Nat.{suc}
use Rattle.search_entry.specs.Entry.{entry_at}
use Rattle.search_entry.specs.declared.bounds.Bounds.{Bounds}
use Rattle.node.specs.Node.{bounds_of, is_of}
use Rattle.both_sides.proofs.Joins.{joined_lacking, joined_named}
use Rattle.both_sides.proofs.Steps.{side_same, side_at_lem}
use Rattle.both_sides.proofs.join.join.Goals as goal

pub returns-then-lacks : goal.returns-then-lacks
returns-then-lacks c = let on = c.args.on in
    let row : c.entry-row.result.now ≡ entry_at (bounds_of on) c.args.matrix.now.rows c.args.learned.now.cells.now c.args.area.now =
    c.entry-row.ensures.0 ∙ ap (λ (b : Bounds). entry_at b c.args.matrix.now.rows c.args.learned.now.cells.now c.args.area.now) c.bounds_of.ensures in (
      side_same on,
      omega arith,
      λ D e f es q he hf oe of le lf sh hs.
          joined_lacking D c.args.off.at (is_of true on.verdict) e f of lf (c.ends_next-ends.ensures.1 D f (row ∙ hf)) c.if-lacks.true es hf hs,
    )

pub returns : goal.returns
returns c = let on = c.args.on in
    let row : c.entry-row.result.now ≡ entry_at (bounds_of on) c.args.matrix.now.rows c.args.learned.now.cells.now c.args.area.now =
    c.entry-row.ensures.0 ∙ ap (λ (b : Bounds). entry_at b c.args.matrix.now.rows c.args.learned.now.cells.now c.args.area.now) c.bounds_of.ensures in (
      rw c.with_bounds.ensures (side_at_lem on c.store.result),
      c.store.ensures.0,
      λ D e f es q he hf oe of le lf sh hs.
          rw c.with_bounds.ensures
          (joined_named D c.args.off.at (is_of true on.verdict) e f of lf (c.ends_next-ends.ensures.1 D f (row ∙ hf)) c.if-lacks.false es
          c.resolve-len.new.area c.resolve-len.result c.resolve-len.ensures.0
          (subst (λ (v : Bool). take c.resolve-len.result c.resolve-len.new.area ≡ codes D (resolvent D (suc c.args.off.at) v e f)) c.is_of-cube.ensures (c.resolve-len.ensures.1 D e f q he (row ∙ hf) oe of le lf)) sh
          c.store.result c.args.matrix.now.rows c.store.new.learned.cells.now c.args.area.now hs (λ h k. c.store.ensures.1 (simp length-take (omega (arith, h))) k)),
    )
