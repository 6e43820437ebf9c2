-- `marked_codes` meets its contract: after i places the area holds the true literals of those that are marked.
use Prim.Native.Nat.{◌<◌}
use native.Mathlib.Omega.{arith}
use Rattle.inner.proofs.Gathering.{put_by, put_few, mark_of, marks_long, gathered_more}
use Rattle.inner.proofs.cube.marked_codes.Goals as goal

pub loop-i-preserved : goal.loop-i-preserved
loop-i-preserved c = let low : c.loop-i.i < c.args.at = omega (arith, c.loop-i-test.true, marks_long c.args.marks.now c.args.at (omega (arith, c.requires))) in
    gathered_more c.loop-i.invariant low (mark_of c.args.marks.now c.args.at c.loop-i.i low) c.true_at.ensures.1 (put_few c.loop-i.n _) (put_by c.loop-i.up c.loop-i.n c.true_at.result (omega (arith, c.loop-i.invariant.few, low)) _)
