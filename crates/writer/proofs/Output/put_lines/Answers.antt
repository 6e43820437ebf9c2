-- `put_lines` writes one row after the other.
use native.Mathlib.Omega.{arith}
use borrow.Author.Rules.{rules}
use Rattle.writer.proofs.Appending.{left_room, left_more, left_none, left_as}
use Rattle.writer.proofs.Listed.{rows_step, rows_end, rows_bytes}
use Rattle.writer.proofs.Output.put_lines.Goals as goal

pub put_line-requires : goal.put_line-requires
put_line-requires c = record {
  row_in_bounds = omega (arith, rows_bytes c.args.lines.free c.args.lines.count c.rows.counter (search rules));
  room = left_room _ _ (left_as (rows_step _ _ _ _ _ c.rows-test.true c.split_at.ensures.front c.split_at.ensures.back) c.rows.invariant.wrote) c.requires;
}

pub rows-preserved : goal.rows-preserved
rows-preserved c = record {
  rows = omega (arith, rows_bytes c.args.lines.free c.args.lines.count c.rows.counter (search rules));
  wrote = left_more (left_as (rows_step _ _ _ _ _ c.rows-test.true c.split_at.ensures.front c.split_at.ensures.back) c.rows.invariant.wrote) c.put_line.ensures;
}

pub returns : goal.returns
returns c = left_none (left_as (rows_end _ _ _ _ _ (search rules)) c.rows.invariant.wrote)
