-- `cover::push_line` meets its contract: by the laws of Stack.antt for a row that fits and for one that does not.
use borrow.Author.Rules.{rules}
use native.Mathlib.Omega.{arith}
use mathlib.Core.Path.{refl}
use Rattle.cover.proofs.Stack.{push_full, pushed}
use Rattle.cover.proofs.push_line.Goals as goal

pub returns-then-lines-table : goal.returns-then-lines-table
returns-then-lines-table c = record { table_len_unchanged = (search rules); covers = pushed c.args.lines.count c.args.lines.free c.args.table.now c.args.statuses.now c.args.k c.args.value c.requires.k_lt_free _ c.if-lines-table.true c.write_line.ensures }

pub returns-else-lines-table : goal.returns-else-lines-table
returns-else-lines-table c = record { table_len_unchanged = refl; covers = push_full c.args.lines.count c.args.lines.free c.args.table.now c.args.statuses.now c.args.k c.args.value c.requires.k_lt_free (omega arith) }
