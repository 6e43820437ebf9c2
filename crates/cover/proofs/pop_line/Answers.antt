-- `cover::pop_line` meets its contract: by the laws of Stack.antt for a row that is held and for one that is not.
use borrow.Author.Rules.{rules}
use mathlib.Core.Path.{refl}
use lib.ListN.{length}
use Rattle.cover.proofs.Count.{last_fits}
use Rattle.cover.proofs.Stack.{popped, pop_full}
use Rattle.cover.proofs.pop_line.Goals as goal

pub returns-then-fits : goal.returns-then-fits
returns-then-fits c = let room = last_fits c.fits.result c.args.lines.free (length c.args.table.now) c.args.lines.count c.if-fits.true c.fits.ensures c.requires in
    record { table_len_unchanged = (search rules); covers = popped c.args.lines.count c.args.lines.free c.args.table.now _ room c.clear.ensures }

pub returns-else-fits : goal.returns-else-fits
returns-else-fits c = record { table_len_unchanged = refl; covers = pop_full c.args.lines.count c.args.lines.free c.args.table.now c.fits.result c.if-fits.false c.fits.ensures }
