-- `loading_clauses::code_row` meets its contract: the codes are put back into the part that was lent, and the length stands before them.
use Prim.Native.Nat.{◌+◌, ◌-◌}
use native.Mathlib.Omega.{arith}
use mathlib.Core.Path.{◌≡◌}
use lib.ListN.{length}
use Rattle.loading_clauses.proofs.Coding.{row_written}
use Rattle.loading_clauses.proofs.code_row.Goals as goal

pub returns : goal.returns
returns c =
    let lits = c.args.lits.now in
    let m = c.args.at + 1 + length lits - (c.args.at + 1) in
    let long : length lits ≡ m = omega arith in
    row_written lits c.args.places.now c.args.quantifiers.now c.args.rows.now c.encode.new.cells c.args.at c.reduced_len-left.result c.requires.0 c.encode.ensures.0
    (omega (arith, c.reduced_len-left.ensures.0)) c.encode.ensures.1 c.encode.ensures.2 m long c.reduced_len-left.ensures.1
