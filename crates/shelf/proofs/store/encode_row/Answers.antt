-- `encode_row` meets its contract: the part that was lent is put back behind the length.
use native.Mathlib.Omega.{arith}
use Prim.Native.Nat.{◌+◌, ◌-◌}
use lib.ListN.{length}
use Rattle.shelf.proofs.Encoding.{row_coded}
use Rattle.shelf.proofs.store.encode_row.Goals as goal

pub returns : goal.returns
returns c =
    row_coded c.args.literals.now c.args.places.now c.args.at (c.args.at + 1 + length c.args.literals.now - (c.args.at + 1)) c.args.cells.now c.encode.new.cells c.requires.0 (omega arith)
    c.encode.ensures.0 c.encode.ensures.1 c.encode.ensures.2
