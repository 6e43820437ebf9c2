-- One word is written: with the number's bit it has the number too.
use mathlib.Core.Path.{sym, subst}
use mathlib.Core.List.{List}
use Prim.Native.Nat.{ℕ, ◌+◌, ◌/◌, ◌%◌}
use native.Mathlib.Nat.{mod-lt, zero-lt-suc}
use lib.ListN.{get_or, set}
use lib.Bits.{bit_or}
use Rattle.bitset.specs.Rows.{width, Inserted}
use Rattle.bitset.proofs.Members.{inserted, shifted_bit}
use Rattle.bitset.proofs.rows.insert.Goals as goal

pub returns : goal.returns
returns c = let t : List ℕ = c.args.t.now in
    let from : ℕ = c.args.from in
    let i : ℕ = c.args.i in
    subst
    (λ (bit : ℕ). Inserted from i t (set t (from + i / width) (bit_or (get_or t (from + i / width) 0) bit)))
    (sym (shifted_bit (i % width) (mod-lt i (zero-lt-suc 63))))
    (inserted t from i c.requires)
