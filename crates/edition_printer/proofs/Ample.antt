-- On two tables of the programs' sizes, whatever stands in them and whatever limits the arguments give, `tag` and `untag` print the program's text for every byte string: nothing is asked of the tables any more.
use Prim.Native.Nat.{ℕ}
use mathlib.Core.Path.{◌≡◌}
use mathlib.Core.List.{List}
use lib.IntN.{ℤ}
use lib.ListN.{length}
use Rattle.qbf.specs.Formula.{capped}
use Rattle.layout.specs.Words.{Bytes}
use Rattle.writer.specs.Wrote.{Wrote}
use Rattle.lent_texts.specs.declared.TheConstants.{CELLS, LITERALS}
use Rattle.lent_texts.proofs.Ample.{ample_told}
use Rattle.edition_printer.specs.Printing.{tag_program, untag_program, TaggedWritten, UntaggedWritten}

module _ (n k : ℕ) (cells : List ℕ) (literals : List ℤ) (h : length cells ≡ CELLS) (g : length literals ≡ LITERALS) (s : Bytes) {d₀ d : Bytes} {r : ℕ} where
  pub tag_ample : TaggedWritten (capped n k) cells literals s d₀ d r → Wrote d₀ 0 (tag_program (capped n k) s) d r
  tag_ample w = ample_told n k cells literals h g w

  pub untag_ample : UntaggedWritten (capped n k) cells literals s d₀ d r → Wrote d₀ 0 (untag_program (capped n k) s) d r
  untag_ample w = ample_told n k cells literals h g w
