-- On two tables of the programs' sizes, whatever stands in them and whatever limits the arguments give, `qdimacs` prints the program's text for every byte string: nothing is asked of the tables any more.
use Prim.Native.Nat.{ℕ}
use mathlib.Core.Path.{◌≡◌}
use mathlib.Core.List.{List}
use lib.IntN.{ℤ}
use lib.ListN.{length}
use Rattle.qbf.specs.Formula.{capped}
use Rattle.layout.specs.Words.{Bytes}
use Rattle.lent_texts.specs.declared.TheConstants.{CELLS, LITERALS}
use Rattle.lent_texts.proofs.Ample.{ample_told}
use Rattle.qdimacs_printer.specs.Printing.{qdimacs_program, Printed, BookPrinted}

module _ (n k : ℕ) (cells : List ℕ) (literals : List ℤ) (h : length cells ≡ CELLS) (g : length literals ≡ LITERALS) (s : Bytes) {d : Bytes} {r : ℕ} where
  pub qdimacs_ample : BookPrinted (capped n k) cells literals s r d → Printed (qdimacs_program (capped n k) s) r d
  qdimacs_ample w = ample_told n k cells literals h g w
