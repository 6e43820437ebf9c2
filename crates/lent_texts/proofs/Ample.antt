-- Tables of the highest size hold a state under any limits that a caller may give.
use Prim.Native.Nat.{ℕ}
use native.Mathlib.Omega.{arith}
use mathlib.Core.Path.{◌≡◌, refl}
use mathlib.Core.List.{List}
use lib.IntN.{ℤ}
use lib.ListN.{length}
use Rattle.qbf.specs.Formula.{highest, capped}
use Rattle.state_parts.specs.Parts.{cell_count, literal_count, Whole}
use Rattle.lent_texts.specs.declared.TheConstants.{CELLS, LITERALS}
use Rattle.lent_texts.specs.Whole.{IfWhole}

pub cells_are : CELLS ≡ cell_count highest
cells_are = refl

pub literals_are : LITERALS ≡ literal_count highest
literals_are = refl

module _ (n m : ℕ) (cells : List ℕ) (literals : List ℤ) (h : length cells ≡ CELLS) (k : length literals ≡ LITERALS) where
  pub ample : Whole (capped n m) cells literals
  ample = record { cells_room = omega (arith, h); literals_room = omega (arith, k) }

  -- what is owed of whole tables is owed
  pub ample_told : {A B : Type 0} → IfWhole (capped n m) cells literals A B → A
  ample_told {A} {B} w = w.whole ample
