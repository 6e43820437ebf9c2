-- The card: its lines by the paper's sentence, their order, and the bytes of the table. Paper 01, "Calls and card".
use Rattle.std.specs.Prelude.{ℕ, ◌*◌, ◌-◌, ◌≤◌, ◌<◌, ◌≡◌, ◌⊎◌, Bool, true, false, ◌&&◌, List, [], ◌∷◌, ◌++◌, map, length, take, drop, replicate}
use Rattle.std.specs.Bool.{beq}
use Rattle.qbf.specs.Formula.{Prefix, quantifiers, Clause, Node}
use Rattle.qbf.specs.Truth.{Verdict, has_verdict, free_variables}

abbrev pub Mem : {A : Type 0} → A → List A → Type 0
Mem x [] = ⊥
Mem x (y ∷ ys) = (x ≡ y) ⊎ Mem x ys

-- ---- lines
-- "A line is a Yes node within the flags (the empty node if f = 0) with no shorter Yes node above it."
-- The verdict p is Yes for a card; a No line (p false) has the same definition.
pub record IsLine (p : Verdict) (D : Prefix) (R : List Clause) (s : Node) : Type 0 where
  pub within : length s ≤ free_variables D
  pub decided : has_verdict p D R (drop (length s) (quantifiers D)) s ≡ true
  pub topmost : (k : ℕ) → k < length s → has_verdict p D R (drop k (quantifiers D)) (take k s) ≡ false

-- "it lies on a line if it agrees with each flag set there"
abbrev pub lies_on : Node → Node → Bool
lies_on [] t = true
lies_on (b ∷ s) [] = false
lies_on (b ∷ s) (c ∷ t) = beq b c && lies_on s t

-- "Lines come in order, off before on at the first difference." Of two nodes so ordered neither is a part of the other.
abbrev pub Before : Node → Node → Type 0
Before [] t = ⊥
Before (b ∷ s) [] = ⊥
Before (false ∷ s) (true ∷ t) = Unit {0}
Before (true ∷ s) (false ∷ t) = ⊥
Before (false ∷ s) (false ∷ t) = Before s t
Before (true ∷ s) (true ∷ t) = Before s t

-- each is before all later ones
abbrev pub Rises : List Node → Type 0
Rises [] = Unit {0}
Rises (s ∷ ss) = ((t : Node) → Mem t ss → Before s t) × Rises ss

-- ---- the table
-- "0 open, 1 off, 2 on"
abbrev pub byte_of : Bool → ℕ
byte_of true = 2
byte_of false = 1

-- "A line is f bytes in place order"
abbrev pub line_bytes : ℕ → Node → List ℕ
line_bytes f s = map byte_of s ++ replicate (f - length s) 0

abbrev pub bytes_of : ℕ → List Node → List ℕ
bytes_of f [] = []
bytes_of f (s ∷ ss) = line_bytes f s ++ bytes_of f ss

-- "Bytes after the last line are zero."
abbrev pub table_of : ℕ → ℕ → List Node → List ℕ
table_of f size ls = bytes_of f ls ++ replicate (size - length ls * f) 0

-- "A refusal .. zeroes the card table."
abbrev pub zero_table : ℕ → List ℕ
zero_table size = replicate size 0
