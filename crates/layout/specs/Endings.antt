-- An item that may end a call's line: "`C` stands for an optional last item `(ceiling N)`", and before it "`(bytes B)` optional". Paper 02,
-- wishes 8 and 9.
use Rattle.std.specs.Prelude.{ℕ, cond, List, [], ◌∷◌, leb}
use Rattle.std.proofs.Math.Option.{Option, none, some}
use Rattle.qbf.specs.Ceiling.{highest_ceiling}
use Rattle.layout.specs.Words.{Bytes, ascii, same, number_within, closed}
use Rattle.layout.specs.Forms.{then}
use Rattle.layout.specs.Program.{table_bytes}

-- ---- its number
-- "a larger N .. is 1"
abbrev pub within : ℕ → ℕ → Option ℕ
within top n = cond (leb n top) (some n) none

-- at most so many digits, "no leading zero", and no more than the highest
unfoldable pub number_up_to : ℕ → ℕ → Bytes → Option ℕ
number_up_to most top w = then (number_within most w) (within top)

-- ---- the words of a line
-- after the item's word: a number with a closing bracket, and nothing else
abbrev pub last_item : (Bytes → Option ℕ) → List Bytes → Option ℕ
last_item number [] = none
last_item number (w ∷ []) = then (closed w) number
last_item number (w ∷ v ∷ ws) = none

-- the words before the item, and its number where it is given
pub record Ended : Type 0 where
  pub words : List Bytes
  pub last : Option ℕ

abbrev pub item : ℕ → Option Ended
item n = some (record { words = []; last = some n })

abbrev pub after : Bytes → Ended → Option Ended
after w z = some (record { words = w ∷ z.words; last = z.last })

-- by the item's word and the form of its number
unfoldable pub ended : Bytes → (Bytes → Option ℕ) → List Bytes → Option Ended
ended word number [] = some (record { words = []; last = none })
ended word number (w ∷ ws) = cond (same w word) (then (last_item number ws) item) (then (ended word number ws) (after w))

-- ---- the items
-- "any unsigned 32-bit number": "N from 0 to 4294967295, 1 to 10 digits, no leading zero"
abbrev pub ceiling_word : Bytes
ceiling_word = ascii "(ceiling"

abbrev pub ceiling_number : Bytes → Option ℕ
ceiling_number w = number_up_to 10 highest_ceiling w

-- "`B` is an optional number of table bytes, 0 to 65536", with the digits of a text's numbers
abbrev pub bytes_word : Bytes
bytes_word = ascii "(bytes"

abbrev pub bytes_number : Bytes → Option ℕ
bytes_number w = number_up_to 5 table_bytes w
