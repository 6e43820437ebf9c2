-- An item that may end a call's line: where its word stands, the words before it, and what the answer of its line says.
use Rattle.std.specs.Prelude.{ℕ, ◌<◌, ◌-◌, ◌≡◌, List, [], ◌∷◌, ◌⊎◌, length, take}
use Rattle.std.specs.Prelude.{Option as Answer, Some, None}
use Rattle.std.proofs.Math.Option.{Option, none, some}
use Rattle.layout.specs.Words.{Bytes, space, split}
use Rattle.layout.specs.Forms.{then}
use Rattle.layout.specs.Endings.{last_item, Ended, item, ended, after}
use Rattle.std.specs.Borrow.{Bor}
use Rattle.reader.specs.Pieces.{pieces}
use Rattle.reader.specs.declared.ending.Ending.{Ending}
use Rattle.reader.specs.declared.ending.Begun.{Begun}
use Rattle.reader.specs.Numbers.{num_of}

-- what stands before the last n bytes of a text, and before the space in front of them; nothing where they are all of it
abbrev pub Before : Bytes → ℕ → Answer (Bor Bytes) → Type 0
Before s n None = length s ≡ n
Before s n (Some b) = (n < length s) × (b.now ≡ take (length s - n - 1) s)

-- words that begin no item, before others
abbrev pub behind : List Bytes → Option Ended → Option Ended
behind [] o = o
behind (w ∷ ws) o = then (behind ws o) (after w)

-- where the item's word begins, or none begins
abbrev pub BegunRead : Bytes → Bytes → Answer Begun → Type 0
BegunRead word s None = (number : Bytes → Option ℕ) → ended word number (split space s) ≡ some (record { words = split space s; last = none })
BegunRead word s (Some b) =
    (number : Bytes → Option ℕ) → ended word number (split space s) ≡ behind (pieces space b.before) (then (last_item number (pieces space b.left)) item)

-- Outside the form: what follows the item's word is no item, or no word stands before it.
abbrev pub EndedRead : Option Ended → Answer Ending → Type 0
EndedRead o None = (o ≡ none) ⊎ ((n : ℕ) × (o ≡ some (record { words = []; last = some n })))
EndedRead o (Some z) = o ≡ some (record { words = split space z.words.now; last = num_of z.number })
