-- What the answers of items say, and how the literals of a text are kept in 16 bits.
use Rattle.std.specs.Prelude.{ℕ, suc, ◌≤◌, min, ◌≡◌, Bool, List, map, length, take, ℤ, pos, negsuc}
use Rattle.std.specs.Prelude.{Option as Answer, Some, None}
use Rattle.std.proofs.Math.Option.{Option, none, some}
use Rattle.qbf.specs.Formula.{Literal, highest}
use Rattle.layout.specs.Words.{Bytes, space, split}
use Rattle.layout.specs.Forms.{consed, items}
use Rattle.reader.specs.Pieces.{pieces, cut_bytes, size_left}
use Rattle.reader.specs.declared.item.Item.{Item}

-- ---- 16 bits
-- Numbers of a text have up to 5 digits. A number that is no variable's under any limits is kept as the first that is none: no refusal changes.
abbrev pub narrow : ℕ → ℕ
narrow n = min n (suc highest.numbers)

abbrev pub narrowed : Literal → Literal
narrowed (pos n) = pos (narrow n)
narrowed (negsuc n) = negsuc (min n highest.numbers)

unfoldable pub all_narrowed : Option (List Literal) → Option (List Literal)
all_narrowed none = none
all_narrowed (some ls) = some (map narrowed ls)

-- ---- one item
-- the first literal of some words, narrowed, and the words that are left behind it
abbrev pub ItemRead : Bool → Bytes → Answer Item → Type 0
ItemRead signed s None = items signed (split space s) ≡ none
ItemRead signed s (Some i) =
    (size_left i.left ≤ length s)
    × (all_narrowed (items signed (split space s)) ≡ consed (λ x. x) (some i.literal) (all_narrowed (items signed (pieces space i.left))))
    × ((w : Bytes) × (s ≡ cut_bytes space w i.left))

-- ---- all items of a line
-- n literals are told, and as many of them as the table holds stand in it, narrowed
pub record Kept (n : ℕ) (out : List ℤ) (ls : List Literal) : Type 0 where
  pub count : n ≡ length ls
  pub first : take n out ≡ take (length out) (map narrowed ls)

abbrev pub Filled : Option (List Literal) → Answer ℕ → List ℤ → Type 0
Filled o None out = o ≡ none
Filled o (Some n) out = (ls : List Literal) × (o ≡ some ls) × Kept n out ls
