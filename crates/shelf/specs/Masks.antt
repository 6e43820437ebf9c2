-- A set of codes as the bits of one word, two codes sharing a bit where they are equal modulo 64: whether all codes of a row have one status is asked
-- of its word first, which is the union of their bits.
use Rattle.std.specs.Prelude.{ℕ, ◌%◌, ◌^◌, ◌<◌, ◌≡◌, true, List, length, get_or, eqb}
use Rattle.std.specs.Int.Bits.{bit_and}
use Rattle.std.proofs.Props.{props}
use Rattle.bitset.specs.Rows.{width}
use Rattle.qbf.specs.Formula.{paper, highest}
use Rattle.tables.specs.Codes.{all_are}
use Rattle.tables.specs.Shelves.{row_at}

unfoldable pub bit : ℕ → ℕ
bit c = 2 ^ (c % width)

-- the word has the bit of each code that has the status
pub record Noted (statuses : List ℕ) (want word : ℕ) : Type 0 where
  pub has : (c : ℕ) → eqb (get_or statuses c 0) want ≡ true → bit_and (bit c) word ≡ bit c

-- the row's word lies within each such word where all its codes have the status
pub record Masks (mask : ℕ) (row : List ℕ) : Type 0 where
  pub within : (statuses : List ℕ) (want word : ℕ) → Noted statuses want word → all_are statuses want row ≡ true → bit_and mask word ≡ mask

-- each slot has a word, and its row is masked by it
pub record Masked (stride slots : ℕ) (cells masks : List ℕ) : Type 0 where
  pub long : length masks ≡ slots
  pub each : (j : ℕ) → j < slots → Masks (get_or masks j 0) (row_at stride cells j)

abbrev pub EntriesMasked : List ℕ → List ℕ → Type 0
EntriesMasked cells masks = Masked highest.numbers paper.constraints cells masks

-- that they are has one proof at most: a shelf keeps it as a ghost field
Masks-prop : (mask : ℕ) (row : List ℕ) → IsProp (Masks mask row)
Masks-prop mask row = hlevel props

pub Masked-prop : (stride slots : ℕ) (cells masks : List ℕ) → IsProp (Masked stride slots cells masks)
Masked-prop stride slots cells masks = hlevel (props, Masks-prop)

pub EntriesMasked-prop : (cells masks : List ℕ) → IsProp (EntriesMasked cells masks)
EntriesMasked-prop cells masks = Masked-prop highest.numbers paper.constraints cells masks
