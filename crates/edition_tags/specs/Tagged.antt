-- The text of a tag.
use Rattle.std.specs.Prelude.{ℕ, ◌≤◌, ◌≡◌, length, take}
use Rattle.layout.specs.Words.{Bytes}
use Rattle.editions.specs.Converting.{tag_text}

-- no tag of a text of 65,536 bytes is longer, and no rule form has a higher number
abbrev pub most_tag : ℕ
most_tag = 12

abbrev pub most_number : ℕ
most_number = 65537

-- the text of the tag k stands in the first r bytes
pub record Tagged (k : ℕ) (d : Bytes) (r : ℕ) : Type 0 where
  pub count : r ≡ length (tag_text k)
  pub few : r ≤ most_tag
  pub is : take r d ≡ tag_text k
