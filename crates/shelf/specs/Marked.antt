-- The mark below which the numbers by last code stand.
use Rattle.std.specs.Prelude.{ℕ, ◌≤◌, ◌<◌, ◌≡◌, List, length, get_or}
use Rattle.tables.specs.Shelves.{code_count, newest_of, mark_of, head_of, link_of}

-- the cells of a part are 0, and no other is written
pub record PartCleared (from to : ℕ) (links links' : List ℕ) : Type 0 where
  pub long : length links' ≡ length links
  pub inside : (i : ℕ) → from ≤ i → i < to → get_or links' i 0 ≡ 0
  pub before : (i : ℕ) → i < from → get_or links' i 0 ≡ get_or links i 0
  pub behind : (i : ℕ) → to ≤ i → get_or links' i 0 ≡ get_or links i 0

-- the mark is above the code, and what the links say is what they said
pub record Marked (code : ℕ) (links links' : List ℕ) : Type 0 where
  pub long : length links' ≡ length links
  pub above : code < mark_of links'
  pub newest : newest_of links' ≡ newest_of links
  pub head : (c : ℕ) → c < code_count → head_of links' c ≡ head_of links c
  pub link : (j : ℕ) → link_of links' j ≡ link_of links j
