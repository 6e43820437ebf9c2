-- Where the parts of eight places lie in a long slice: one behind another from its front, each as long as its room says, or as the slice leaves it.
use Rattle.std.specs.Prelude.{ℕ, ◌+◌, ◌-◌, ◌≡◌, min, sum, List, length, get_or, take, drop}
use Rattle.state_parts.specs.Parts.{part}
use Rattle.places.specs.declared.rooms.Bounds.{Bounds}

-- places count from 1
abbrev pub start : List ℕ → ℕ → ℕ
start rooms place = sum (take (place - 1) rooms)

abbrev pub room : List ℕ → ℕ → ℕ
room rooms place = get_or rooms (place - 1) 0

-- the tables of a place
abbrev pub part_at : {A : Type 0} → List ℕ → ℕ → List A → List A
part_at rooms place t = part (start rooms place) (room rooms place) t

-- the part from s on with r cells, in a slice of n
pub record BoundsOf (s r n : ℕ) (b : Bounds) : Type 0 where
  pub from : b.from ≡ min s n
  pub to : b.to ≡ min (s + r) n

-- one slice is another but for the part of a place
pub record Beside {A : Type 0} (rooms : List ℕ) (place : ℕ) (t t' : List A) : Type 0 where
  pub long : length t' ≡ length t
  pub before : take (start rooms place) t' ≡ take (start rooms place) t
  pub behind : drop (start rooms place + room rooms place) t' ≡ drop (start rooms place + room rooms place) t
