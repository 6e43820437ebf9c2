-- What it means that a text was appended at a place.
use Rattle.std.specs.Prelude.{ℕ, ◌+◌, ◌≡◌, ◌++◌, length, take}
use Rattle.layout.specs.Words.{Bytes}

-- the text t stands from `at` up to r, and what stood before is kept; what follows is free
pub record Wrote (d₀ : Bytes) (at : ℕ) (t : Bytes) (d : Bytes) (r : ℕ) : Type 0 where
  pub size : length d ≡ length d₀
  pub next : r ≡ at + length t
  pub is : take r d ≡ take at d₀ ++ t
