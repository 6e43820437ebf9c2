-- What a read leaves in a table.
use Rattle.std.specs.Prelude.{ℕ, ◌+◌, ◌≤◌, ◌≡◌, List, length, take}

-- r bytes came behind the first `held`, which stay
pub record More (held : ℕ) (before : List ℕ) (r : ℕ) (after : List ℕ) : Type 0 where
  pub size : length after ≡ length before
  pub room : held ≤ length before → held + r ≤ length before
  pub kept : held ≤ length before → take held after ≡ take held before
