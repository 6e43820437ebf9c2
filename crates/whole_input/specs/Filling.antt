-- An input read into a table, read by read, as `input::read_all` does it.
use Rattle.std.specs.Prelude.{ℕ, ◌+◌, ◌≤◌, ◌≡◌, [], ◌++◌, length, take, drop}
use Rattle.layout.specs.Words.{Bytes}
use Rattle.input.specs.More.{More}

-- One read behind what is held: the next bytes of the input, any number of them; none only where the input has ended.
pub record Read (text : Bytes) (held : ℕ) (input : Bytes) : Type 0 where
  pub got : ℕ
  pub after : Bytes
  pub rest : Bytes
  pub more : More held text got after
  pub next : input ≡ take got (drop held after) ++ rest
  pub none : got ≡ 0 → input ≡ []

-- Reads until the table is full or one brings nothing: the table d then, and how many bytes it holds.
pub data Fills : Bytes → ℕ → Bytes → Bytes → ℕ → Type 0 where
  full : {d input : Bytes} {held : ℕ} → length d ≤ held → Fills d held input d held
  ended : {text input : Bytes} {held : ℕ} (x : Read text held input) → x.got ≡ 0 → Fills text held input x.after held
  more : {text input d : Bytes} {held r : ℕ} (x : Read text held input) → Fills x.after (held + x.got) x.rest d r → Fills text held input d r
