-- What is printed for a text, in every lent table.
use Rattle.std.specs.Prelude.{ℕ, ◌≤◌, ◌<◌, ◌≡◌, length, take}
use Rattle.layout.specs.Words.{Bytes}
use Rattle.layout.specs.Output.{refusal_text}
use Rattle.book_writer.specs.declared.Written.{Written}
use Rattle.answer_text.specs.Room.{answer_bytes, TooShort}

-- the text t stands at the start of the table d, or the table is too short
pub record Prints (t d₀ : Bytes) (r : Written) (d : Bytes) : Type 0 where
  pub short : length d₀ < answer_bytes → TooShort r.refusal r.length d₀ d
  pub printed : answer_bytes ≤ length d₀ → (r.refusal ≡ 0) × (r.length ≤ length d) × (take r.length d ≡ t)

-- a refused text: its number and its line
abbrev pub PrintsRefusal : ℕ → ℕ → Bytes → Written → Bytes → Type 0
PrintsRefusal n line d₀ r d = Prints (refusal_text n line) d₀ r d
