-- The answer in its lent table.
use Rattle.std.specs.Prelude.{ℕ, ◌≡◌}
use Rattle.layout.specs.Words.{Bytes}
use Rattle.writer.specs.Wrote.{Wrote}
use Rattle.answer_text.specs.declared.Answer.{Answer}

-- the same table is lent
abbrev pub AnswerHeld : Answer → Answer → Type 0
AnswerHeld o n = n.bytes.ghost_name ≡ o.bytes.ghost_name

-- the text t stands in its first r bytes
pub record Answered (o : Answer) (t : Bytes) (n : Answer) (r : ℕ) : Type 0 where
  pub held : AnswerHeld o n
  pub wrote : Wrote o.bytes.now 0 t n.bytes.now r
