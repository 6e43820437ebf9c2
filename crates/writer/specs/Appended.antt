-- Appending to an output.
use Rattle.std.specs.Prelude.{◌+◌, ◌≡◌, ◌≤◌, length}
use Rattle.layout.specs.Words.{Bytes}
use Rattle.writer.specs.declared.Output.{Output}
use Rattle.writer.specs.Wrote.{Wrote}

-- there is room for the text t
abbrev pub Room : Output → Bytes → Type 0
Room o t = o.at + length t ≤ length o.bytes.now

-- the text t stands behind what the output o had, in the same table
pub record Appended (o : Output) (t : Bytes) (n : Output) : Type 0 where
  pub same : n.bytes.ghost_name ≡ o.bytes.ghost_name
  pub wrote : Wrote o.bytes.now o.at t n.bytes.now n.at
